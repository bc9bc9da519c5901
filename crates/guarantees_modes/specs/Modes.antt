-- The two modes of reading numbers (document 02, W-203): a file for which a call's strict answer is not OVERLONG gets the same answer in both.
--
--   IsOverlong a      the answer a is OVERLONG, at some place
--   ModesSame a call  a is OVERLONG, or the call returns the same in both modes; a is the call's strict answer, and what it returns may be more than that
--   AnswersSame call  the same for a call that returns its answer and nothing else
--   ModesAgree        each call that reads a file agrees in this way, for every file, offset, index, key and length of a table: check with its table of
--                     starts, depths with both tables, the queries, and the bytes of a body
use Rattle.std.specs.Prelude.{ℕ, ◌≡◌, ◌⊎◌, List}
use Rattle.prelude.specs.Answer.{Answer, error}
use Rattle.error.specs.Error.{Fault, fault, OVERLONG}
use Rattle.leb128.specs.declared.Mode.{Mode}
use Rattle.leb128.specs.declared.Mode.TheVariants.{Strict, Tolerant}
use Rattle.reader_region.specs.Region.{peek_of}
use Rattle.reader_value.specs.Value.{read_of}
use Rattle.reader_value.specs.Row.{read_row_of}
use Rattle.reader_items.specs.Items.{skip_of, item_of}
use Rattle.reader_follow.specs.Follow.{follow_head_of, follow_of}
use Rattle.reader_body.specs.Body.{body_place_of, body_of}
use Rattle.reader_lookup.specs.Lookup.{lookup_of}
use Rattle.checker.specs.Check.{check_of}
use Rattle.depths.specs.Depths.{depths_of}

abbrev pub IsOverlong : {A : Type 0} → Answer Fault A → Type 0
IsOverlong a = (p : ℕ) × (a ≡ error (fault OVERLONG p))

abbrev pub ModesSame : {A R : Type 0} → Answer Fault A → (Mode → R) → Type 0
ModesSame a call = IsOverlong a ⊎ (call Strict ≡ call Tolerant)

abbrev pub AnswersSame : {A : Type 0} → (Mode → Answer Fault A) → Type 0
AnswersSame call = ModesSame (call Strict) call

pub record ModesAgree : Type 0 where
  pub check : (file : List ℕ) (cap : ℕ) → ModesSame (check_of Strict file cap).answer (λ mode. check_of mode file cap)
  pub depths : (file : List ℕ) (cap room : ℕ) → ModesSame (depths_of Strict file cap room).answer (λ mode. depths_of mode file cap room)
  pub peek : (file : List ℕ) (at : ℕ) → AnswersSame (λ mode. peek_of mode file at)
  pub read : (file : List ℕ) (at : ℕ) → AnswersSame (λ mode. read_of mode file at)
  pub read_row : (file : List ℕ) (at : ℕ) → AnswersSame (λ mode. read_row_of mode file at)
  pub skip : (file : List ℕ) (at : ℕ) → AnswersSame (λ mode. skip_of mode file at)
  pub item : (file : List ℕ) (at i : ℕ) → AnswersSame (λ mode. item_of mode file at i)
  pub follow_head : (file : List ℕ) (at : ℕ) → AnswersSame (λ mode. follow_head_of mode file at)
  pub follow : (file : List ℕ) (at : ℕ) → AnswersSame (λ mode. follow_of mode file at)
  pub lookup : (file : List ℕ) (at : ℕ) (key : List ℕ) → AnswersSame (λ mode. lookup_of mode file at key)
  pub body_place : (file : List ℕ) (at : ℕ) → AnswersSame (λ mode. body_place_of mode file at)
  pub body_bytes : (file : List ℕ) (at : ℕ) → ModesSame (body_place_of Strict file at) (λ mode. body_of mode file at)
