-- The modes agree, and what follows from it for a file that is accepted in the strict mode.
use mathlib.Core.Path.{◌≡◌, sym, ap}
use mathlib.Core.Logic.{inl, inr}
use mathlib.Core.Bool.{false}
use mathlib.Core.List.{List}
use Prim.Native.Nat.{ℕ}
use Rattle.prelude.specs.Answer.{ok}
use Rattle.leb128.specs.declared.Mode.TheVariants.{Strict, Tolerant}
use Rattle.reader_follow.specs.Follow.{position}
use Rattle.reader_body.specs.Body.{body_part, body_place_of}
use Rattle.checker.specs.Check.{check_of}
use Rattle.depths.specs.Depths.{depths_of}
use Rattle.guarantees_modes.specs.Modes.{AnswersSame, ModesAgree}
use Rattle.guarantees_modes.proofs.Either.{agree_ok}
use Rattle.guarantees_modes.proofs.Queries.{same_in_region, same_peek_in, same_read_in, same_read_row_in, same_skip_in, same_item_in}
use Rattle.guarantees_modes.proofs.Queries.{same_follow_from, same_follow_in, same_body_place_in, same_lookup_in}
use Rattle.guarantees_modes.proofs.Checks.{check_agree}
use Rattle.guarantees_modes.proofs.Depths.{depths_agree}

place_agrees : (file : List ℕ) (at : ℕ) → AnswersSame (λ mode. body_place_of mode file at)
place_agrees file at = same_in_region file at (λ s. same_body_place_in s at)

pub modes_agree : ModesAgree
modes_agree = record {
  check = check_agree;
  depths = depths_agree;
  peek = λ file at. same_in_region file at (λ s. same_peek_in s false at);
  read = λ file at. same_in_region file at (λ s. same_read_in s at);
  read_row = λ file at. same_in_region file at (λ s. same_read_row_in s at);
  skip = λ file at. same_in_region file at (λ s. same_skip_in s at);
  item = λ file at i. same_in_region file at (λ s. same_item_in s at i);
  follow_head = λ file at. same_in_region file at (λ s. same_follow_from s (position at 0));
  follow = λ file at. same_in_region file at (λ s. same_follow_in s at);
  lookup = λ file at key. same_in_region file at (λ s. same_lookup_in s at key);
  body_place = place_agrees;
  body_bytes = λ file at. elim (place_agrees file at) [ inl o ↦ inl o | inr e ↦ inr (ap (body_part file) e) ];
}

-- ---- what the strict mode accepts, the tolerant one accepts, with the same count, entry and tables

pub tolerant_accepts : (file : List ℕ) (cap count entry : ℕ) → (check_of Strict file cap).answer ≡ ok (count, entry)
    → check_of Tolerant file cap ≡ check_of Strict file cap
tolerant_accepts file cap count entry e = sym (agree_ok (modes_agree.check file cap) (sym e))

pub tolerant_accepts_depths : (file : List ℕ) (cap room count entry : ℕ) → (depths_of Strict file cap room).answer ≡ ok (count, entry)
    → depths_of Tolerant file cap room ≡ depths_of Strict file cap room
tolerant_accepts_depths file cap room count entry e = sym (agree_ok (modes_agree.depths file cap room) (sym e))
