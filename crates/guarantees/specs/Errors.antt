-- Which errors each call can give (document 01, "Numbers of refusal", "Check and depths", "Questions at an offset", "Writer"; document 02, W-201 and
-- W-203), by their numbers. Each list has OVERLONG in the strict mode alone.
--
--   check_errors mode
--                  check and depths: 1 to 11, 19 and 20
--   read_errors mode
--                  reading and following: of the file and the offset, of a token that is read as a value of its own, so not NESTED, and BAD_TARGET of
--                  a target below 0. Text bytes are not looked at
--   skip_errors mode
--                  skipping: also NESTED, of an item
--   item_errors mode
--                  item access and lookup: also NO_ITEM and WRONG_KIND
--   body_errors mode
--                  bodies: those of following, and WRONG_KIND
--   NeverOverlong  in the tolerant mode no reading call gives OVERLONG, on any input (W-203)
use Rattle.std.specs.Prelude.{ℕ, ◌≡◌, List, [], ◌∷◌, ◌++◌}
use Rattle.prelude.specs.Answer.{error}
use Rattle.error.specs.Error.{fault, EMPTY, TOO_LONG, TRUNC, RESERVED, RANGE, NESTED, BAD_TEXT, BAD_TARGET, FULL, BAD_ENTRY, OUTSIDE, NO_ITEM}
use Rattle.error.specs.Error.{OVERLONG, WRONG_KIND, LONG_BODY, LONG_LIST}
use Rattle.leb128.specs.declared.Mode.{Mode}
use Rattle.leb128.specs.declared.Mode.TheVariants.{Tolerant}
use Rattle.reader_region.specs.Region.{peek_of}
use Rattle.reader_value.specs.Value.{read_of}
use Rattle.reader_items.specs.Items.{skip_of, item_of}
use Rattle.reader_follow.specs.Follow.{follow_of}
use Rattle.reader_body.specs.Body.{body_place_of}
use Rattle.reader_lookup.specs.Lookup.{lookup_of}
use Rattle.checker.specs.Check.{check_of}
use Rattle.depths.specs.Depths.{depths_of}
use Rattle.guarantees_faults.specs.Faults.{overlong_in}

abbrev pub check_errors : Mode → List ℕ
check_errors mode =
    (EMPTY ∷ TOO_LONG ∷ TRUNC ∷ RESERVED ∷ RANGE ∷ NESTED ∷ BAD_TEXT ∷ BAD_TARGET ∷ FULL ∷ BAD_ENTRY ∷ LONG_BODY ∷ LONG_LIST ∷ []) ++ overlong_in mode

abbrev pub read_errors : Mode → List ℕ
read_errors mode = (EMPTY ∷ TOO_LONG ∷ TRUNC ∷ RESERVED ∷ RANGE ∷ BAD_TARGET ∷ OUTSIDE ∷ LONG_BODY ∷ LONG_LIST ∷ []) ++ overlong_in mode

abbrev pub skip_errors : Mode → List ℕ
skip_errors mode = NESTED ∷ read_errors mode

abbrev pub item_errors : Mode → List ℕ
item_errors mode = NO_ITEM ∷ WRONG_KIND ∷ skip_errors mode

abbrev pub body_errors : Mode → List ℕ
body_errors mode = WRONG_KIND ∷ read_errors mode

pub record NeverOverlong : Type 0 where
  pub check : (file : List ℕ) (cap p : ℕ) → (check_of Tolerant file cap).answer ≡ error (fault OVERLONG p) → ⊥
  pub depths : (file : List ℕ) (cap room p : ℕ) → (depths_of Tolerant file cap room).answer ≡ error (fault OVERLONG p) → ⊥
  pub peek : (file : List ℕ) (at p : ℕ) → peek_of Tolerant file at ≡ error (fault OVERLONG p) → ⊥
  pub read : (file : List ℕ) (at p : ℕ) → read_of Tolerant file at ≡ error (fault OVERLONG p) → ⊥
  pub skip : (file : List ℕ) (at p : ℕ) → skip_of Tolerant file at ≡ error (fault OVERLONG p) → ⊥
  pub item : (file : List ℕ) (at i p : ℕ) → item_of Tolerant file at i ≡ error (fault OVERLONG p) → ⊥
  pub follow : (file : List ℕ) (at p : ℕ) → follow_of Tolerant file at ≡ error (fault OVERLONG p) → ⊥
  pub lookup : (file : List ℕ) (at : ℕ) (key : List ℕ) (p : ℕ) → lookup_of Tolerant file at key ≡ error (fault OVERLONG p) → ⊥
  pub body : (file : List ℕ) (at p : ℕ) → body_place_of Tolerant file at ≡ error (fault OVERLONG p) → ⊥
