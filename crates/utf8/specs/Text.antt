-- Text (document 01, "Row of a file", with the second bytes of change request W-202): characters of one to four bytes, one
-- after the other; all else is BAD_TEXT. It is the grammar of RFC 3629, section 4.
--
--   Range, range a b  the numbers from lo to hi, both included
--   continuation      the bytes after the first of a character; after some first bytes the second is in a narrower range
--   forms             the forms of a character, a range for each byte: the one table of the rule
--   Matches f p       p has a byte in each range of f, and no other
--   Text s            s is a text: no bytes; or bytes that match a form, and then a text
--   within r b        whether b is in r
--   lead fs b         the ranges due after b if it begins a character: the rest of the first form of fs whose first
--                     range has b; `none`, a refusal, if no first range has it
--   next due b        the ranges due after b, if `due` were due before it; a refusal if b is not allowed there, or
--                     after a refusal
--   complete due      whether there was no refusal and nothing is due
--   text_from due s    whether s fills the ranges due, and then is a text; false after a refusal
--   is_text s          whether s is a text
use Rattle.std.specs.Prelude.{ℕ, ◌≤◌, Bool, true, false, ◌&&◌, leb}
use mathlib.Core.List.{List, [], ◌∷◌, ◌++◌, Memᴰ}
use Rattle.std.proofs.Math.Option.{Option, some, none}
use Rattle.prelude.specs.Pick.{pick}

pub record Range : Type 0 where
  pub lo : ℕ
  pub hi : ℕ

abbrev pub range : ℕ → ℕ → Range
range a b = record { lo = a; hi = b }

abbrev pub continuation : Range
continuation = range 0x80 0xBF

abbrev pub forms : List (List Range)
forms =
    (range 0x00 0x7F ∷ [])
    ∷ (range 0xC2 0xDF ∷ continuation ∷ [])
    ∷ (range 0xE0 0xE0 ∷ range 0xA0 0xBF ∷ continuation ∷ [])
    ∷ (range 0xE1 0xEC ∷ continuation ∷ continuation ∷ [])
    ∷ (range 0xED 0xED ∷ range 0x80 0x9F ∷ continuation ∷ [])
    ∷ (range 0xEE 0xEF ∷ continuation ∷ continuation ∷ [])
    ∷ (range 0xF0 0xF0 ∷ range 0x90 0xBF ∷ continuation ∷ continuation ∷ [])
    ∷ (range 0xF1 0xF3 ∷ continuation ∷ continuation ∷ continuation ∷ [])
    ∷ (range 0xF4 0xF4 ∷ range 0x80 0x8F ∷ continuation ∷ continuation ∷ [])
    ∷ []

-- ---- the grammar

pub data Matches : List Range → List ℕ → Type 0 where
  end : Matches [] []
  byte : {r : Range} {f : List Range} {b : ℕ} {p : List ℕ} → r.lo ≤ b → b ≤ r.hi → Matches f p → Matches (r ∷ f) (b ∷ p)

pub data Text : List ℕ → Type 0 where
  empty : Text []
  character : {f : List Range} {p s : List ℕ} → Memᴰ f forms → Matches f p → Text s → Text (p ++ s)

-- ---- the test

abbrev pub within : Range → ℕ → Bool
within r b = leb r.lo b && leb b r.hi

unfoldable pub lead : List (List Range) → ℕ → Option (List Range)
lead [] b = none
lead ([] ∷ fs) b = lead fs b
lead ((r ∷ f) ∷ fs) b = pick (within r b) (some f) (lead fs b)

unfoldable pub next : Option (List Range) → ℕ → Option (List Range)
next none b = none
next (some []) b = lead forms b
next (some (r ∷ f)) b = pick (within r b) (some f) none

abbrev pub complete : Option (List Range) → Bool
complete none = false
complete (some []) = true
complete (some (r ∷ f)) = false

unfoldable pub text_from : Option (List Range) → List ℕ → Bool
text_from due [] = complete due
text_from due (b ∷ s) = text_from (next due b) s

abbrev pub is_text : List ℕ → Bool
is_text s = text_from (some []) s
