-- What this crate's private functions return.
--
--   ranges k lo hi       k ranges: the first from lo to hi, the others of continuation bytes
--   due_of d             the ranges due by `Due`; a refusal if there is none
--   allowed s i d        whether s has a byte at i, from d's low to its high
--   is_text_after n s    whether s has a text after n of its bytes; false if none may be passed
use Rattle.std.specs.Prelude.{ℕ, zero, suc, Bool, false, ◌&&◌, List, [], ◌∷◌, Some, None, ltb, length, get_or, drop, replicate}
use Rattle.std.specs.Prelude as std
use Rattle.std.proofs.Math.Option.{Option, some, none}
use Rattle.utf8.specs.Text.{Range, range, continuation, within, is_text}
use Rattle.utf8.specs.declared.Due.{Due}

abbrev pub ranges : ℕ → ℕ → ℕ → List Range
ranges zero lo hi = []
ranges (suc k) lo hi = range lo hi ∷ replicate k continuation

abbrev pub due_of : std.Option Due → Option (List Range)
due_of None = none
due_of (Some d) = some (ranges d.left d.low d.high)

unfoldable pub allowed : List ℕ → ℕ → Due → Bool
allowed s i d = ltb i (length s) && within (range d.low d.high) (get_or s i 0)

abbrev pub is_text_after : std.Option ℕ → List ℕ → Bool
is_text_after None s = false
is_text_after (Some n) s = is_text (drop n s)
