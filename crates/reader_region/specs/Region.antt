-- A file and its region (document 01, "Row of a file" and "Questions at an offset").
--
--   region_len len at    how long the region of a file of len bytes is, if the offset `at` is in it: all bytes but the
--                       last, which is the delta; else EMPTY, TOO_LONG, OUTSIDE, in this order
--   in_region file at k  k applied to the region, or `region_len`'s error
--   below at h          whether the token with head h at `at` is a reference or pointer that reaches below offset 0:
--                       its target would be at - n - 1, and n < at does not hold
--   peek_in mode inner s at
--                       the token at the offset `at` of the region s as a query looks at it, and as an item (NESTED) if
--                       `inner` is true: its faults, then BAD_TARGET if its target is below 0; text bytes and the
--                       rest about targets are not looked at
--   peek_of mode file at
--                       the same for a value at any offset of a file
use Rattle.std.specs.Prelude.{ℕ, ◌-◌, Bool, false, ◌&&◌, List, eqb, ltb, leb, length, take}
use Rattle.prelude.specs.Pick.{pick}
use Rattle.prelude.specs.Answer.{Answer, ok, error, bind}
use Rattle.error.specs.Error.{Fault, fault, LIMIT, EMPTY, TOO_LONG, OUTSIDE, BAD_TARGET}
use Rattle.leb128.specs.declared.Mode.{Mode}
use Rattle.scan.specs.Answers.{scan_at}
use Rattle.scan.specs.declared.Head.{Head}

unfoldable pub region_len : ℕ → ℕ → Answer Fault ℕ
region_len len at =
    pick (eqb len 0) (error (fault EMPTY 0))
    (pick (ltb LIMIT len) (error (fault TOO_LONG 0))
    (pick (ltb at (len - 1)) (ok (len - 1))
    (error (fault OUTSIDE at))))

unfoldable pub in_region : {A : Type 0} → List ℕ → ℕ → (List ℕ → Answer Fault A) → Answer Fault A
in_region file at k = bind (region_len (length file) at) (λ n. k (take n file))

abbrev pub below : ℕ → Head → Bool
below at h = leb 14 h.kind && leb at h.n

unfoldable pub peek_in : Mode → Bool → List ℕ → ℕ → Answer Fault Head
peek_in mode inner s at = bind (scan_at mode inner s at) (λ h. pick (below at h) (error (fault BAD_TARGET at)) (ok h))

abbrev pub peek_of : Mode → List ℕ → ℕ → Answer Fault Head
peek_of mode file at = in_region file at (λ s. peek_in mode false s at)
