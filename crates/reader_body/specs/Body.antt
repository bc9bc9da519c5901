-- The body of a text or byte string (document 01, "Questions at an offset"), in unchecked files.
--
--   body_place_on at h     first offset and length of the body of the value at `at` with head h; WRONG_KIND if it is
--                        neither a text nor a byte string
--   body_place_in mode s at
--                        the same for the value that `at` leads to, in a region
--   body_place_of mode file at
--                        the same in a file; it begins with `in_region`: EMPTY, TOO_LONG, OUTSIDE
--   body_part file a      the bytes at such a place; none on an error
--   body_of mode file at  the bytes of the body that `at` leads to; none on an error
--   Placed whole a part  a part of a file starts at such a place, and the empty part of an error where the file starts:
--                        `whole` and `part` are where file and part start in memory, a block and an offset in it
use Rattle.std.specs.Prelude.{ℕ, ◌+◌, ◌-◌, ◌≡◌, ◌||◌, List, [], eqb, take, drop}
use Rattle.prelude.specs.Pick.{pick}
use Rattle.prelude.specs.Answer.{Answer, ok, error, bind}
use Rattle.error.specs.Error.{Fault, fault, WRONG_KIND}
use Rattle.leb128.specs.declared.Mode.{Mode}
use Rattle.scan.specs.declared.Head.{Head}
use Rattle.reader_region.specs.Region.{in_region}
use Rattle.reader_follow.specs.Follow.{position, follow_from}

abbrev pub body_place_on : ℕ → Head → Answer Fault (ℕ × ℕ)
body_place_on at h = pick (eqb h.kind 4 || eqb h.kind 5) (ok (h.first, h.end - h.first)) (error (fault WRONG_KIND at))

unfoldable pub body_place_in : Mode → List ℕ → ℕ → Answer Fault (ℕ × ℕ)
body_place_in mode s at = bind (follow_from mode s (position at 0)) (λ m. body_place_on m.place m.head)

abbrev pub body_place_of : Mode → List ℕ → ℕ → Answer Fault (ℕ × ℕ)
body_place_of mode file at = in_region file at (λ s. body_place_in mode s at)

abbrev pub body_part : List ℕ → Answer Fault (ℕ × ℕ) → List ℕ
body_part file (ok p) = take p.1 (drop p.0 file)
body_part file (error e) = []

abbrev pub body_of : Mode → List ℕ → ℕ → List ℕ
body_of mode file at = body_part file (body_place_of mode file at)

abbrev pub Placed : ℕ × ℕ → Answer Fault (ℕ × ℕ) → ℕ × ℕ → Type 0
Placed whole (ok p) part = part ≡ (whole.0, p.0 + whole.1)
Placed whole (error e) part = part ≡ (whole.0, 0 + whole.1)
