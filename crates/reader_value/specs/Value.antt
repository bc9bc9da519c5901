-- What reading one value returns (document 01, "Questions at an offset"): the kind, and everything that the header holds.
--
--   scalar n           false, true, null for 0, 1, 2
--   float s h          the bits of a float: 4 bytes if n is 0, else 8
--   value_rows s at h   the value with head h at the offset `at` of the region s: a row for each kind, in the order of
--                      the kinds; 9 and 13 are reserved and never read
--   value_on s at h     the row of its kind
--   read_in, read_of     the value at an offset of a region, and of a file: its faults as a query looks at a token;
--                      neither items nor text bytes are looked at, and a target only has to be 0 or more
use Rattle.std.specs.Prelude.{ℕ, ◌-◌, false, List, [], ◌∷◌, eqb, pos, negsuc, drop, get_or}
use Rattle.prelude.specs.Pick.{pick}
use Rattle.prelude.specs.Answer.{Answer, ok, bind}
use Rattle.error.specs.Error.{Fault}
use Rattle.leb128.specs.declared.Mode.{Mode}
use Rattle.little_endian.specs.LittleEndian.{load}
use Rattle.scan.specs.declared.Head.{Head}
use Rattle.reader_region.specs.Region.{in_region, peek_in}
use Rattle.reader_value.specs.declared.Value.{Value}
use Rattle.reader_value.specs.declared.Value.TheVariants.{False, True, Null, Integer, Float32, Float64, Text, Bytes, Array}
use Rattle.reader_value.specs.declared.Value.TheVariants.{Map, Tag, Variant, Variant1, VariantN, Reference, Pointer}

abbrev pub scalar : ℕ → Value
scalar n = pick (eqb n 0) False (pick (eqb n 1) True Null)

abbrev pub float : List ℕ → Head → Value
float s h = pick (eqb h.n 0) (Float32 (load 4 (drop h.first s))) (Float64 (load 8 (drop h.first s)))

abbrev pub value_rows : List ℕ → ℕ → Head → List Value
value_rows s at h =
    scalar h.n
    ∷ Integer (pos h.n)
    ∷ Integer (negsuc h.n)
    ∷ float s h
    ∷ Text h.first (h.end - h.first)
    ∷ Bytes h.first (h.end - h.first)
    ∷ Array h.items h.first
    ∷ Map h.n h.items h.first
    ∷ Tag h.n h.first
    ∷ Null
    ∷ Variant h.n
    ∷ Variant1 h.n h.first
    ∷ VariantN h.n h.items h.first
    ∷ Null
    ∷ Reference (at - h.n - 1)
    ∷ Pointer (at - h.n - 1)
    ∷ []

unfoldable pub value_on : List ℕ → ℕ → Head → Value
value_on s at h = get_or (value_rows s at h) h.kind Null

unfoldable pub read_in : Mode → List ℕ → ℕ → Answer Fault Value
read_in mode s at = bind (peek_in mode false s at) (λ h. ok (value_on s at h))

abbrev pub read_of : Mode → List ℕ → ℕ → Answer Fault Value
read_of mode file at = in_region file at (λ s. read_in mode s at)
