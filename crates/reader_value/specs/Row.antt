-- What reading one value returns, in document 01's numbers ("Row of a file" and "Questions at an offset"), with no word of
-- the code's enum.
--
--   ValueRow            kind    the kind number, 0 to 15
--                       number  the value's number: 0, 1 or 2 for false, true or null; the integer; the float's bits;
--                               the length, items, pairs, tag or variant index; of a reference or pointer the target
--                       count   how many bytes or items follow: the bytes of a float, text or byte string; the items of
--                               kinds 6, 7, 8, 11 and 12, which are n, 2n, 1, 1 and the argument count; else 0
--                       first   where these bytes or items start, if reading returns it; else 0, where no body starts
--   value_row k n c f    the row of these numbers
--   rows_on s at h       the row of the value with head h at the offset `at` of the region s: one for each kind, in the
--                       order of the kinds; 9 and 13 are reserved and never read
--   row_on s at h        the row of its kind
--   read_row_in, read_row_of
--                       the row of the value at an offset of a region, and of a file, or the error
use Rattle.std.specs.Prelude.{ℕ, ◌+◌, ◌-◌, ◌*◌, false, List, [], ◌∷◌, ℤ, pos, negsuc, drop, get_or}
use Rattle.prelude.specs.Answer.{Answer, ok, bind}
use Rattle.error.specs.Error.{Fault}
use Rattle.leb128.specs.declared.Mode.{Mode}
use Rattle.little_endian.specs.LittleEndian.{load}
use Rattle.scan.specs.declared.Head.{Head}
use Rattle.reader_region.specs.Region.{in_region, peek_in}

pub record ValueRow : Type 0 where
  pub kind : ℕ
  pub number : ℤ
  pub count : ℕ
  pub first : ℕ

abbrev pub value_row : ℕ → ℤ → ℕ → ℕ → ValueRow
value_row k n c f = record { kind = k; number = n; count = c; first = f }

abbrev pub rows_on : List ℕ → ℕ → Head → List ValueRow
rows_on s at h =
    let row = value_row h.kind in
    let n = h.n in
    let wide = 4 + 4 * n in
    let target = at - n - 1 in
    row (pos n) 0 0  -- false, true, null
    ∷ row (pos n) 0 0  -- the integer n
    ∷ row (negsuc n) 0 0  -- the integer -n-1
    ∷ row (pos (load wide (drop h.first s))) wide 0  -- a float's bits
    ∷ row (pos n) n h.first  -- text
    ∷ row (pos n) n h.first  -- byte string
    ∷ row (pos n) n h.first  -- array
    ∷ row (pos n) (2 * n) h.first  -- map
    ∷ row (pos n) 1 h.first  -- tag
    ∷ row (pos n) 0 0  -- reserved
    ∷ row (pos n) 0 0  -- variant of none
    ∷ row (pos n) 1 h.first  -- variant of one
    ∷ row (pos n) h.items h.first  -- variant of many
    ∷ row (pos n) 0 0  -- reserved
    ∷ row (pos target) 0 0  -- reference
    ∷ row (pos target) 0 0  -- pointer
    ∷ []

unfoldable pub row_on : List ℕ → ℕ → Head → ValueRow
row_on s at h = get_or (rows_on s at h) h.kind (value_row 0 (pos 2) 0 0)

unfoldable pub read_row_in : Mode → List ℕ → ℕ → Answer Fault ValueRow
read_row_in mode s at = bind (peek_in mode false s at) (λ h. ok (row_on s at h))

abbrev pub read_row_of : Mode → List ℕ → ℕ → Answer Fault ValueRow
read_row_of mode file at = in_region file at (λ s. read_row_in mode s at)
