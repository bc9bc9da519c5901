-- What `twine_read` returns for a value: its kind, its number, the offset just after the header's numbers, and its count.
--
--   float_bits file h   the bits of a float: 4 bytes if n is 0, else 8
--   row_c number count  a row: the number and the count of a value
--   rows_c file at h    the rows for a value with head h at `at`, one for each kind, in the order of the kinds. The
--                      number is the scalar's low nibble, the integer in two's complement, the float's bits, the body's
--                      length, the items, the pairs, the tag, the variant's index or the target; the count is the
--                      body's bytes or the items. Kinds 9 and 13 are reserved and never read
--   row_of file at h    the row of its kind
--   head_c file at a    the four words for a head; or the error's number, and its place and zeros
--   read_c mode file at
--                      the same for the value at an offset of a file
--   word_of z           an integer as a word, in two's complement
--   words_c after r     the four words by a value's row (`ValueRow`); after is the offset just after the numbers, for a row
--                      that does not have it
--   value_c after a     the four words, or the error's, by what `read` answers
--   after_numbers a     the offset just after the numbers of a head; 0 for an error
use Rattle.std.specs.Prelude.{ℕ, ◌-◌, ◌^◌, List, [], ◌∷◌, eqb, ℤ, pos, negsuc, drop, get_or}
use Rattle.prelude.specs.Pick.{pick}
use Rattle.prelude.specs.Answer.{Answer, ok, error}
use Rattle.error.specs.Error.{Fault}
use Rattle.leb128.specs.declared.Mode.{Mode}
use Rattle.little_endian.specs.LittleEndian.{load}
use Rattle.scan.specs.declared.Head.{Head}
use Rattle.reader_region.specs.Region.{peek_of}
use Rattle.reader_value.specs.declared.Value.{Value}
use Rattle.reader_value.specs.Row.{ValueRow}
use Rattle.reader_value.specs.Answers.{row_of_value}
use Rattle.abi_answer.specs.declared.Row.{Row}
use Rattle.abi_error.specs.Reply.{Reply, reply}

abbrev pub float_bits : List ℕ → Head → ℕ
float_bits file h = pick (eqb h.n 0) (load 4 (drop h.first file)) (load 8 (drop h.first file))

abbrev pub row_c : ℕ → ℕ → Row
row_c number count = record { number = number; count = count }

abbrev pub rows_c : List ℕ → ℕ → Head → List Row
rows_c file at h =
    let n = h.n in
    let items = h.items in
    let body = h.end - h.first in
    let target = at - n - 1 in
    row_c n 0  -- false, true, null
    ∷ row_c n 0  -- the integer n
    ∷ row_c (2 ^ 64 - 1 - n) 0  -- the integer -n-1
    ∷ row_c (float_bits file h) body  -- float
    ∷ row_c body body  -- text
    ∷ row_c body body  -- byte string
    ∷ row_c n items  -- array
    ∷ row_c n items  -- map: pairs, and items
    ∷ row_c n items  -- tag
    ∷ row_c n 0  -- reserved
    ∷ row_c n 0  -- variant of none
    ∷ row_c n items  -- variant of one
    ∷ row_c n items  -- variant of many
    ∷ row_c n items  -- reserved
    ∷ row_c target 0  -- reference
    ∷ row_c target 0  -- pointer
    ∷ []

unfoldable pub row_of : List ℕ → ℕ → Head → Row
row_of file at h = get_or (rows_c file at h) h.kind (row_c 0 0)

abbrev pub head_c : List ℕ → ℕ → Answer Fault Head → Reply
head_c file at (ok h) = let r = row_of file at h in reply 0 (h.kind ∷ r.number ∷ h.first ∷ r.count ∷ [])
head_c file at (error e) = reply e.number (e.place ∷ 0 ∷ 0 ∷ 0 ∷ [])

abbrev pub read_c : Mode → List ℕ → ℕ → Reply
read_c mode file at = head_c file at (peek_of mode file at)

abbrev pub word_of : ℤ → ℕ
word_of (pos n) = n
word_of (negsuc n) = 2 ^ 64 - 1 - n

abbrev pub words_c : ℕ → ValueRow → Reply
words_c after r = reply 0 (r.kind ∷ word_of r.number ∷ pick (eqb r.first 0) after r.first ∷ r.count ∷ [])

abbrev pub value_c : ℕ → Answer Fault Value → Reply
value_c after (ok v) = words_c after (row_of_value v)
value_c after (error e) = reply e.number (e.place ∷ 0 ∷ 0 ∷ 0 ∷ [])

abbrev pub after_numbers : Answer Fault Head → ℕ
after_numbers (ok h) = h.first
after_numbers (error e) = 0
