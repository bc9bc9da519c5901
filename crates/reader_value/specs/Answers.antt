-- What the answer of `read` means.
--
--   read_answer r  the value, or the error's number and place
--   row_of_value v  document 01's numbers for each case of a value (`ValueRow`): kind, number, count, first. An integer is of
--                 kind 1 from 0 on, else of kind 2
--   row_answer r   the value in document 01's numbers, or the error's number and place
use Rattle.std.specs.Prelude.{pos, negsuc, Result}
use Rattle.prelude.specs.Answer.{Answer}
use Rattle.error.specs.Error.{Fault, answered}
use Rattle.error.specs.declared.Error.{Error}
use Rattle.reader_value.specs.declared.Value.{Value}
use Rattle.reader_value.specs.declared.Value.TheVariants.{False, True, Null, Integer, Float32, Float64, Text, Bytes}
use Rattle.reader_value.specs.declared.Value.TheVariants.{Array, Map, Tag, Variant, Variant1, VariantN, Reference, Pointer}
use Rattle.reader_value.specs.Row.{ValueRow, value_row}

abbrev pub read_answer : Result Value Error → Answer Fault Value
read_answer = answered (λ v. v)

abbrev pub row_of_value : Value → ValueRow
row_of_value False = value_row 0 (pos 0) 0 0
row_of_value True = value_row 0 (pos 1) 0 0
row_of_value Null = value_row 0 (pos 2) 0 0
row_of_value (Integer (pos n)) = value_row 1 (pos n) 0 0
row_of_value (Integer (negsuc n)) = value_row 2 (negsuc n) 0 0
row_of_value (Float32 bits) = value_row 3 (pos bits) 4 0
row_of_value (Float64 bits) = value_row 3 (pos bits) 8 0
row_of_value (Text first len) = value_row 4 (pos len) len first
row_of_value (Bytes first len) = value_row 5 (pos len) len first
row_of_value (Array items first) = value_row 6 (pos items) items first
row_of_value (Map pairs items first) = value_row 7 (pos pairs) items first
row_of_value (Tag tag item) = value_row 8 (pos tag) 1 item
row_of_value (Variant index) = value_row 10 (pos index) 0 0
row_of_value (Variant1 index item) = value_row 11 (pos index) 1 item
row_of_value (VariantN index items first) = value_row 12 (pos index) items first
row_of_value (Reference target) = value_row 14 (pos target) 0 0
row_of_value (Pointer target) = value_row 15 (pos target) 0 0

abbrev pub row_answer : Result Value Error → Answer Fault ValueRow
row_answer = answered row_of_value
