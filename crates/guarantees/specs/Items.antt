-- How many items a value has, as reading returns it (document 01, "Questions at an offset": "kinds 6, 7, 8, 11, 12 have n, 2n, 1, 1 and the argument
-- count").
--
--   count_of v    the items of a value that was read; none of a kind that has no items
use Rattle.std.specs.Prelude.{ℕ}
use Rattle.std.proofs.Math.Option.{Option, none, some}
use Rattle.reader_value.specs.declared.Value.{Value}
use Rattle.reader_value.specs.declared.Value.TheVariants.{False, True, Null, Integer, Float32, Float64, Text, Bytes}
use Rattle.reader_value.specs.declared.Value.TheVariants.{Array, Map, Tag, Variant, Variant1, VariantN, Reference, Pointer}

abbrev pub count_of : Value → Option ℕ
count_of (Array n first) = some n
count_of (Map n items first) = some items
count_of (Tag n first) = some 1
count_of (Variant1 i first) = some 1
count_of (VariantN i n first) = some n
count_of False = none
count_of True = none
count_of Null = none
count_of (Integer z) = none
count_of (Float32 b) = none
count_of (Float64 b) = none
count_of (Text first len) = none
count_of (Bytes first len) = none
count_of (Variant i) = none
count_of (Reference x) = none
count_of (Pointer x) = none
