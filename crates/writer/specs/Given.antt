-- The arguments that calls are given (document 01, "Writer": "integers are signed 64-bit, tags and counts unsigned 64-bit,
-- variant indexes unsigned 32-bit"). The bits of a float are a number of 32 or 64 bits, a text or byte string consists of
-- bytes and its length fits in 64 bits, and an offset may be any number. The parameters of the calls in src/lib.rt are of
-- these types, so that every call of a program has such arguments.
--
--   Given c    the arguments of the call c have these widths
use Rattle.std.specs.Prelude.{◌<◌, ◌^◌, length}
use Rattle.std.specs.Int.Signed.{mag}
use Rattle.prelude.specs.Bytes.{Bytes}
use Rattle.writer.specs.Call.{Call, scalar, integer, float32, float64, text, bytes, variant, reference, pointer, open_array, open_map, open_tag}
use Rattle.writer.specs.Call.{open_variant1, open_variant_n, close}

abbrev pub Given : Call → Type 0
Given (scalar s) = Unit {0}
-- from -2^63 to 2^63 - 1: `mag z` is z, or -z - 1 if z is negative
Given (integer z) = mag z < 2 ^ 63
Given (float32 b) = b < 2 ^ 32
Given (float64 b) = b < 2 ^ 64
Given (text s) = Bytes s × (length s < 2 ^ 64)
Given (bytes s) = Bytes s × (length s < 2 ^ 64)
Given (variant i) = i < 2 ^ 32
Given (reference x) = Unit {0}
Given (pointer x) = Unit {0}
Given (open_array n) = n < 2 ^ 64
Given (open_map n) = n < 2 ^ 64
Given (open_tag n) = n < 2 ^ 64
Given (open_variant1 i) = i < 2 ^ 32
Given (open_variant_n i n) = (i < 2 ^ 32) × (n < 2 ^ 64)
Given (close e) = Unit {0}
