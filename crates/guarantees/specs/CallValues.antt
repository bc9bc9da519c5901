-- What reading must return for what a call wrote (document 01, "Row of a file").
--
--   first q k n a    the offset just after the header at q and its numbers, for kind k, number n and argument count a:
--                    where the body, or the items, start
--   value_of_call q c  the value that reading returns for what the call c wrote at q; for a close, the pointer, if it adds one
--   body_of_call c     the bytes of its body: of a text or byte string those handed in, of a float its bits, the lowest byte first
use Rattle.std.specs.Prelude.{ℕ, ◌+◌, ◌*◌, List, [], length}
use Rattle.little_endian.specs.LittleEndian.{little}
use Rattle.token.specs.Token.{token, emit}
use Rattle.writer.specs.Call.{Call, scalar, integer, float32, float64, text, bytes, variant, reference, pointer, open_array, open_map, open_tag, open_variant1}
use Rattle.writer.specs.Call.{open_variant_n, close}
use Rattle.writer.specs.declared.Scalar.TheVariants.{False, True, Null}
use Rattle.reader_value.specs.declared.Value.{Value}

abbrev pub first : ℕ → ℕ → ℕ → ℕ → ℕ
first q k n a = q + length (emit (token k n a []))

abbrev pub value_of_call : ℕ → Call → Value
value_of_call q (scalar False) = Value.False
value_of_call q (scalar True) = Value.True
value_of_call q (scalar Null) = Value.Null
value_of_call q (integer z) = Value.Integer z
value_of_call q (float32 b) = Value.Float32 b
value_of_call q (float64 b) = Value.Float64 b
value_of_call q (text s) = Value.Text (first q 4 (length s) 0) (length s)
value_of_call q (bytes s) = Value.Bytes (first q 5 (length s) 0) (length s)
value_of_call q (open_array n) = Value.Array n (first q 6 n 0)
value_of_call q (open_map n) = Value.Map n (2 * n) (first q 7 n 0)
value_of_call q (open_tag n) = Value.Tag n (first q 8 n 0)
value_of_call q (variant i) = Value.Variant i
value_of_call q (open_variant1 i) = Value.Variant1 i (first q 11 i 0)
value_of_call q (open_variant_n i n) = Value.VariantN i n (first q 12 i n)
value_of_call q (reference x) = Value.Reference x
value_of_call q (pointer x) = Value.Pointer x
value_of_call q (close e) = Value.Pointer e

abbrev pub body_of_call : Call → List ℕ
body_of_call (scalar v) = []
body_of_call (integer z) = []
body_of_call (float32 b) = little 4 b
body_of_call (float64 b) = little 8 b
body_of_call (text s) = s
body_of_call (bytes s) = s
body_of_call (open_array n) = []
body_of_call (open_map n) = []
body_of_call (open_tag n) = []
body_of_call (variant i) = []
body_of_call (open_variant1 i) = []
body_of_call (open_variant_n i n) = []
body_of_call (reference x) = []
body_of_call (pointer x) = []
body_of_call (close e) = []
