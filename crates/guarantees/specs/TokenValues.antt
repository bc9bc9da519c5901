-- What the Twine pages say about a token (document 01, "Row of a file"), in terms of the token alone.
--
--   token_end q t      the offset just after the token t whose header is at q: where its items start
--   token_rows q t     the value that t is the head of: a row for each kind, in the order of the kinds; 9 and 13 are reserved
--   value_of_token q t  the row of t's kind. `-` stops at 0: a target q - n - 1 is meaningful if n < q, as in a
--                     well-formed file
use Rattle.std.specs.Prelude.{ℕ, ◌+◌, ◌-◌, ◌*◌, List, [], ◌∷◌, eqb, pos, negsuc, length, get_or}
use Rattle.prelude.specs.Pick.{pick}
use Rattle.little_endian.specs.LittleEndian.{from_little}
use Rattle.token.specs.Token.{Token, emit}
use Rattle.reader_value.specs.declared.Value.{Value}
use Rattle.reader_value.specs.declared.Value.TheVariants.{False, True, Null, Integer, Float32, Float64, Text, Bytes, Array}
use Rattle.reader_value.specs.declared.Value.TheVariants.{Map, Tag, Variant, Variant1, VariantN, Reference, Pointer}

abbrev pub token_end : ℕ → Token → ℕ
token_end q t = q + length (emit t)

abbrev pub token_rows : ℕ → Token → List Value
token_rows q t =
    pick (eqb t.n 0) False (pick (eqb t.n 1) True Null)
    ∷ Integer (pos t.n)
    ∷ Integer (negsuc t.n)
    ∷ pick (eqb t.n 0) (Float32 (from_little t.body)) (Float64 (from_little t.body))
    ∷ Text (token_end q t - length t.body) (length t.body)
    ∷ Bytes (token_end q t - length t.body) (length t.body)
    ∷ Array t.n (token_end q t)
    ∷ Map t.n (2 * t.n) (token_end q t)
    ∷ Tag t.n (token_end q t)
    ∷ Null
    ∷ Variant t.n
    ∷ Variant1 t.n (token_end q t)
    ∷ VariantN t.n t.args (token_end q t)
    ∷ Null
    ∷ Reference (q - t.n - 1)
    ∷ Pointer (q - t.n - 1)
    ∷ []

unfoldable pub value_of_token : ℕ → Token → Value
value_of_token q t = get_or (token_rows q t) t.kind Null
