-- The calls that write values again.
--
--   call_rows q t     the call for the token t at q: a row for each kind, in the order of the kinds; 9 and 13 are reserved
--   call_of q t       the row of t's kind. `-` stops at 0: a target q - n - 1 is meaningful if n < q, as in a
--                    well-formed file
--   calls_at q ts     the calls that write tokens, the first at q
--   calls_of q vs     the calls that write values, the first at q: each value's head, then its items
--   rewriting vs entry
--                    the calls that write a file's values vs again, and close at its entry
--   call_of_value v s  the call that writes again a value that the reader returned as v, with the body s if it is a text
--                    or byte string: what the reader returns is enough
--   Rewritten file entry out table
--                    the file has values, with every number in its shortest form; a new writer accepts each call that writes them again in order, and the close
--                    at the entry; it has then written as many bytes as the file has, and they are the file, and what it has listed are
--                    the values' starts; each call but the close is made from what the reader returns there
use Rattle.std.specs.Prelude.{ℕ, ◌+◌, ◌-◌, ◌≡◌, List, [], ◌∷◌, ◌++◌, eqb, pos, negsuc, length, take, get_or}
use Rattle.prelude.specs.Pick.{pick}
use Rattle.prelude.specs.Answer.{ok, bind}
use Rattle.prelude.specs.Each.{Each}
use Rattle.leb128.specs.declared.Mode.{Mode}
use Rattle.leb128.specs.declared.Mode.TheVariants.{Strict}
use Rattle.little_endian.specs.LittleEndian.{from_little}
use Rattle.token.specs.Token.{Token, emit}
use Rattle.values.specs.Values.{Value, tokens, bytes, starts, WellFormed}
use Rattle.writer.specs.Call.{Call, scalar, integer, float32, float64, text, bytes as byte_string, variant, reference, pointer, open_array, open_map, open_tag}
use Rattle.writer.specs.Call.{open_variant1, open_variant_n, close}
use Rattle.writer.specs.Step.{fresh}
use Rattle.writer.specs.Runs.{runs}
use Rattle.writer.specs.Given.{Given}
use Rattle.writer.specs.declared.Scalar.TheVariants.{False, True, Null}
use Rattle.reader_value.specs.Value.{read_of}
use Rattle.reader_value.specs.declared.Value.{Value as ReadValue}
use Rattle.reader_value.specs.declared.Value.TheVariants.{False as ReadFalse, True as ReadTrue, Null as ReadNull, Integer, Float32, Float64}
use Rattle.reader_value.specs.declared.Value.TheVariants.{Text, Bytes, Array, Map, Tag, Variant, Variant1, VariantN, Reference, Pointer}
use Rattle.reader_body.specs.Body.{body_of}
use Rattle.guarantees_writer.specs.History.{AllOk}
use Rattle.guarantees.specs.Places.{TokenAt}

abbrev pub call_rows : ℕ → Token → List Call
call_rows q t =
    scalar (pick (eqb t.n 0) False (pick (eqb t.n 1) True Null))
    ∷ integer (pos t.n)
    ∷ integer (negsuc t.n)
    ∷ pick (eqb t.n 0) (float32 (from_little t.body)) (float64 (from_little t.body))
    ∷ text t.body
    ∷ byte_string t.body
    ∷ open_array t.n
    ∷ open_map t.n
    ∷ open_tag t.n
    ∷ scalar Null
    ∷ variant t.n
    ∷ open_variant1 t.n
    ∷ open_variant_n t.n t.args
    ∷ scalar Null
    ∷ reference (q - t.n - 1)
    ∷ pointer (q - t.n - 1)
    ∷ []

unfoldable pub call_of : ℕ → Token → Call
call_of q t = get_or (call_rows q t) t.kind (scalar Null)

unfoldable pub calls_at : ℕ → List Token → List Call
calls_at q [] = []
calls_at q (t ∷ ts) = call_of q t ∷ calls_at (q + length (emit t)) ts

unfoldable pub calls_of : ℕ → List Value → List Call
calls_of q [] = []
calls_of q (v ∷ vs) = calls_at q (tokens v) ++ calls_of (q + length (bytes (tokens v))) vs

abbrev pub rewriting : List Value → ℕ → List Call
rewriting vs entry = calls_of 0 vs ++ (close entry ∷ [])

abbrev pub call_of_value : ReadValue → List ℕ → Call
call_of_value ReadFalse s = scalar False
call_of_value ReadTrue s = scalar True
call_of_value ReadNull s = scalar Null
call_of_value (Integer z) s = integer z
call_of_value (Float32 b) s = float32 b
call_of_value (Float64 b) s = float64 b
call_of_value (Text first len) s = text s
call_of_value (Bytes first len) s = byte_string s
call_of_value (Array n first) s = open_array n
call_of_value (Map n items first) s = open_map n
call_of_value (Tag n first) s = open_tag n
call_of_value (Variant i) s = variant i
call_of_value (Variant1 i first) s = open_variant1 i
call_of_value (VariantN i n first) s = open_variant_n i n
call_of_value (Reference x) s = reference x
call_of_value (Pointer x) s = pointer x

pub record Rewritten (file : List ℕ) (entry : ℕ) (out table : List ℕ) : Type 0 where
  pub values : List Value
  pub well_formed : WellFormed Strict file values entry
  pub given : Each Given (rewriting values entry)
  pub accepted : AllOk (runs (rewriting values entry) fresh out table).answers
  pub written : (runs (rewriting values entry) fresh out table).writer.written ≡ length file
  pub same : let r = runs (rewriting values entry) fresh out table in take r.writer.written r.out ≡ file
  pub listed : let r = runs (rewriting values entry) fresh out table in take r.writer.count r.table ≡ starts 0 values
  -- each call is made from what the reader returns, in either mode, for the value or item
  pub read : (mode : Mode) (j q : ℕ) (t : Token) → TokenAt values j q t
      → bind (read_of mode file q) (λ v. ok (call_of_value v (body_of mode file q))) ≡ ok (call_of q t)
