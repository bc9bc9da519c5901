-- The reference model of the writer (document 01: "plain book"), in terms of values alone: no buffer, no table, no
-- state handed in.
--
--   Part, part k n a b
--                      what a call adds: its kind, its number, the argument count of a variant of many, and its body.
--                      The number is the table's n (the length of a text or byte string; 0 for a float of 4 bytes, 1
--                      for one of 8); for a reference or pointer it is the target, the offset that was handed in
--   Request            what a call asks for: a part, or a close at an offset
--   request_of c        what the call c asks for
--   ModelValue, model_value p ps
--                      a value: the part that began it, and the items that it has taken
--   form_of q p         the token of p as a file has it, with its header at q: a target is stored as a distance. `-`
--                      stops at 0: a target that is not below q is not a start, and p is BAD_TARGET
--   forms_of q ps       the tokens of parts, the first at q
--   value_at, values_at  values as a file has them, the first at an offset
--   end_of vs           where the values vs end, and the next value starts
--   Stage              no value is open; one is, as far as it got; or the model is closed, with this delta byte
--   open_of g, delta_of g
--                      the open value of a stage, and its delta byte, as lists: empty if it has none
--   is_closed g         whether the stage is closed
--   Model, model vs g  the finished values in order, and the stage
--   empty_model         the model before any call
--   model_bytes b       the bytes: those of the finished values, those of the open one, and the delta
--   model_starts b      the starts of the finished values: each is the number of bytes before it
--   pending_in v, pending_at g
--                      the items still pending in a value, and at a stage
--   grown g p          the value that p begins, or whose next item p is
--   settle vs v        the model with v after the finished values vs: finished if none of its items is pending, else open
--   back_to e b         the delta that would name the value at e
--   model_after l b     the model after the request l was accepted
--   first_of ..         the first reason to refuse, in document 01's order; without BAD_STATE, since the model is handed no state
--   no_room c n         an output of n bytes, of which LIMIT at most are used, is too short for the model c: for its bytes, a byte for each item
--                      pending, and the delta if c is not closed yet
--   model_answer l b n m
--                      the answer to the request l, with an output of n bytes and a table of m words. Each value has a
--                      byte, so the model's starts are all below its bytes, as targets must be
use Rattle.std.specs.Prelude.{ℕ, ◌+◌, ◌-◌, min, Bool, true, false, not, ◌&&◌, List, [], ◌∷◌, ◌++◌, eqb, ltb, leb, pos, negsuc, length}
use Rattle.prelude.specs.Pick.{pick}
use Rattle.prelude.specs.Answer.{Answer, ok, error}
use Rattle.prelude.specs.Search.{among}
use Rattle.error.specs.Error.{LIMIT, CLOSED, OWED, BAD_TEXT, BAD_TARGET, FULL, NO_ROOM}
use Rattle.utf8.specs.Text.{is_text}
use Rattle.little_endian.specs.LittleEndian.{little}
use Rattle.kind.specs.Kind.{rule, pending, immediate}
use Rattle.token.specs.Token.{Token, token, emit}
use Rattle.values.specs.Values.{Value, tokens, bytes, region, starts}
use Rattle.writer.specs.Call.{Call, scalar, integer, float32, float64, text, bytes as byte_string, variant, reference, pointer, open_array, open_map, open_tag}
use Rattle.writer.specs.Call.{open_variant1, open_variant_n, close}
use Rattle.writer.specs.declared.Scalar.TheVariants.{False, True, Null}

-- ---- what a call asks for

pub record Part : Type 0 where
  pub kind : ℕ
  pub number : ℕ
  pub args : ℕ
  pub body : List ℕ

abbrev pub part : ℕ → ℕ → ℕ → List ℕ → Part
part k n a b = record { kind = k; number = n; args = a; body = b }

pub data Request : Type 0 where
  adds : Part → Request
  ends : ℕ → Request

abbrev pub request_of : Call → Request
request_of (scalar False) = adds (part 0 0 0 [])
request_of (scalar True) = adds (part 0 1 0 [])
request_of (scalar Null) = adds (part 0 2 0 [])
request_of (integer (pos n)) = adds (part 1 n 0 [])
request_of (integer (negsuc n)) = adds (part 2 n 0 [])
request_of (float32 b) = adds (part 3 0 0 (little 4 b))
request_of (float64 b) = adds (part 3 1 0 (little 8 b))
request_of (text s) = adds (part 4 (length s) 0 s)
request_of (byte_string s) = adds (part 5 (length s) 0 s)
request_of (open_array n) = adds (part 6 n 0 [])
request_of (open_map n) = adds (part 7 n 0 [])
request_of (open_tag n) = adds (part 8 n 0 [])
request_of (variant i) = adds (part 10 i 0 [])
request_of (open_variant1 i) = adds (part 11 i 0 [])
request_of (open_variant_n i n) = adds (part 12 i n [])
request_of (reference x) = adds (part 14 x 0 [])
request_of (pointer x) = adds (part 15 x 0 [])
request_of (close e) = ends e

-- ---- values, and their form in a file

pub record ModelValue : Type 0 where
  pub head : Part
  pub items : List Part

abbrev pub model_value : Part → List Part → ModelValue
model_value p ps = record { head = p; items = ps }

unfoldable pub form_of : ℕ → Part → Token
form_of q p = token p.kind (pick (leb 14 p.kind) (q - p.number - 1) p.number) p.args p.body

unfoldable pub forms_of : ℕ → List Part → List Token
forms_of q [] = []
forms_of q (p ∷ ps) = form_of q p ∷ forms_of (q + length (emit (form_of q p))) ps

abbrev pub value_at : ℕ → ModelValue → Value
value_at q v = record { head = form_of q v.head; items = forms_of (q + length (emit (form_of q v.head))) v.items }

unfoldable pub values_at : ℕ → List ModelValue → List Value
values_at q [] = []
values_at q (v ∷ vs) = value_at q v ∷ values_at (q + length (bytes (tokens (value_at q v)))) vs

abbrev pub end_of : List ModelValue → ℕ
end_of vs = length (region (values_at 0 vs))

-- ---- the model

pub data Stage : Type 0 where
  between : Stage
  within : ModelValue → Stage
  closed : ℕ → Stage

abbrev pub open_of : Stage → List ModelValue
open_of between = []
open_of (within v) = v ∷ []
open_of (closed d) = []

abbrev pub delta_of : Stage → List ℕ
delta_of between = []
delta_of (within v) = []
delta_of (closed d) = d ∷ []

abbrev pub is_closed : Stage → Bool
is_closed between = false
is_closed (within v) = false
is_closed (closed d) = true

pub record Model : Type 0 where
  pub finished : List ModelValue
  pub stage : Stage

abbrev pub model : List ModelValue → Stage → Model
model vs g = record { finished = vs; stage = g }

abbrev pub empty_model : Model
empty_model = model [] between

unfoldable pub model_bytes : Model → List ℕ
model_bytes b = region (values_at 0 (b.finished ++ open_of b.stage)) ++ delta_of b.stage

unfoldable pub model_starts : Model → List ℕ
model_starts b = starts 0 (values_at 0 b.finished)

-- ---- what an accepted request leaves

abbrev pub pending_in : ModelValue → ℕ
pending_in v = pending (rule v.head.kind) v.head.number v.head.args - length v.items

abbrev pub pending_at : Stage → ℕ
pending_at between = 0
pending_at (within v) = pending_in v
pending_at (closed d) = 0

abbrev pub grown : Stage → Part → ModelValue
grown between p = model_value p []
grown (within v) p = model_value v.head (v.items ++ (p ∷ []))
grown (closed d) p = model_value p []

abbrev pub settle : List ModelValue → ModelValue → Model
settle vs v = pick (eqb (pending_in v) 0) (model (vs ++ (v ∷ [])) between) (model vs (within v))

abbrev pub back_to : ℕ → Model → ℕ
back_to e b = length (model_bytes b) - e - 1

-- a delta byte reaches back 256 bytes; farther back, a pointer is added as a new value, and its delta follows
abbrev pub model_after : Request → Model → Model
model_after (adds p) b = settle b.finished (grown b.stage p)
model_after (ends e) b =
    let p = part 15 e 0 [] in
    pick (ltb 255 (back_to e b)) (model (b.finished ++ (model_value p [] ∷ [])) (closed (length (emit (form_of (length (model_bytes b)) p)) - 1)))
    (model b.finished (closed (back_to e b)))

-- ---- the reasons to refuse

abbrev pub first_of : Bool → Bool → Bool → Bool → Bool → Bool → Answer ℕ (Unit {0})
first_of is_closed is_owed is_bad_text is_bad_target is_full has_no_room =
    pick is_closed (error CLOSED)
    (pick is_owed (error OWED)
    (pick is_bad_text (error BAD_TEXT)
    (pick is_bad_target (error BAD_TARGET)
    (pick is_full (error FULL)
    (pick has_no_room (error NO_ROOM)
    (ok tt))))))

abbrev pub no_room : Model → ℕ → Bool
no_room c n = ltb (min n LIMIT) (length (model_bytes c) + pending_at c.stage + pick (is_closed c.stage) 0 1)

abbrev pub model_answer : Request → Model → ℕ → ℕ → Answer ℕ (Unit {0})
model_answer (adds p) b n m =
    first_of (is_closed b.stage) (not (immediate (rule p.kind)) && ltb 0 (pending_at b.stage)) (eqb p.kind 4 && not (is_text p.body))
    (leb 14 p.kind && not (among p.number (model_starts b))) (eqb (pending_at b.stage) 0 && leb m (length b.finished))
    (no_room (model_after (adds p) b) n)
model_answer (ends e) b n m =
    first_of (is_closed b.stage) (ltb 0 (pending_at b.stage)) false (not (among e (model_starts b)))
    (ltb 255 (back_to e b) && leb m (length b.finished)) (no_room (model_after (ends e) b) n)
