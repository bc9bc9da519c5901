-- What each call of the writer does (document 01, "Writer"): one definition for all calls, for any state, output and table.
--
--   scalar_of v         the number of a scalar
--   integer_of z        the token of an integer: kind 1 and z, or kind 2 and -z - 1 if z is negative
--   Move               what a call asks for: a token and the offset that it names, or a close at an offset
--   move_of c w         what the call c asks for, with w bytes written; the offset is 0 if the token names none. `-` stops
--                      at 0: a target that is not below w has the distance 0, and is not listed (BAD_TARGET)
--   fresh              the state of a new writer: no bytes, no starts, no items pending, not closed
--   opens t            t's kind may have items (or is reserved), so that t is not an immediate
--   pending_of t        how many items the token t has
--   bytes_needed t s    the bytes of t, and one for each item that is then pending
--   token_flags alone t target s table
--                      the flags of a call that writes the token t; `alone` is true for an opening, and for a close by
--                      a pointer
--   delta_flags e s table
--                      the flags of a close at e by the delta byte alone
--   token_refusal alone t target s out table, delta_refusal e s out table
--                      the first reason to refuse such a call, by `refusal_of` of writer_refusal/specs/Refusal.antt;
--                      ok if there is none
--   Result, result v s out table
--                      what a call leaves: its answer, the state, the output and the table
--   start_of s          the start of the value that the next token belongs to: after all bytes written if no items are pending
--   write t s out table
--                      the result of writing the token t. If it leaves no items pending, the value's start is listed,
--                      and the state's `start` means nothing
--   write_delta d s out table
--                      the result of writing the delta byte d, which closes
--   write_pointer_delta t s out table
--                      the result of writing the pointer t and then the delta byte that names it
--   settled v s out table r
--                      r if v is ok; if v is an error, that error, with state, output and table as they were
--   put_token t target s out table
--                      the token t, written or refused
--   moved_to w x t      the token t as it is written after w bytes: if it is a reference or pointer, it names the offset x
--   put_moved t k s out table
--                      the token t, written or refused; if it is a reference or pointer, it names the offset in word number k of the table
--   close_at e s out table
--                      a close at e, by the delta byte alone if that reaches back to e, else by a pointer and its delta
--                      byte; written or refused. An e that is not below the bytes written has the distance 0, and is not listed
--   move m s out table what is asked for, written or refused
--   step c s out table what the call c answers and leaves; if it is refused, it changes nothing
use Rattle.std.specs.Prelude.{ℕ, ◌+◌, ◌-◌, Bool, true, false, not, ◌&&◌, List, [], ◌∷◌, eqb, ltb, leb, ℤ, pos, negsuc, length, get_or, set}
use Rattle.std.proofs.lemmas.List.Edits.{sets}
use Rattle.prelude.specs.Pick.{pick}
use Rattle.prelude.specs.Answer.{ok, error}
use Rattle.utf8.specs.Text.{is_text}
use Rattle.little_endian.specs.LittleEndian.{little}
use Rattle.kind.specs.Kind.{rule, pending, due, immediate}
use Rattle.token.specs.Token.{Token, token, emit}
use Rattle.writer_refusal.specs.Refusal.{limit, room, is_listed, Verdict, refusal_of}
use Rattle.writer_refusal.specs.declared.State.{State}
use Rattle.writer_refusal.specs.declared.CallFlags.{CallFlags}
use Rattle.writer.specs.Call.{Call, scalar, integer, float32, float64, text, bytes, variant, reference, pointer, open_array, open_map}
use Rattle.writer.specs.Call.{open_tag, open_variant1, open_variant_n, close}
use Rattle.writer.specs.declared.Scalar.{Scalar}
use Rattle.writer.specs.declared.Scalar.TheVariants.{False, True, Null}

-- ---- what a call asks for

abbrev pub scalar_of : Scalar → ℕ
scalar_of False = 0
scalar_of True = 1
scalar_of Null = 2

abbrev pub integer_of : ℤ → Token
integer_of (pos n) = token 1 n 0 []
integer_of (negsuc n) = token 2 n 0 []

pub data Move : Type 0 where
  puts : Token → ℕ → Move
  closes : ℕ → Move

abbrev pub move_of : Call → ℕ → Move
move_of (scalar s) w = puts (token 0 (scalar_of s) 0 []) 0
move_of (integer z) w = puts (integer_of z) 0
move_of (float32 b) w = puts (token 3 0 0 (little 4 b)) 0
move_of (float64 b) w = puts (token 3 1 0 (little 8 b)) 0
move_of (text s) w = puts (token 4 (length s) 0 s) 0
move_of (bytes s) w = puts (token 5 (length s) 0 s) 0
move_of (open_array n) w = puts (token 6 n 0 []) 0
move_of (open_map n) w = puts (token 7 n 0 []) 0
move_of (open_tag n) w = puts (token 8 n 0 []) 0
move_of (variant i) w = puts (token 10 i 0 []) 0
move_of (open_variant1 i) w = puts (token 11 i 0 []) 0
move_of (open_variant_n i n) w = puts (token 12 i n []) 0
move_of (reference x) w = puts (token 14 (w - x - 1) 0 []) x
move_of (pointer x) w = puts (token 15 (w - x - 1) 0 []) x
move_of (close e) w = closes e

abbrev pub fresh : State
fresh = record { written = 0; count = 0; pending = 0; start = 0; closed = false }

-- ---- the reasons to refuse a call

abbrev pub opens : Token → Bool
opens t = not (immediate (rule t.kind))

abbrev pub pending_of : Token → ℕ
pending_of t = pending (rule t.kind) t.n t.args

abbrev pub bytes_needed : Token → State → ℕ
bytes_needed t s = length (emit t) + due s.pending (pending_of t)

abbrev pub token_flags : Bool → Token → ℕ → State → List ℕ → CallFlags
token_flags alone t target s table = record {
  alone = alone;
  nontext = eqb t.kind 4 && not (is_text t.body);
  unlisted = leb 14 t.kind && not (is_listed s table target);
  adds = true;
}

abbrev pub delta_flags : ℕ → State → List ℕ → CallFlags
delta_flags e s table = record { alone = true; nontext = false; unlisted = not (is_listed s table e); adds = false }

unfoldable pub token_refusal : Bool → Token → ℕ → State → List ℕ → List ℕ → Verdict
token_refusal alone t target s out table =
    refusal_of (token_flags alone t target s table) (ltb (room s (length out)) (bytes_needed t s)) s (length out) (length table)

unfoldable pub delta_refusal : ℕ → State → List ℕ → List ℕ → Verdict
delta_refusal e s out table = refusal_of (delta_flags e s table) (leb (limit (length out)) s.written) s (length out) (length table)

-- ---- what an accepted call leaves

pub record Result : Type 0 where
  pub answer : Verdict
  pub writer : State
  pub out : List ℕ
  pub table : List ℕ

abbrev pub result : Verdict → State → List ℕ → List ℕ → Result
result v s out table = record { answer = v; writer = s; out = out; table = table }

-- the start of the value that the next token belongs to
abbrev pub start_of : State → ℕ
start_of s = pick (eqb s.pending 0) s.written s.start

-- if no item is left pending, the value is finished and its start is listed
unfoldable pub write : Token → State → List ℕ → List ℕ → Result
write t s out table =
    let left = due s.pending (pending_of t) in
    result (ok tt)
    (record {
      written = s.written + length (emit t);
      count = pick (eqb left 0) (s.count + 1) s.count;
      pending = left;
      start = start_of s;
      closed = false;
    })
    (sets out s.written (emit t))
    (pick (eqb left 0) (set table s.count (start_of s)) table)

-- the delta byte d
unfoldable pub write_delta : ℕ → State → List ℕ → List ℕ → Result
write_delta d s out table =
    result (ok tt) (record { written = s.written + 1; count = s.count; pending = s.pending; start = s.start; closed = true })
    (sets out s.written (d ∷ [])) table

-- the pointer t, and the delta byte that names it
unfoldable pub write_pointer_delta : Token → State → List ℕ → List ℕ → Result
write_pointer_delta t s out table = let r = write t s out table in write_delta (length (emit t) - 1) r.writer r.out r.table

-- ---- any call

abbrev pub settled : Verdict → State → List ℕ → List ℕ → Result → Result
settled (ok u) s out table r = r
settled (error f) s out table r = result (error f) s out table

unfoldable pub put_token : Token → ℕ → State → List ℕ → List ℕ → Result
put_token t target s out table = settled (token_refusal (opens t) t target s out table) s out table (write t s out table)

unfoldable pub moved_to : ℕ → ℕ → Token → Token
moved_to w x t = token t.kind (pick (leb 14 t.kind) (w - x - 1) t.n) t.args t.body

unfoldable pub put_moved : Token → ℕ → State → List ℕ → List ℕ → Result
put_moved t k s out table = let x = pick (leb 14 t.kind) (get_or table k 0) 0 in put_token (moved_to s.written x t) x s out table

-- one delta byte reaches back 256 bytes
unfoldable pub close_at : ℕ → State → List ℕ → List ℕ → Result
close_at e s out table =
    let back = s.written - e - 1 in
    let t = token 15 back 0 [] in
    pick (leb back 255)
    (settled (delta_refusal e s out table) s out table (write_delta back s out table))
    (settled (token_refusal true t e s out table) s out table (write_pointer_delta t s out table))

abbrev pub move : Move → State → List ℕ → List ℕ → Result
move (puts t target) s out table = put_token t target s out table
move (closes e) s out table = close_at e s out table

abbrev pub step : Call → State → List ℕ → List ℕ → Result
step c s out table = move (move_of c s.written) s out table
