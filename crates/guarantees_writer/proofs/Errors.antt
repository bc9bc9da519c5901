-- The errors of calls, for any state, output and table.
--
-- In order: a new writer is not BAD_STATE (`fresh_not_bad`); a refused call answers one of seven errors
-- (`error_known`), so neither RESERVED nor RANGE (`never_reserved`), since with arguments of the stated widths a call
-- puts a token that its kind allows (`given_allowed`).
use mathlib.Core.Path.{◌≡◌, refl, subst}
use mathlib.Core.Bool.{Bool, true, false, ◌&&◌, true≢false, false≢true}
use mathlib.Core.List.{List, []}
use Prim.Native.Nat.{ℕ, ◌-◌, ◌^◌, ◌≤◌, ◌<◌, min}
use native.Mathlib.Omega.{arith}
use lib.Dec.{leb, ltb, eqb}
use lib.IntN.{pos, negsuc}
use lib.ListN.{length}
use Rattle.prelude.specs.Pick.{pick}
use Rattle.prelude.specs.Answer.{ok, error}
use Rattle.prelude.specs.Search.{among}
use Rattle.error.specs.Error.{RESERVED, RANGE, NO_ROOM}
use Rattle.little_endian.proofs.Laws.{length_little}
use Rattle.kind.specs.Kind.{rule, size}
use Rattle.token.specs.Token.{Token, token, Allowed}
use Rattle.writer_refusal.specs.Refusal.{bad_state, Verdict, refusal_of}
use Rattle.writer_refusal.specs.declared.State.{State}
use Rattle.writer_refusal.specs.declared.CallFlags.{CallFlags}
use Rattle.writer_refusal.proofs.Refusals.{not_bad}
use Rattle.writer.specs.Call.{Call, scalar, integer, float32, float64, text, bytes, variant, reference, pointer, open_array, open_map, open_tag, open_variant1}
use Rattle.writer.specs.Call.{open_variant_n, close}
use Rattle.writer.specs.Step.{Move, puts, closes, move_of, fresh, token_refusal, delta_refusal, Result, settled, step}
use Rattle.writer.specs.Given.{Given}
use Rattle.writer.specs.declared.Scalar.TheVariants.{False, True, Null}
use Rattle.writer.proofs.Refused.{pointer_to, refused_by}
use Rattle.guarantees_writer.specs.RefusedCall.{write_errors}

-- with an output and a table of any lengths
pub fresh_not_bad : (n m : ℕ) → bad_state fresh n m ≡ false
fresh_not_bad n m =
    not_bad fresh n m (record {
      inside = omega arith;
      short = omega arith;
      listed = omega arith;
      free = λ h. absurd (omega arith);
      begun = λ h. absurd (omega arith);
    })

-- ---- the errors

abbrev Known : Verdict → Type 0
Known (ok u) = Unit {0}
Known (error f) = among f write_errors ≡ true

-- one reason to refuse, and then others
known : (b : Bool) (f : ℕ) (v : Verdict) → among f write_errors ≡ true → Known v → Known (pick b (error f) v)
known true f v h k = h
known false f v h k = k

known_refusal : (q : CallFlags) (short : Bool) (s : State) (n m : ℕ) → Known (refusal_of q short s n m)
unfolding refusal_of among
known_refusal q short s n m =
    known (bad_state s n m) _ _ refl
    (known s.closed _ _ refl
    (known (q.alone && ltb 0 s.pending) _ _ refl
    (known q.nontext _ _ refl
    (known q.unlisted _ _ refl
    (known (q.adds && eqb s.pending 0 && leb m s.count) _ _ refl
    (known short NO_ROOM (ok tt) refl tt))))))

known_settled : (s : State) (out table : List ℕ) (v : Verdict) (r : Result) → r.answer ≡ ok tt → Known v → Known (settled v s out table r).answer
known_settled s out table (ok u) r e k = rw e tt
known_settled s out table (error f) r e k = k

-- a refused call answers one of the seven
pub error_known : (c : Call) (s : State) (out table : List ℕ) (f : ℕ) → (step c s out table).answer ≡ error f → among f write_errors ≡ true
unfolding token_refusal delta_refusal
error_known c s out table f e =
    subst Known e
    (refused_by s out table (λ r. Known r.answer)
    (λ alone t target r a. known_settled s out table (token_refusal alone t target s out table) r a (known_refusal _ _ s _ _))
    (λ x r a. known_settled s out table (delta_refusal x s out table) r a (known_refusal _ _ s _ _))
    (move_of c s.written))

pub never_reserved : (c : Call) (s : State) (out table : List ℕ) → ((step c s out table).answer ≡ error RESERVED → ⊥)
    × ((step c s out table).answer ≡ error RANGE → ⊥)
unfolding among
never_reserved c s out table =
    (λ e. false≢true (error_known c s out table RESERVED e), λ e. false≢true (error_known c s out table RANGE e))

-- ---- the tokens of calls are allowed

allowed : (k n : ℕ) (b : List ℕ) → min n 15 < (rule k).lows → n ≤ (rule k).most → length b ≡ size (rule k) n → Allowed (token k n 0 b)
allowed k n b low most sized = record { low = low; most = most; alone = λ _. refl; count = omega arith; sized = sized }

abbrev pub AllowedMove : Move → Type 0
AllowedMove (puts t target) = Allowed t
AllowedMove (closes x) = Unit {0}

pub allowed_move : (c : Call) (w : ℕ) → Given c → w < 2 ^ 64 → AllowedMove (move_of c w)
unfolding rule
allowed_move (scalar False) w g h = allowed 0 0 [] (omega arith) (omega arith) refl
allowed_move (scalar True) w g h = allowed 0 1 [] (omega arith) (omega arith) refl
allowed_move (scalar Null) w g h = allowed 0 2 [] (omega arith) (omega arith) refl
allowed_move (integer (pos n)) w g h = allowed 1 n [] (omega arith) (omega arith) (omega arith)
allowed_move (integer (negsuc n)) w g h = allowed 2 n [] (omega arith) (omega arith) (omega arith)
allowed_move (float32 b) w g h = allowed 3 0 _ (omega arith) (omega arith) (length_little 4 b)
allowed_move (float64 b) w g h = allowed 3 1 _ (omega arith) (omega arith) (length_little 8 b)
allowed_move (text s) w g h = allowed 4 (length s) s (omega arith) (omega arith) (omega arith)
allowed_move (bytes s) w g h = allowed 5 (length s) s (omega arith) (omega arith) (omega arith)
allowed_move (open_array n) w g h = allowed 6 n [] (omega arith) (omega arith) (omega arith)
allowed_move (open_map n) w g h = allowed 7 n [] (omega arith) (omega arith) (omega arith)
allowed_move (open_tag n) w g h = allowed 8 n [] (omega arith) (omega arith) (omega arith)
allowed_move (variant i) w g h = allowed 10 i [] (omega arith) (omega arith) (omega arith)
allowed_move (open_variant1 i) w g h = allowed 11 i [] (omega arith) (omega arith) (omega arith)
allowed_move (open_variant_n i n) w g h = record {
  low = omega arith;
  most = omega arith;
  alone = λ e. absurd (true≢false e);
  count = omega arith;
  sized = omega arith;
}
allowed_move (reference x) w g h = allowed 14 _ [] (omega arith) (omega arith) (omega arith)
allowed_move (pointer x) w g h = allowed 15 _ [] (omega arith) (omega arith) (omega arith)
allowed_move (close x) w g h = tt

-- a call with arguments of the stated widths puts a token that its kind allows, at any offset that fits 64 bits
pub given_allowed : (c : Call) (w : ℕ) (t : Token) (target : ℕ) → Given c → w < 2 ^ 64 → move_of c w ≡ puts t target → Allowed t
given_allowed c w t target g h e = subst AllowedMove e (allowed_move c w g h)

-- and so does a close that adds a pointer
pub pointer_allowed : (x : ℕ) (s : State) → s.written < 2 ^ 64 → Allowed (pointer_to x s)
pointer_allowed x s h = allowed_move (pointer x) s.written tt h
