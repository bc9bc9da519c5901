-- The two closes, as the code makes them: by the delta byte alone, and by a pointer and its delta byte.
use mathlib.Core.Path.{◌≡◌, refl, sym, ap, ◌∙◌}
use mathlib.Core.Bool.{Bool, true, false, not}
use mathlib.Core.List.{List, []}
use Prim.Native.Nat.{ℕ, ◌+◌, ◌-◌, ◌≤◌, ◌<◌}
use native.Mathlib.Omega.{arith}
use lib.Dec.{leb}
use lib.ListN.{length}
use lib.Seq.{length-sets}
use borrow.Author.Tests.{le-leb, lt-leb}
use Rattle.prelude.specs.Answer.{ok, error}
use Rattle.prelude.proofs.Tests.{and_none}
use Rattle.error.specs.Error.{number_of}
use Rattle.error.specs.declared.ErrorKind.{ErrorKind}
use Rattle.leb128.proofs.Sizes.{length_put_le}
use Rattle.kind.specs.Kind.{rule}
use Rattle.token.specs.Token.{Token, token, put_if, emit}
use Rattle.token.proofs.Laws.{length_emit, emit_pos}
use Rattle.writer_refusal.specs.Refusal.{limit, is_ok, refusal_of}
use Rattle.writer_refusal.specs.declared.State.{State}
use Rattle.writer_refusal.specs.declared.CallFlags.{CallFlags}
use Rattle.writer_refusal.proofs.Refusals.{sound, ok_of_is_ok, refusal_same, refusal_owed, refusal_short}
use Rattle.writer.specs.Step.{opens, token_flags, delta_flags, token_refusal, delta_refusal, Result, result, write, write_delta, write_pointer_delta}
use Rattle.writer.specs.Step.{put_token, close_at}
use Rattle.writer.specs.Internal.{ListedTest, Fits, WroteDelta, close_near, close_far}
use Rattle.writer.specs.declared.Fit.{Fit}
use Rattle.writer.proofs.Accepted.{token_inv, room_after, delta_inv, delta_fits}
use Rattle.writer.proofs.Settled.{refused_settled}

-- ---- by the delta byte

module _ (g : Bool) (e : ℕ) (s : State) (out table : List ℕ) (h : ListedTest g e s table) where
  -- the flags that the code passes
  abbrev request : CallFlags
  request = record { alone = true; nontext = false; unlisted = not g; adds = false }

  abbrev full : Bool
  full = leb (limit (length out)) s.written

  flags_same : refusal_of request full s (length out) (length table) ≡ delta_refusal e s out table
  unfolding delta_refusal
  flags_same =
      refusal_same request (delta_flags e s table) full s (length out) (length table) (λ q. let d = sound s _ _ q in
      λ i. record { alone = true; nontext = false; unlisted = not (h d.short d.listed i); adds = false })

  -- by what `may_close` returned
  module _ (may : Bool) (is : may ≡ is_ok (refusal_of request full s (length out) (length table))) where
    module _ (q : may ≡ true) where
      accepted : delta_refusal e s out table ≡ ok tt
      accepted = sym flags_same ∙ ok_of_is_ok _ (sym is ∙ q)

      pub near_byte : s.written < length out
      near_byte = omega (arith, delta_fits e s out table (delta_inv e s out table accepted))

      pub near_ok : (d : ℕ) (r : State) (o : List ℕ) → WroteDelta d s out r o → result (ok tt) r o table ≡ close_near e d s out table
      near_ok d r o k = rw accepted (k.same table)

    pub near_refused : may ≡ false → (d : ℕ) (f : ErrorKind) → error (number_of f) ≡ refusal_of request true s (length out) (length table)
        → result (error (number_of f)) s out table ≡ close_near e d s out table
    near_refused q d f k =
        refused_settled request s out table f k _ (refusal_short request full s (length out) (length table) (sym is ∙ q) ∙ flags_same)
        (write_delta d s out table)

-- ---- by a pointer and its delta byte

length_put_if : (w : Bool) (n : ℕ) → length (put_if w n) ≤ 10
unfolding put_if
length_put_if true n = length_put_le 9 n
length_put_if false n = omega arith

-- a pointer of that size that ends at `next`, in an output of n bytes: its delta fits in a byte, and has room
pub record Far (size next n : ℕ) : Type 0 where
  pub after : 0 < size
  pub delta : size < 256
  pub room : next < n

-- what a written token leaves
module _ (t : Token) (s : State) (out table : List ℕ) (next : State) (o words : List ℕ) (w : result (ok tt) next o words ≡ write t s out table) where
  written_is : next.written ≡ s.written + length (emit t)
  unfolding write
  written_is = ap (λ (r : Result). r.writer.written) w

  length_is : length o ≡ length out
  unfolding write
  length_is = ap (λ (r : Result). length r.out) w ∙ length-sets out s.written (emit t)

module _ (e back : ℕ) (s : State) (out table : List ℕ) where
  abbrev pointer : Token
  pointer = token 15 back 0 []

  pub far_refused : (q : CallFlags) → q.alone ≡ true → 0 < s.pending → (f : ErrorKind)
      → error (number_of f) ≡ refusal_of q true s (length out) (length table) → result (error (number_of f)) s out table ≡ close_far e back s out table
  unfolding token_refusal
  far_refused q a p f k =
      refused_settled q s out table f k _ (refusal_owed q (token_flags true pointer e s table) _ _ s _ _ a refl p) (write_pointer_delta pointer s out table)

  -- while no items are pending, a close is refused for the same reason as its pointer
  module _ (z : s.pending ≤ 0) where
    alone_is : token_refusal true pointer e s out table ≡ token_refusal (opens pointer) pointer e s out table
    unfolding token_refusal refusal_of
    alone_is = let q : s.pending ≡ 0 = omega arith in rw (q, and_none (opens pointer))

    pub far_error : (f : ℕ) → token_refusal (opens pointer) pointer e s out table ≡ error f → result (error f) s out table ≡ close_far e back s out table
    far_error f q = rw (alone_is, q)

    module _ (r : Fit) (a : Fits pointer e s out table r) (next : State) (o words : List ℕ)
        (j : result (ok tt) next o words ≡ put_token pointer e s out table) where
      taken : result (ok tt) next o words ≡ write pointer s out table
      unfolding put_token
      taken = rw a.accepted at j

      size_le : length (emit pointer) ≤ 21
      size_le = omega (arith, length_emit 15 back 0 [], length_put_if (leb 15 back) (back - 15), length_put_if (rule 15).args 0)

      pub far_room : Far r.size next.written (length o)
      far_room = record {
        after = omega (arith, a.size, emit_pos pointer);
        delta = omega (arith, a.size, size_le);
        room = omega (
          arith,
          written_is pointer s out table next o words taken,
          length_is pointer s out table next o words taken,
          room_after _ pointer e s out table (token_inv _ pointer e s out table a.accepted),
        );
      }

      pub far_ok : (w : State) (p : List ℕ) → WroteDelta (r.size - 1) next o w p → result (ok tt) w p words ≡ close_far e back s out table
      unfolding write_pointer_delta
      far_ok w p h = rw (alone_is, a.accepted, ← taken, ← a.size) (h.same words)

-- ---- which of the two

module _ (e back : ℕ) (s : State) (out table : List ℕ) (r : Result) (is : back ≡ s.written - e - 1) where
  pub close_when_near : back ≤ 255 → r ≡ close_near e back s out table → r ≡ close_at e s out table
  unfolding close_at
  close_when_near h k = rw (← is, le-leb back 255 h) k

  pub close_when_far : 255 < back → r ≡ close_far e back s out table → r ≡ close_at e s out table
  unfolding close_at
  close_when_far h k = rw (← is, lt-leb back 255 h) k
