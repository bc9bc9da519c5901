-- What is known of a call that is accepted: a token, and a close by the delta byte alone.
use mathlib.Core.Path.{◌≡◌, refl}
use mathlib.Core.Bool.{Bool, false}
use mathlib.Core.List.{List}
use Prim.Native.Nat.{ℕ, ◌+◌, ◌≤◌, ◌<◌}
use native.Mathlib.Omega.{arith}
use lib.Dec.{eqb, ltb, leb}
use lib.ListN.{length}
use borrow.Author.Tests.{ltb-false, leb-false, eqb-false}
use Rattle.prelude.specs.Answer.{ok}
use Rattle.prelude.proofs.Tests.{pick_elim}
use Rattle.token.specs.Token.{Token, emit}
use Rattle.token.proofs.Laws.{emit_pos}
use Rattle.writer_refusal.specs.Refusal.{limit, room}
use Rattle.writer_refusal.specs.declared.State.{State}
use Rattle.writer_refusal.proofs.Refusals.{sound, Granted, refusal_inv, refusal_ok, word_free}
use Rattle.writer.specs.Step.{bytes_needed, token_flags, delta_flags, token_refusal, delta_refusal, start_of}

-- ---- no items pending

pub none_pending : (s : State) → ltb 0 s.pending ≡ false → s.pending ≡ 0
none_pending s e = omega (arith, ltb-false 0 s.pending e)

-- the next token begins a value
pub start_of_new : (s : State) → ltb 0 s.pending ≡ false → start_of s ≡ s.written
start_of_new s e = rw (none_pending s e)

-- ---- a token

pub record Accepted (alone : Bool) (t : Token) (target : ℕ) (s : State) (out table : List ℕ) : Type 0 where
  pub granted : Granted (token_flags alone t target s table) (ltb (room s (length out)) (bytes_needed t s)) s (length out) (length table)

module _ (alone : Bool) (t : Token) (target : ℕ) (s : State) (out table : List ℕ) where
  pub token_inv : {u : Unit {0}} → token_refusal alone t target s out table ≡ ok u → Accepted alone t target s out table
  unfolding token_refusal
  token_inv e = record { granted = refusal_inv (token_flags alone t target s table) _ s (length out) (length table) e }

  module _ (a : Accepted alone t target s out table) where
    pub token_ok : token_refusal alone t target s out table ≡ ok tt
    unfolding token_refusal
    token_ok = refusal_ok (token_flags alone t target s table) _ s (length out) (length table) a.granted

    pub token_fits : bytes_needed t s ≤ room s (length out)
    token_fits = ltb-false _ _ a.granted.fits

    pub free_word : s.count < length table
    free_word = word_free _ _ s (length out) (length table) refl a.granted

    -- a byte for the delta is left after it
    pub room_after : s.written + length (emit t) < limit (length out)
    room_after = omega (arith, token_fits, emit_pos t)

    -- the value starts before the token's end
    pub start_lt : start_of s < s.written + length (emit t)
    start_lt =
        pick_elim (λ m. m < s.written + length (emit t)) (eqb s.pending 0) (λ _. omega (arith, emit_pos t))
        (λ e. omega (arith, (sound s _ _ a.granted.good).begun (omega (arith, eqb-false s.pending 0 e))))

-- ---- a close by the delta byte

pub record Near (e : ℕ) (s : State) (out table : List ℕ) : Type 0 where
  pub granted : Granted (delta_flags e s table) (leb (limit (length out)) s.written) s (length out) (length table)

module _ (e : ℕ) (s : State) (out table : List ℕ) where
  pub delta_inv : {u : Unit {0}} → delta_refusal e s out table ≡ ok u → Near e s out table
  unfolding delta_refusal
  delta_inv q = record { granted = refusal_inv (delta_flags e s table) _ s (length out) (length table) q }

  pub delta_fits : Near e s out table → s.written < limit (length out)
  delta_fits n = leb-false _ _ n.granted.fits
