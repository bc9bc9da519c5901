-- Any call of the writer, for any state, output and table.
--
-- In order: each call is settled by a refusal or by its own result (`refused_by`); a refused one changes nothing (`refused_same`).
use mathlib.Core.Path.{◌≡◌, refl, ap}
use mathlib.Core.Bool.{Bool, true}
use mathlib.Core.List.{List, []}
use Prim.Native.Nat.{ℕ, ◌-◌}
use native.Mathlib.Omega.{arith}
use lib.Dec.{leb}
use Rattle.prelude.specs.Answer.{ok, error}
use Rattle.prelude.proofs.Tests.{pick_elim}
use Rattle.token.specs.Token.{Token, token}
use Rattle.writer_refusal.specs.Refusal.{Verdict}
use Rattle.writer_refusal.specs.declared.State.{State}
use Rattle.writer.specs.Call.{Call}
use Rattle.writer.specs.Step.{Move, puts, closes, move_of, opens, token_refusal, delta_refusal, Result, result, write, write_delta, write_pointer_delta}
use Rattle.writer.specs.Step.{settled, put_token, close_at, move, step}

-- a pointer to x, after the bytes written
abbrev pub pointer_to : ℕ → State → Token
pointer_to x s = token 15 (s.written - x - 1) 0 []

module _ (s : State) (out table : List ℕ) (P : Result → Type 0)
    (token-by : (alone : Bool) (t : Token) (target : ℕ) (r : Result) → r.answer ≡ ok tt → P (settled (token_refusal alone t target s out table) s out table r))
    (delta-by : (x : ℕ) (r : Result) → r.answer ≡ ok tt → P (settled (delta_refusal x s out table) s out table r)) where
  pub refused_by : (m : Move) → P (move m s out table)
  unfolding put_token close_at write write_delta write_pointer_delta
  refused_by (puts t target) = token-by (opens t) t target (write t s out table) refl
  refused_by (closes x) =
      pick_elim P (leb (s.written - x - 1) 255) (λ _. delta-by x (write_delta (s.written - x - 1) s out table) refl)
      (λ _. token-by true (pointer_to x s) x (write_pointer_delta (pointer_to x s) s out table) refl)

module _ (s : State) (out table : List ℕ) (f : ℕ) where
  abbrev Same : Result → Type 0
  Same r = r.answer ≡ error f → r ≡ result (error f) s out table

  settled_same : (v : Verdict) (r : Result) → r.answer ≡ ok tt → Same (settled v s out table r)
  settled_same (ok u) r a e = let z : ◌≡◌ {A = ℕ} 0 1 = cc in absurd (omega arith)
  settled_same (error g) r a e = ap (λ v. result v s out table) e

-- a refused call changes nothing
pub refused_same : (c : Call) (s : State) (out table : List ℕ) (f : ℕ) → (step c s out table).answer ≡ error f
    → step c s out table ≡ result (error f) s out table
refused_same c s out table f =
    refused_by s out table (Same s out table f)
    (λ alone t target. settled_same s out table f (token_refusal alone t target s out table))
    (λ x. settled_same s out table f (delta_refusal x s out table))
    (move_of c s.written)
