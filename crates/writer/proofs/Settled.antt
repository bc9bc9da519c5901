-- A call that the code refuses, by its flags, is settled by that refusal.
use mathlib.Core.Path.{◌≡◌}
use mathlib.Core.Bool.{true, true≢false}
use mathlib.Core.List.{List}
use Prim.Native.Nat.{ℕ}
use lib.ListN.{length}
use Rattle.prelude.specs.Answer.{ok, error}
use Rattle.error.specs.Error.{number_of}
use Rattle.error.specs.declared.ErrorKind.{ErrorKind}
use Rattle.writer_refusal.specs.Refusal.{Verdict, refusal_of}
use Rattle.writer_refusal.specs.declared.State.{State}
use Rattle.writer_refusal.specs.declared.CallFlags.{CallFlags}
use Rattle.writer_refusal.proofs.Refusals.{refusal_inv}
use Rattle.writer.specs.Step.{Result, result, settled}

module _ (q : CallFlags) (s : State) (out table : List ℕ) (e : ErrorKind) (k : error (number_of e) ≡ refusal_of q true s (length out) (length table)) where
  pub refused_settled : (v : Verdict) → refusal_of q true s (length out) (length table) ≡ v → (r : Result)
      → result (error (number_of e)) s out table ≡ settled v s out table r
  refused_settled (ok u) i r = absurd (true≢false (refusal_inv q true s (length out) (length table) i).fits)
  refused_settled (error f) i r = rw (k, i)
