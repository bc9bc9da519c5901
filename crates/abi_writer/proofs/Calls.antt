-- The writer's calls: a call of the writer whose state is then stored is the call of C.
use mathlib.Core.Path.{◌≡◌, sym, ap, ◌∙◌}
use mathlib.Core.List.{List}
use Prim.Native.Nat.{ℕ}
use Rattle.error.specs.Error.{number_of}
use Rattle.writer_refusal.specs.declared.State.{State}
use Rattle.writer.specs.Call.{Call}
use Rattle.writer.specs.Step.{Result, result, step}
use Rattle.writer.specs.Answers.{answer_of, wrote}
use Rattle.error.specs.declared.ErrorKind.{ErrorKind}
use Rattle.std.specs.Prelude as code
use Rattle.std.specs.Prelude.{Ok, Err}
use Rattle.writer.proofs.Refused.{refused_same}
use Rattle.abi_error.specs.Reply.{Reply, reply}
use Rattle.abi_writer.specs.Calls.{writer_of, called, step_c, settle_c}

module _ (c : Call) (state out table : List ℕ) (n : ℕ) (state' out' table' : List ℕ) where
  by_answer : (a : code.Result (Unit {0}) ErrorKind) (v : State) → result (answer_of a) v out' table' ≡ step c (writer_of state) out table
      → reply n state' ≡ settle_c a v state → called n state' out' table' ≡ step_c c state out table
  unfolding step_c
  by_answer (Ok u) v e k = rw (← e) (ap (λ (s : Reply). called s.number s.words out' table') k)
  by_answer (Err f) v e k =
      let same = e ∙ refused_same c (writer_of state) out table (number_of f) (ap (λ (r : Result). r.answer) (sym e)) in
      rw (← e, ← ap (λ (r : Result). r.out) same, ← ap (λ (r : Result). r.table) same)
      (ap (λ (s : Reply). called s.number s.words out' table') k)

-- `d` is the call as the code makes it, with an argument equal to `c`'s
pub step_called : (c : Call) (state out table : List ℕ) (a : code.Result (Unit {0}) ErrorKind) (v : State) {out' table' state' : List ℕ} {w : State} {d : Call} {n : ℕ}
    → w ≡ writer_of state → wrote a v out' table' ≡ step d w out table → d ≡ c → reply n state' ≡ settle_c a v state
    → called n state' out' table' ≡ step_c c state out table
step_called c state out table a v {out'} {table'} {state'} {w} {d} {n} e f g k =
    by_answer c state out table n state' out' table' a v (rw (e, g) at f) k
