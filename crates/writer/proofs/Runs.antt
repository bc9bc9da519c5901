-- The laws of lists of calls.
--
-- In order: as many answers as calls; one list after another (`runs_append`), and one call more (`runs_snoc`); a call that is
-- refused changes nothing for those after it (`runs_refused`).
use mathlib.Core.Path.{◌≡◌, refl, ap}
use mathlib.Core.List.{List, [], ◌∷◌, ◌++◌}
use Prim.Native.Nat.{ℕ, suc}
use lib.ListN.{length}
use Rattle.prelude.specs.Answer.{error}
use Rattle.writer_refusal.specs.declared.State.{State}
use Rattle.writer.specs.Call.{Call}
use Rattle.writer.specs.Step.{step}
use Rattle.writer.specs.Runs.{ran, runs}
use Rattle.writer.proofs.Refused.{refused_same}

pub length_answers : (cs : List Call) (s : State) (out table : List ℕ) → length (runs cs s out table).answers ≡ length cs
unfolding runs
length_answers [] s out table = refl
length_answers (c ∷ cs) s out table = let r = step c s out table in ap suc (length_answers cs r.writer r.out r.table)

pub runs_append : (a b : List Call) (s : State) (out table : List ℕ) → let r = runs a s out table in let q = runs b r.writer r.out r.table in
    runs (a ++ b) s out table ≡ ran (r.answers ++ q.answers) q.writer q.out q.table
unfolding runs
runs_append [] b s out table = refl
runs_append (c ∷ a) b s out table = let r = step c s out table in rw (runs_append a b r.writer r.out r.table)

pub runs_snoc : (cs : List Call) (c : Call) (s : State) (out table : List ℕ)
    → let r = runs cs s out table in let q = step c r.writer r.out r.table in
    runs (cs ++ (c ∷ [])) s out table ≡ ran (r.answers ++ (q.answer ∷ [])) q.writer q.out q.table
unfolding runs
runs_snoc cs c s out table = runs_append cs (c ∷ []) s out table

pub runs_refused : (c : Call) (cs : List Call) (s : State) (out table : List ℕ) (f : ℕ) → (step c s out table).answer ≡ error f
    → let r = runs cs s out table in runs (c ∷ cs) s out table ≡ ran (error f ∷ r.answers) r.writer r.out r.table
unfolding runs
runs_refused c cs s out table f e = rw (refused_same c s out table f e)
