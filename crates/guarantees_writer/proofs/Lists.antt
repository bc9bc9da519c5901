-- Lists of calls joined, and what comes after a close.
use mathlib.Core.Path.{◌≡◌, refl, ap}
use mathlib.Core.List.{List, [], ◌∷◌, ◌++◌}
use Prim.Native.Nat.{ℕ, suc}
use lib.Dec.{ltb}
use lib.ListN.{length}
use Rattle.prelude.specs.Answer.{error}
use Rattle.prelude.specs.Each.{Each}
use Rattle.prelude.proofs.Tests.{pick_elim}
use Rattle.error.specs.Error.{CLOSED}
use Rattle.writer.specs.Call.{Call}
use Rattle.guarantees_writer.specs.Model.{Request, adds, ends, request_of, ModelValue, closed, Model, model, back_to, model_answer, model_after}
use Rattle.guarantees_writer.specs.History.{model_ran, unless_refused, model_run}

-- the calls of two lists, one list after the other
pub model_run_append : (a c : List Call) (b : Model) (n m : ℕ)
    → let k = model_run a b n m in let l = model_run c k.model n m in model_run (a ++ c) b n m ≡ model_ran (k.answers ++ l.answers) l.model
unfolding model_run
model_run_append [] c b n m = refl
model_run_append (x ∷ a) c b n m = rw (model_run_append a c (unless_refused (model_answer (request_of x) b n m) b (model_after (request_of x) b)) n m)

pub length_answers : (cs : List Call) (b : Model) (n m : ℕ) → length (model_run cs b n m).answers ≡ length cs
unfolding model_run
length_answers [] b n m = refl
length_answers (c ∷ cs) b n m = ap suc (length_answers cs (unless_refused (model_answer (request_of c) b n m) b (model_after (request_of c) b)) n m)

-- ---- after a close

module _ (vs : List ModelValue) (d n m : ℕ) where
  closed_request : (l : Request) → model_answer l (model vs (closed d)) n m ≡ error CLOSED
  closed_request (adds p) = refl
  closed_request (ends e) = refl

  -- every call is CLOSED, and nothing changes
  pub closed_answers : (cs : List Call) → Each (λ v. v ≡ error CLOSED) (model_run cs (model vs (closed d)) n m).answers
  unfolding model_run
  closed_answers [] = tt
  closed_answers (c ∷ cs) = rw (closed_request (request_of c)) (refl, closed_answers cs)

  pub closed_same : (cs : List Call) → (model_run cs (model vs (closed d)) n m).model ≡ model vs (closed d)
  unfolding model_run
  closed_same [] = refl
  closed_same (c ∷ cs) = rw (closed_request (request_of c)) (closed_same cs)

-- whatever calls come after a close, they leave what it left
pub ended_same : (e : ℕ) (b : Model) (n m : ℕ) (cs : List Call) → (model_run cs (model_after (ends e) b) n m).model ≡ model_after (ends e) b
ended_same e b n m cs =
    pick_elim (λ c. (model_run cs c n m).model ≡ c) (ltb 255 (back_to e b)) (λ _. closed_same _ _ n m cs) (λ _. closed_same _ _ n m cs)

pub ended_answers : (e : ℕ) (b : Model) (n m : ℕ) (cs : List Call) → Each (λ v. v ≡ error CLOSED) (model_run cs (model_after (ends e) b) n m).answers
ended_answers e b n m cs =
    pick_elim (λ c. Each (λ v. v ≡ error CLOSED) (model_run cs c n m).answers) (ltb 255 (back_to e b))
    (λ _. closed_answers _ _ n m cs) (λ _. closed_answers _ _ n m cs)
