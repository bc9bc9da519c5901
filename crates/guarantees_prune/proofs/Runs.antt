-- Calls up to the first refused one (`run_until`).
--
-- In order: what comes after an accepted call (`and_same`, `and_by`, `and_assoc`); one list after another (`until_append`), and one call (`until_one`); if
-- all are accepted, it is what `runs` leaves (`until_ok`), and else the answer is the first error (`until_error`).
use mathlib.Core.Path.{◌≡◌, refl, sym, ap, ◌∙◌}
use mathlib.Core.List.{List, [], ◌∷◌, ◌++◌}
use Prim.Native.Nat.{ℕ}
use native.Mathlib.Omega.{arith}
use Rattle.prelude.specs.Answer.{ok, error}
use Rattle.writer_refusal.specs.Refusal.{Verdict}
use Rattle.writer_refusal.specs.declared.State.{State}
use Rattle.writer.specs.Call.{Call}
use Rattle.writer.specs.Step.{Result, result, step}
use Rattle.writer.specs.Runs.{runs}
use Rattle.prune_copy.specs.Copy.{if_accepted, and_on}
use Rattle.guarantees_writer.specs.History.{AllOk}
use Rattle.guarantees_prune.specs.Pruned.{FirstError, here, later}

-- the calls cs one after the other, as long as they are accepted
unfoldable pub run_until : List Call → State → List ℕ → List ℕ → Result
run_until [] w out table = result (ok tt) w out table
run_until (c ∷ cs) w out table = and_on (step c w out table) (run_until cs)

pub error_ok : {X : Type 0} {f : ℕ} → ◌≡◌ {A = Verdict} (error f) (ok tt) → X
error_ok e = let z : ◌≡◌ {A = ℕ} 0 1 = cc in absurd (omega arith)

-- ---- after an accepted call

module _ (r : Result) (f : State → List ℕ → List ℕ → Result) where
  pub and_same : (g : State → List ℕ → List ℕ → Result)
      → (r.answer ≡ ok tt → f r.writer r.out r.table ≡ g r.writer r.out r.table) → and_on r f ≡ and_on r g
  and_same g = by_answer r.answer
    where
      by_answer : (v : Verdict) {x y : Result} → (v ≡ ok tt → x ≡ y) → if_accepted v r x ≡ if_accepted v r y
      by_answer (ok u) h = h refl
      by_answer (error e) h = refl

  pub and_by : (P : Result → Type 0) → (and_on r f).answer ≡ ok tt
      → (let q = f r.writer r.out r.table in r.answer ≡ ok tt → q.answer ≡ ok tt → P q) → P (and_on r f)
  and_by P = by_answer r.answer refl
    where
      by_answer : (v : Verdict) → r.answer ≡ v → {q : Result} → (if_accepted v r q).answer ≡ ok tt → (r.answer ≡ ok tt → q.answer ≡ ok tt → P q)
          → P (if_accepted v r q)
      by_answer (ok u) e a h = h e a
      by_answer (error x) e a h = error_ok (rw e at a)

  pub and_assoc : (g : State → List ℕ → List ℕ → Result) → and_on (and_on r f) g ≡ and_on r (λ w out table. and_on (f w out table) g)
  and_assoc g = by_answer r.answer (f r.writer r.out r.table) refl
    where
      by_answer : (v : Verdict) (q : Result) → r.answer ≡ v → and_on (if_accepted v r q) g ≡ if_accepted v r (and_on q g)
      by_answer (ok u) q e = refl
      by_answer (error x) q e = rw e

-- ---- lists of calls

pub until_append : (a b : List Call) (w : State) (out table : List ℕ) → run_until (a ++ b) w out table ≡ and_on (run_until a w out table) (run_until b)
unfolding run_until
until_append [] b w out table = refl
until_append (c ∷ a) b w out table =
    let r = step c w out table in
    and_same r (run_until (a ++ b)) (λ w out table. and_on (run_until a w out table) (run_until b)) (λ _. until_append a b r.writer r.out r.table)
    ∙ rw (and_assoc r (run_until a) (run_until b))

pub until_one : (c : Call) (w : State) (out table : List ℕ) → run_until (c ∷ []) w out table ≡ step c w out table
unfolding run_until
until_one c w out table = by_answer (step c w out table) (step c w out table).answer refl
  where
    by_answer : (r : Result) (v : Verdict) → r.answer ≡ v → if_accepted v r (result (ok tt) r.writer r.out r.table) ≡ r
    by_answer r (ok u) e = ap (λ v. result v r.writer r.out r.table) (sym e)
    by_answer r (error f) e = refl

pub until_ok : (cs : List Call) (w : State) (out table : List ℕ) → let r = runs cs w out table in
    AllOk r.answers → run_until cs w out table ≡ result (ok tt) r.writer r.out r.table
unfolding run_until runs
until_ok [] w out table h = refl
until_ok (c ∷ cs) w out table h = let r = step c w out table in rw h.0 (until_ok cs r.writer r.out r.table h.1)

first_by : {X : Type 0} {f : ℕ} {v : Verdict} {vs : List Verdict} → FirstError f (v ∷ vs) → (v ≡ error f → X) → (v ≡ ok tt → FirstError f vs → X) → X
first_by here now after = now refl
first_by (later h) now after = after refl h

pub until_error : (cs : List Call) (w : State) (out table : List ℕ) (f : ℕ) → FirstError f (runs cs w out table).answers
    → (run_until cs w out table).answer ≡ error f
unfolding run_until runs
until_error [] w out table f h = elim h [ ]
until_error (c ∷ cs) w out table f h =
    let r = step c w out table in
    first_by h (λ e. rw e e) (λ e more. rw e (until_error cs r.writer r.out r.table f more))
