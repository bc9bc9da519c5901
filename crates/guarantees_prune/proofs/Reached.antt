-- What paths from a value meet.
--
-- In order: the value itself (`reached_here`), and what a value that is met leads to (`reached_on`); nothing else (`reached_by`), so none after the first
-- (`reached_le`); the same by lists of numbers (`reach_paths`), and by the marks of a pass down (`sweep_reached`).
use mathlib.Core.Path.{◌≡◌, refl, sym, subst}
use mathlib.Core.Logic.{◌↔◌}
use mathlib.Core.Bool.{true, false≢true, or_comm}
use mathlib.Core.List.{List, [], ◌∷◌}
use Prim.Native.Nat.{ℕ, suc, ◌≤◌, ◌<◌}
use native.Mathlib.Nat.{le_refl}
use native.Mathlib.Omega.{arith}
use lib.Dec.{eqb}
use lib.ListN.{length}
use borrow.Author.Tests.{eqb-true, eq-eqb}
use Rattle.prelude.specs.Search.{among}
use Rattle.prelude.proofs.Tests.{or_true}
use Rattle.leb128.specs.declared.Mode.{Mode}
use Rattle.values.specs.Values.{Value, Values}
use Rattle.values.specs.Paths.{Leads, Path, end, step}
use Rattle.values.proofs.Depths.{leads_earlier}
use Rattle.prune_reach.specs.Reach.{sweep}
use Rattle.guarantees_prune.specs.Pruned.{Reached}
use Rattle.guarantees_prune.proofs.Sweep.{Mark, single, Reach, here, there, sweep_exactly}

module _ (vs : List Value) where
  pub reached_here : (e : ℕ) → Reached vs e e
  unfolding among
  reached_here e = record { values = e ∷ []; path = end; met = rw (eq-eqb e e refl) }

  reached_step : {e i j : ℕ} → Leads vs e i → Reached vs i j → Reached vs e j
  unfolding among
  reached_step {e} {i} {j} t r = record { values = e ∷ r.values; path = step t r.path; met = rw (r.met, or_comm (eqb j e) true) }

  path_on : (i : ℕ) {e j : ℕ} {l : List ℕ} → Path vs e l → among i l ≡ true → Leads vs i j → Reached vs e j
  unfolding among
  path_on i {e} {j} end m t =
      or_true (eqb i e) (among i []) m (λ q. rw (← eqb-true i e q) (reached_step t (reached_here j))) (λ q. absurd (false≢true q))
  path_on i {e} {j} (step {l = l} u p) m t =
      or_true (eqb i e) (among i l) m (λ q. rw (← eqb-true i e q) (reached_step t (reached_here j))) (λ q. reached_step u (path_on i p q t))

  pub reached_on : {e i j : ℕ} → Reached vs e i → Leads vs i j → Reached vs e j
  reached_on {i = i} r t = path_on i r.path r.met t

  module _ (P : ℕ → Type 0) (next : (i j : ℕ) → i < length vs → P i → Leads vs i j → P j) where
    path_by : {e i : ℕ} {l : List ℕ} → e < length vs → P e → Path vs e l → among i l ≡ true → P i
    unfolding among
    path_by {e} {i} h p end m = or_true (eqb i e) (among i []) m (λ q. subst P (sym (eqb-true i e q)) p) (λ q. absurd (false≢true q))
    path_by {e} {i} h p (step {j = j} {l = l} t more) m =
        or_true (eqb i e) (among i l) m (λ q. subst P (sym (eqb-true i e q)) p) (λ q. path_by t.0 (next e j h p t) more q)

    pub reached_by : {e i : ℕ} → e < length vs → P e → Reached vs e i → P i
    reached_by h p r = path_by h p r.path r.met

  module _ {mode : Mode} (ok : Values mode vs) (e : ℕ) (e< : e < length vs) where
    pub reached_le : (i : ℕ) → Reached vs e i → i ≤ e
    reached_le i r = reached_by (λ k. k ≤ e) (λ k j h l t. omega (arith, leads_earlier vs ok k j h t)) e< (le_refl _) r

    -- f i are the numbers that value number i leads to
    module _ (f : ℕ → List ℕ) (own : (i j : ℕ) → i < length vs → (among j (f i) ≡ true) ↔ Leads vs i j) where
      pub own_lower : (i j : ℕ) → i < length vs → among j (f i) ≡ true → j < i
      own_lower i j h q = leads_earlier vs ok i j h ((own i j h).0 q)

      reached_reach : (i : ℕ) → Reach f e i → Reached vs e i
      reached_reach i here = reached_here e
      reached_reach i (there {i = k} r q) =
          let more = reached_reach k r in reached_on more ((own k i (omega (arith, reached_le k more))).0 q)

      pub reach_paths : (i : ℕ) → Reach f e i ↔ Reached vs e i
      reach_paths i = (λ r. reached_reach i r, λ r. reached_by (Reach f e) (λ k j h x t. there x ((own k j h).1 t)) e< here r)

      -- so they are what a pass from e down marks
      pub sweep_reached : (i : ℕ) → Mark (sweep f (suc e) (single (length vs) e)) i ↔ Reached vs e i
      sweep_reached i =
          let marks = sweep_exactly f (length vs) own_lower e e< i in
          (λ h. (reach_paths i).0 (marks.0 h), λ r. marks.1 ((reach_paths i).1 r))
