-- The laws of `from`.
--
-- In order: what every turn keeps gives what holds for the answer (`from_all`); if each turn makes the measure less, a
-- turn that goes on leaves the answer as it is (`from_go`), and one that stops gives it (`from_stop`); two loops whose turns
-- are the same, unless the first stops with an exception (`from_or`).
use mathlib.Core.Path.{◌≡◌, refl}
use mathlib.Core.Logic.{◌⊎◌, inl, inr}
use Prim.Native.Nat.{ℕ, zero, suc, ◌<◌}
use native.Mathlib.Omega.{arith}
use Rattle.prelude.specs.Loop.{Turn, go, stop, follow, run, from}

module _ {S R : Type 0} (turn : S → Turn S R) (r : R) (I : S → Type 0) (P : R → Type 0) (kept : (s s' : S) → I s → turn s ≡ go s' → I s')
    (out : (s : S) (a : R) → I s → turn s ≡ stop a → P a) (never : P r) where
  follow_all : (s : S) → I s → (f : S → R) → ((s' : S) → I s' → P (f s')) → (t : Turn S R) → turn s ≡ t → P (follow t f)
  follow_all s i f h (go s') e = h s' (kept s s' i e)
  follow_all s i f h (stop a) e = out s a i e

  run_all : (k : ℕ) (s : S) → I s → P (run turn r k s)
  unfolding run
  run_all zero s i = never
  run_all (suc k) s i = follow_all s i (run turn r k) (run_all k) (turn s) refl

  pub from_all : (μ : S → ℕ) (s : S) → I s → P (from turn μ r s)
  unfolding from
  from_all μ s i = run_all (suc (μ s)) s i

follow_cong : {S R : Type 0} {f g : S → R} (t : Turn S R) → ((s : S) → t ≡ go s → f s ≡ g s) → (t' : Turn S R) → t ≡ t' → follow t' f ≡ follow t' g
follow_cong t h (go s) e = h s e
follow_cong t h (stop a) e = refl

module _ {S R : Type 0} (turn : S → Turn S R) (μ : S → ℕ) (r : R) (falls : (s s' : S) → turn s ≡ go s' → μ s' < μ s) where
  -- any number of turns above the measure gives the same answer
  run_same : (k m : ℕ) (s : S) → μ s < k → μ s < m → run turn r k s ≡ run turn r m s
  unfolding run
  run_same zero m s h g = absurd (omega arith)
  run_same (suc k) zero s h g = absurd (omega arith)
  run_same (suc k) (suc m) s h g =
      follow_cong (turn s) (λ s' e. run_same k m s' (omega (arith, falls s s' e)) (omega (arith, falls s s' e))) (turn s) refl

  pub from_go : (s s' : S) → turn s ≡ go s' → from turn μ r s ≡ from turn μ r s'
  unfolding from run
  from_go s s' e = rw e (run_same (μ s) (suc (μ s')) s' (falls s s' e) (omega arith))

  pub from_stop : (s : S) (a : R) → turn s ≡ stop a → from turn μ r s ≡ a
  unfolding from run
  from_stop s a e = rw e

-- ---- two loops

module _ {S R : Type 0} (P : R → Type 0) where
  -- the turn stops with an exception
  abbrev pub Stops : Turn S R → Type 0
  Stops t = (a : R) × (t ≡ stop a) × P a

  follow_or : (f g : S → R) → ((s : S) → P (f s) ⊎ (f s ≡ g s)) → (t : Turn S R) → P (follow t f) ⊎ (follow t f ≡ follow t g)
  follow_or f g h (go s) = h s
  follow_or f g h (stop a) = inr refl

  module _ {t u : S → Turn S R} (turns : (s : S) → Stops (t s) ⊎ (t s ≡ u s)) where
    run_or : (r : R) (k : ℕ) (s : S) → P (run t r k s) ⊎ (run t r k s ≡ run u r k s)
    unfolding run
    run_or r zero s = inr refl
    run_or r (suc k) s = elim (turns s) [ inl (a, e, q) ↦ inl (rw e q) | inr e ↦ rw e (follow_or _ _ (run_or r k) (u s)) ]

    pub from_or : (μ : S → ℕ) (r : R) (s : S) → P (from t μ r s) ⊎ (from t μ r s ≡ from u μ r s)
    unfolding from
    from_or μ r s = run_or r (suc (μ s)) s
