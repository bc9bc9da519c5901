-- The numbers of the marks that are set.
--
-- In order: the list of them, by how many are set before each; how many are set, one mark further; the list rises; what is among it.
use mathlib.Core.Path.{◌≡◌, refl, ◌∙◌}
use mathlib.Core.Logic.{◌↔◌}
use mathlib.Core.Bool.{Bool, true, false, false≢true}
use mathlib.Core.List.{List, [], ◌∷◌}
use Prim.Native.Nat.{ℕ, zero, suc, ◌+◌, ◌≤◌, ◌<◌}
use native.Mathlib.Omega.{arith}
use lib.ListN.{length, take, get_or}
use Rattle.prelude.specs.Pick.{pick}
use Rattle.prelude.specs.Search.{among, Rising}
use Rattle.prelude.proofs.Tests.{split}
use Rattle.prelude.proofs.Searches.{among_at, among_by}
use Rattle.prune_marks.specs.Marks.{kept}

-- the first of ms is number i
unfoldable pub numbers : ℕ → List Bool → List ℕ
numbers i [] = []
numbers i (m ∷ ms) = let more = numbers (suc i) ms in pick m (i ∷ more) more

pub length_numbers : (i : ℕ) (ms : List Bool) → length (numbers i ms) ≡ kept ms
unfolding numbers kept
length_numbers i [] = refl
length_numbers i (true ∷ ms) = omega (arith, length_numbers (suc i) ms)
length_numbers i (false ∷ ms) = omega (arith, length_numbers (suc i) ms)

-- a mark that is set, by its number
pub numbers_at : (i : ℕ) (ms : List Bool) (j : ℕ) → get_or ms j false ≡ true
    → (kept (take j ms) < kept ms) × (get_or (numbers i ms) (kept (take j ms)) 0 ≡ i + j)
unfolding numbers kept
numbers_at i [] j h = absurd (false≢true h)
numbers_at i (true ∷ ms) zero h = (omega arith, omega arith)
numbers_at i (false ∷ ms) zero h = absurd (false≢true h)
numbers_at i (true ∷ ms) (suc j) h =
    let ih = numbers_at (suc i) ms j h in
    let e : 1 + kept (take j ms) ≡ suc (kept (take j ms)) = omega arith in
    (omega arith, rw e (ih.1 ∙ omega arith))
numbers_at i (false ∷ ms) (suc j) h =
    let ih = numbers_at (suc i) ms j h in
    let e : 0 + kept (take j ms) ≡ kept (take j ms) = omega arith in
    (omega arith, rw e (ih.1 ∙ omega arith))

pub numbers_by : (ms : List Bool) (k : ℕ) → k < kept ms → (j : ℕ) × (get_or ms j false ≡ true) × (kept (take j ms) ≡ k)
unfolding kept
numbers_by [] k h = absurd (omega arith)
numbers_by (true ∷ ms) zero h = (0, refl, refl)
numbers_by (true ∷ ms) (suc k) h = let r = numbers_by ms k (omega arith) in (suc r.0, r.1, omega (arith, r.2))
numbers_by (false ∷ ms) k h = let r = numbers_by ms k (omega arith) in (suc r.0, r.1, omega (arith, r.2))

pub kept_on : (ms : List Bool) (i : ℕ) → kept (take (suc i) ms) ≡ kept (take i ms) + pick (get_or ms i false) 1 0
unfolding kept
kept_on [] zero = refl
kept_on [] (suc i) = refl
kept_on (m ∷ ms) zero = omega arith
kept_on (m ∷ ms) (suc i) = omega (arith, kept_on ms i)

kept_mono : (ms : List Bool) (i j : ℕ) → i ≤ j → kept (take i ms) ≤ kept (take j ms)
unfolding kept
kept_mono [] zero zero h = omega arith
kept_mono [] zero (suc j) h = omega arith
kept_mono [] (suc i) zero h = omega arith
kept_mono [] (suc i) (suc j) h = omega arith
kept_mono (m ∷ ms) zero j h = omega arith
kept_mono (m ∷ ms) (suc i) zero h = absurd (omega arith)
kept_mono (m ∷ ms) (suc i) (suc j) h = omega (arith, kept_mono ms i j (omega arith))

pub kept_less : (ms : List Bool) (i j : ℕ) → get_or ms i false ≡ true → i < j → kept (take i ms) < kept (take j ms)
kept_less ms i j m h = omega (arith, rw m at (kept_on ms i), kept_mono ms (suc i) j (omega arith))

pub rising_numbers : (ms : List Bool) → Rising (numbers 0 ms)
rising_numbers ms i j h g =
    let many = length_numbers 0 ms in
    let (x, x∈, ex) = numbers_by ms i (omega arith) in
    let (y, y∈, ey) = numbers_by ms j (omega arith) in
    let atx = rw ex at (numbers_at 0 ms x x∈).1 in
    let aty = rw ey at (numbers_at 0 ms y y∈).1 in
    split x y (λ l. omega arith) (λ l. absurd (omega (arith, kept_mono ms y x l)))

pub among_numbers : (ms : List Bool) (i : ℕ) → (among i (numbers 0 ms) ≡ true) ↔ (get_or ms i false ≡ true)
among_numbers ms i = (
  λ h. (let (k, k<, e) = among_by i (numbers 0 ms) h in
      let (j, j∈, ej) = numbers_by ms k (omega (arith, length_numbers 0 ms)) in
      let at = rw ej at (numbers_at 0 ms j j∈).1 in
      let same : i ≡ j = omega arith in
      rw same j∈),
  λ h. let (l, e) = numbers_at 0 ms i h in among_at i (numbers 0 ms) (kept (take i ms)) (omega (arith, length_numbers 0 ms)) (omega arith),
)
