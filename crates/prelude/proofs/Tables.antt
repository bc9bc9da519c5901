-- Tables, so that a table's rule is one computed test, without a case for each row.
--
-- In order: what all rows pass, the row that is looked up passes; rows that stand for others, as a packed row does for
-- the row it encodes; two tables with the same row k, where only the rows that differ need k for it.
use mathlib.Core.Path.{◌≡◌, refl, ap, ◌∙◌}
use mathlib.Core.Bool.{Bool, true, ◌&&◌}
use mathlib.Core.List.{List, [], ◌∷◌, map}
use Prim.Native.Nat.{ℕ, zero, suc, ◌<◌}
use native.Mathlib.Nat.{not-suc-le-zero, le_of_suc-le-suc}
use lib.ListN.{length, get_or, set}
use Rattle.prelude.proofs.Tests.{and_l, and_r}

abbrev pub every : {A : Type 0} → (A → Bool) → List A → Bool
every p [] = true
every p (x ∷ xs) = p x && every p xs

-- if all rows of a table pass a test, and so does the default past them, each row that is looked up passes it
pub every_get_d : {A : Type 0} (p : A → Bool) (xs : List A) (k : ℕ) (d : A) → every p xs ≡ true → p d ≡ true → p (get_or xs k d) ≡ true
every_get_d p [] k d e ed = ed
every_get_d p (x ∷ xs) zero d e ed = and_l (p x) _ e
every_get_d p (x ∷ xs) (suc k) d e ed = every_get_d p xs k d (and_r (p x) _ e) ed

module _ {A B : Type 0} (f : A → B) where
  get_d_map : (xs : List A) (k : ℕ) (d : A) (e : B) → k < length xs → f (get_or xs k d) ≡ get_or (map f xs) k e
  get_d_map [] k d e h = absurd (not-suc-le-zero h)
  get_d_map (x ∷ xs) zero d e h = refl
  get_d_map (x ∷ xs) (suc k) d e h = get_d_map xs k d e (le_of_suc-le-suc h)

  pub get_d_coded : (xs : List A) (ys : List B) (k : ℕ) (d : A) (e : B) → map f xs ≡ ys → k < length xs → f (get_or xs k d) ≡ get_or ys k e
  get_d_coded xs ys k d e same h = rw (← same) (get_d_map xs k d e h)

-- two tables have the same row k
pub record SameRow {A : Type 0} (k : ℕ) (d : A) (xs ys : List A) : Type 0 where
  pub row : get_or xs k d ≡ get_or ys k d

pub set_row : {A : Type 0} (xs : List A) (i k : ℕ) (y d : A) → (k ≡ i → get_or xs i d ≡ y) → get_or xs k d ≡ get_or (set xs i y) k d
set_row [] i k y d h = refl
set_row (x ∷ xs) zero zero y d h = h refl
set_row (x ∷ xs) zero (suc k) y d h = refl
set_row (x ∷ xs) (suc i) zero y d h = refl
set_row (x ∷ xs) (suc i) (suc k) y d h = set_row xs i k y d (λ e. h (ap suc e))

-- row i, the same in both if it is the row asked for, is taken from the other table
pub same_row : {A : Type 0} {k : ℕ} {d : A} {xs ys : List A} (i : ℕ) → (k ≡ i → get_or xs i d ≡ get_or ys i d)
    → SameRow k d (set xs i (get_or ys i d)) ys → SameRow k d xs ys
same_row {A} {k} {d} {xs} {ys} i h more = record { row = set_row xs i k (get_or ys i d) d h ∙ more.row }
