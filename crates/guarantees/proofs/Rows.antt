-- The row of a kind: what holds of each row of a table, with its number, holds of the one that is looked up.
use mathlib.Core.Path.{◌≡◌}
use mathlib.Core.List.{List, [], ◌∷◌}
use Prim.Native.Nat.{ℕ, zero, suc, ◌+◌, ◌<◌}
use native.Mathlib.Nat.{add-zero}
use native.Mathlib.Omega.{arith}
use lib.ListN.{length, get_or}

infixr 5 ◌▸◌
-- P holds of each row with its number, the first being i
pub data Rows {A : Type 0} (P : ℕ → A → Type 0) : ℕ → List A → Type 0 where
  past : {i : ℕ} → Rows P i []
  ◌▸◌ : {i : ℕ} {x : A} {xs : List A} → P i x → Rows P (suc i) xs → Rows P i (x ∷ xs)

pub rows_at : {A : Type 0} (P : ℕ → A → Type 0) (i k : ℕ) (xs : List A) (d : A) → Rows P i xs → k < length xs → P (i + k) (get_or xs k d)
rows_at P i k [] d past h = absurd (omega arith)
rows_at P i zero (x ∷ xs) d (p ▸ r) h = rw add-zero p
rows_at P i (suc k) (x ∷ xs) d (p ▸ r) h =
    let sum : i + suc k ≡ suc i + k = omega arith in
    rw sum (rows_at P (suc i) k xs d r (omega arith))
