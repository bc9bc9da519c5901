-- Laws of the names.
use mathlib.Core.Path.{refl}
use Prim.Native.Nat.{ℕ, ◌≤◌}
use mathlib.Core.List.{[]}
use lib.Dec.{leb}
use lib.ListN.{length, get_or}
use borrow.Author.Tests.{leb-true}
use Rattle.prelude.proofs.Tables.{every_get_d}
use Rattle.error.specs.Error.{names}

-- a name has at most ten letters, so that eleven bytes have room for it and a zero
pub length_name : (n : ℕ) → length (get_or names n []) ≤ 10
length_name n = leb-true _ _ (every_get_d (λ s. leb (length s) 10) names n [] refl refl)
