-- A list whose first i elements are 0: one more, and all.
use mathlib.Core.Path.{◌≡◌, ◌∙◌}
use mathlib.Core.List.{List, ◌++◌, append-nil}
use Prim.Native.Nat.{ℕ, ◌+◌, ◌≤◌, ◌<◌}
use native.Mathlib.Omega.{arith}
use lib.ListN.{length, set, drop, replicate, drop_of_length-le}
use borrow.Author.Fill.{fill_more}

module _ (t d : List ℕ) (i : ℕ) (e : t ≡ replicate i 0 ++ drop i d) where
  pub fill_on : i < length d → set t i 0 ≡ replicate (i + 1) 0 ++ drop (i + 1) d
  fill_on h = rw e (fill_more i 0 d h)

  pub filled : i ≤ length d → length d ≤ i → t ≡ replicate (length d) 0
  filled h g = let q : i ≡ length d = omega arith in e ∙ rw (drop_of_length-le d g, append-nil, q)
