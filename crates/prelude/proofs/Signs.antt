-- A signed number of 64 bits as its sign and `mag`, which is n both for n and for -n-1: as the code computes it.
use mathlib.Core.Path.{◌≡◌, refl, ap, ◌∙◌}
use mathlib.Core.Bool.{true, false}
use Prim.Native.Nat.{ℕ, zero, suc, ◌<◌, ◌^◌}
use native.Mathlib.Omega.{arith}
use native.Mathlib.Nat.{zero-add}
use lib.IntN.{ℤ, pos, negsuc, ◌-ℤ◌}
use lib.Signed.{mag, lt_z}
use mir.Syntax.{w64}
use mir.Val.{SFits, to_z, of_z}
use mir.ValLaws.{to_z-of_z}
use borrow.Author.Tests.{ltb-true, lt-leb}

negative_is : (z : ℤ) → lt_z z (pos 0) ≡ true → z ≡ negsuc (mag z)
negative_is (pos n) h = absurd (omega (arith, ltb-true n 0 h))
negative_is (negsuc n) h = refl

positive_is : (z : ℤ) → lt_z z (pos 0) ≡ false → z ≡ pos (mag z)
positive_is (pos n) h = refl
positive_is (negsuc n) h = let e : true ≡ false = h in let k : ◌≡◌ {A = ℕ} 0 1 = cc in absurd (omega arith)

minus : (m : ℕ) → negsuc 0 -ℤ negsuc m ≡ pos m
minus m = rw (lt-leb (suc (suc m)) 1 (omega arith)) (ap pos (omega arith))

minus_pos : (n : ℕ) → negsuc 0 -ℤ pos n ≡ negsuc n
minus_pos zero = refl
minus_pos (suc n) = rw zero-add

-- -n-1 of a word n below 2^63
pub complement : (n : ℕ) → n < 2 ^ 63 → negsuc 0 -ℤ to_z w64 n ≡ negsuc n
complement n h = ap (λ z. negsuc 0 -ℤ z) (to_z-of_z w64 (pos n) (record { sfits = h })) ∙ minus_pos n

module _ (z : ℤ) (f : SFits w64 z) where
  pub flipped : lt_z (to_z w64 (of_z w64 z)) (pos 0) ≡ true → negsuc 0 -ℤ to_z w64 (of_z w64 z) ≡ pos (mag z)
  flipped h = ap (λ y. negsuc 0 -ℤ y) (to_z-of_z w64 z f ∙ negative_is z (rw (to_z-of_z w64 z f) at h)) ∙ minus (mag z)

  pub kept : lt_z (to_z w64 (of_z w64 z)) (pos 0) ≡ false → to_z w64 (of_z w64 z) ≡ pos (mag z)
  kept h = to_z-of_z w64 z f ∙ positive_is z (rw (to_z-of_z w64 z f) at h)

  pub reread : to_z w64 (of_z w64 (pos (mag z))) ≡ pos (mag z)
  reread = to_z-of_z w64 (pos (mag z)) (record { sfits = f.sfits })
