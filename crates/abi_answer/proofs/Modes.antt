-- The mode's numbers in the C interface: TWINE_STRICT is 0, TWINE_TOLERANT is 1, and any other number is strict.
use Prim.Native.Nat.{ℕ}
use mathlib.Core.Path.{◌≡◌, refl}
use borrow.Author.Tests.{ne_eqb}
use Rattle.leb128.specs.declared.Mode.TheVariants.{Strict, Tolerant}
use Rattle.abi_answer.specs.Answers.{mode_of}

pub the_mode_numbers : (mode_of 0 ≡ Strict) × (mode_of 1 ≡ Tolerant) × ((n : ℕ) → (n ≡ 1 → ⊥) → mode_of n ≡ Strict)
the_mode_numbers = (refl, refl, λ n other. rw (ne_eqb n 1 other))
