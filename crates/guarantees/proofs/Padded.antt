-- A file that is well formed in the tolerant mode is well formed in the strict one, with the same values and entry; or the strict check says OVERLONG.
use mathlib.Core.Path.{sym, ap, ◌∙◌, subst}
use mathlib.Core.Logic.{◌⊎◌, inl, inr}
use Prim.Native.Nat.{ℕ}
use mathlib.Core.List.{List}
use native.Mathlib.Nat.{le_refl}
use lib.ListN.{length}
use Rattle.prelude.specs.Bytes.{Bytes}
use Rattle.leb128.specs.declared.Mode.TheVariants.{Strict, Tolerant}
use Rattle.values.specs.Values.{Value, WellFormed}
use Rattle.values.proofs.Unique.{one_reading}
use Rattle.values.proofs.Modes.{well_formed_of_strict}
use Rattle.checker.specs.Check.{Checked, check_of}
use Rattle.guarantees_modes.specs.Modes.{IsOverlong}
use Rattle.guarantees_modes.proofs.Theorems.{modes_agree}
use Rattle.guarantees.proofs.Accepts.{accepts}
use Rattle.guarantees.proofs.Accepted.{accepted}

pub strict_or_overlong : (file : List ℕ) (vs : List Value) (entry : ℕ) → Bytes file → WellFormed Tolerant file vs entry
    → WellFormed Strict file vs entry ⊎ IsOverlong (check_of Strict file (length vs)).answer
strict_or_overlong file vs entry b w =
    elim (modes_agree.check file (length vs)) [
      | inl o ↦ inr o
      | inr e ↦
          let taken = e ∙ accepts file vs entry (length vs) w (le_refl _) in
          let a = accepted file (length vs) (length vs) entry b (ap (λ (c : Checked). c.answer) taken) in
          let same = (one_reading file vs a.values entry entry w (well_formed_of_strict Tolerant a.well_formed)).0 in
          inl (subst (λ ws. WellFormed Strict file ws entry) (sym same) a.well_formed)
    ]
