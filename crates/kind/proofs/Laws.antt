-- Laws of the kind table, each one computed test over all rows.
use mathlib.Core.Path.{◌≡◌, refl, sym, ◌∙◌}
use mathlib.Core.Bool.{true, false, not, ◌&&◌, ◌||◌, false≢true}
use Prim.Native.Nat.{ℕ, ◌+◌, ◌-◌, ◌*◌, ◌^◌, ◌≤◌, ◌<◌, min}
use native.Mathlib.Omega.{arith}
use lib.Dec.{leb, ltb, eqb}
use lib.ListN.{get_or-eq_default}
use borrow.Author.Tests.{leb-true, ltb-true, eqb-true, not-true}
use Rattle.prelude.proofs.Tests.{split, and_l, and_r, or_true}
use Rattle.prelude.proofs.Tables.{every_get_d}
use Rattle.kind.specs.Kind.{rule, table, reserved, immediate}
use Rattle.kind.specs.Internal.{Row}
use Rattle.kind.specs.declared.Rule.{Rule}

pub rule_past : (k : ℕ) → 15 < k → rule k ≡ reserved
unfolding rule
rule_past k h = get_or-eq_default table reserved {n = k} (omega arith)

-- a kind in use is below 16
pub used_past : (k : ℕ) → 0 < (rule k).lows → 16 ≤ k → ⊥
used_past k u l = omega (arith, rw (rule_past k l) at u)

pub used_lt : (k : ℕ) → 0 < (rule k).lows → k < 16
used_lt k u = split k 16 (λ l. l) (λ l. absurd (used_past k u l))

pub most_fits : (k : ℕ) → (rule k).most < 2 ^ 64
unfolding rule
most_fits k = ltb-true _ _ (every_get_d (λ r. ltb r.most (2 ^ 64)) table k reserved refl refl)

pub rule_row : (k : ℕ) → Row (rule k)
unfolding rule
rule_row k = record {
  lows = leb-true _ _ (every_get_d (λ r. leb r.lows (r.most + 1)) table k reserved refl refl);
  single = leb-true _ _ (every_get_d (λ r. leb r.single 1) table k reserved refl refl);
  unit = leb-true _ _ (every_get_d (λ r. leb (r.scale + r.each) 4) table k reserved refl refl);
  need = ltb-true _ _ (every_get_d (λ r. ltb (r.fixed + (r.scale + r.each) * min r.most (2 ^ 63 - 1)) (2 ^ 64)) table k reserved refl refl);
  fixed = leb-true _ _ (every_get_d (λ r. leb r.fixed (4 * r.scale)) table k reserved refl refl);
  many = λ e. or_true _ _ (every_get_d (λ r. not r.args || eqb (r.scale + r.single + r.each) 0) table k reserved refl refl)
      (λ no. absurd (false≢true (sym (not-true _ no) ∙ e)))
      (λ none. eqb-true _ _ none);
}

-- an immediate has no items
pub record None (r : Rule) : Type 0 where
  pub single : r.single ≡ 0
  pub each : r.each ≡ 0
  pub args : r.args ≡ false

pub immediate_none : (k : ℕ) → immediate (rule k) ≡ true → None (rule k)
unfolding rule
immediate_none k e =
    let r = rule k in
    let s = eqb r.single 0 in
    let i = eqb r.each 0 in
    or_true _ _ (every_get_d (λ r. not r.immediate || (eqb r.single 0 && eqb r.each 0 && not r.args)) table k reserved refl refl)
    (λ no. absurd (false≢true (sym (not-true _ no) ∙ e)))
    (λ none.
    record {
      single = eqb-true r.single 0 (and_l s i (and_l (s && i) (not r.args) none));
      each = eqb-true r.each 0 (and_r s i (and_l (s && i) (not r.args) none));
      args = not-true r.args (and_r (s && i) (not r.args) none);
    })
