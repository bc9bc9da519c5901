-- Items, as the code counts them in 64 bits: up to LIMIT.
use mathlib.Core.Path.{◌≡◌}
use Prim.Native.Nat.{ℕ, zero, suc, ◌+◌, ◌*◌, ◌≤◌}
use native.Mathlib.Omega.{arith}
use native.Mathlib.Nat.{mul-le-mul}
use Rattle.prelude.proofs.Tests.{split}
use Rattle.error.specs.Error.{LIMIT}
use Rattle.kind.specs.Kind.{pending}
use Rattle.kind.specs.declared.Rule.{Rule}
use Rattle.writer_refusal.specs.Refusal.{limit}

limit_mul : (e n : ℕ) → limit (e * n) ≡ limit (e * limit n)
limit_mul zero n = omega arith
limit_mul (suc e) n =
    split n LIMIT
    (λ h. let q : limit n ≡ n = omega arith in rw q)
    (λ h. let q : limit n ≡ LIMIT = omega arith in rw q (omega arith))

pub each_le : (e n : ℕ) → e ≤ 4 → e * limit n ≤ 4 * LIMIT
each_le e n h = mul-le-mul {n₂ = 4} {m₂ = LIMIT} h (omega arith)

pub items_limit : (r : Rule) (n args : ℕ) → limit (r.single + r.each * limit n + limit args) ≡ limit (pending r n args)
items_limit r n args = omega (arith, limit_mul r.each n)
