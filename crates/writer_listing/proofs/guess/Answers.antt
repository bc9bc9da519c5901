-- `writer_listing::guess` meets its contract: the words left are within the table, and at least one.
use Prim.Native.Nat.{ℕ, ◌+◌, ◌*◌, ◌/◌, ◌≤◌}
use native.Mathlib.Omega.{arith}
use native.Mathlib.Nat.{mul-le-mul}
use Rattle.writer_listing.proofs.guess.Goals as goal

-- up to three quarters
quarters_le : (q a b c : ℕ) → a ≤ 1 → b ≤ 1 → c ≤ 1 → q * (a + b + c) ≤ 3 * q
quarters_le q a b c h i j = omega (arith, mul-le-mul {n₁ = q} {m₁ = a + b + c} {n₂ = q} {m₂ = 3} (omega arith) (omega arith))

pub overflow_mul-lo : goal.overflow_mul-lo
overflow_mul-lo c =
    omega (arith, quarters_le (c.loop-size.size / 4) _ _ _ c.until.ensures c.until-in-loop-size.ensures c.until-in-loop-size-2.ensures)

pub overflow_add-lo-in-loop-size-5 : goal.overflow_add-lo-in-loop-size-5
overflow_add-lo-in-loop-size-5 c =
    omega (arith, quarters_le (c.loop-size.size / 4) _ _ _ c.until.ensures c.until-in-loop-size.ensures c.until-in-loop-size-2.ensures)

pub loop-size-preserved : goal.loop-size-preserved
loop-size-preserved c =
    let most = quarters_le (c.loop-size.size / 4) _ _ _ c.until.ensures c.until-in-loop-size.ensures c.until-in-loop-size-2.ensures in
    (omega arith, omega arith)
