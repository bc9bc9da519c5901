-- `leb128::put_within` meets its contract. The invariant: what is still to be stored from i on makes the whole of it.
use mathlib.Core.Path.{refl, ap}
use Prim.Native.Nat.{◌-◌}
use native.Mathlib.Nat.{zero-add}
use native.Mathlib.Numerals.{add-one}
use native.Mathlib.Omega.{arith}
use lib.ListN.{length, length-set}
use Rattle.leb128.proofs.Sizes.{put_last, put_more}
use Rattle.leb128.proofs.put_within.Goals as goal

pub loop-m-init : goal.loop-m-init
loop-m-init c = (refl, zero-add _, refl, omega arith)

-- a byte that others follow
pub bounds-rest-i : goal.bounds-rest-i
bounds-rest-i c = omega (arith, ap length (put_more _ _ c.loop-m-test.true c.loop-m.invariant.3).bytes)

pub overflow_add-i : goal.overflow_add-i
overflow_add-i c = omega (arith, ap length (put_more _ _ c.loop-m-test.true c.loop-m.invariant.3).bytes)

pub loop-m-preserved : goal.loop-m-preserved
loop-m-preserved c =
    let p = put_more _ _ c.loop-m-test.true c.loop-m.invariant.3 in
    rw add-one (rw p.bytes at c.loop-m.invariant.0, omega (arith, ap length p.bytes), simp length-set (omega arith), p.below)

pub bounds-rest-i-2 : goal.bounds-rest-i-2
bounds-rest-i-2 c = omega (arith, ap length (put_last (9 - c.loop-m.i) _ c.loop-m-test.false))

pub overflow_add-result : goal.overflow_add-result
overflow_add-result c = omega (arith, ap length (put_last (9 - c.loop-m.i) _ c.loop-m-test.false))

pub shape_of-rest : goal.shape_of-rest
shape_of-rest c = simp length-set (omega arith)

pub returns : goal.returns
returns c =
    let p = put_last (9 - c.loop-m.i) _ c.loop-m-test.false in
    record { size = omega (arith, ap length p); bytes = rw p at c.loop-m.invariant.0 }
