-- `prune_marks::number` meets its contract.
use Prim.Native.Nat.{◌+◌, ◌*◌, ◌≤◌}
use native.Mathlib.Omega.{arith}
use Rattle.prune_marks.proofs.Numbering.{kept_to, count_le, going_start, going_on, going_length, going_end}
use Rattle.prune_marks.proofs.number.Goals as goal

pub loop-g-init : goal.loop-g-init
loop-g-init c = going_start _

pub loop-g-preserved : goal.loop-g-preserved
loop-g-preserved c =
    let l = c.loop-g in
    let long = going_length _ _ _ _ l.invariant in
    let few : c.count-k.result ≤ 4 = omega (arith, count_le l.t (4 * l.g) (4 * l.g + 4) _ (omega arith) c.count-k.ensures) in
    let more = kept_to l.t (4 * l.g) (4 * l.g + 4) _ (omega arith) c.count-k.ensures in
    going_on _ _ _ _ _ _ l.invariant (omega arith) (omega arith) more few c.set_four.ensures

pub returns : goal.returns
returns c = going_end _ _ _ _ c.loop-g.invariant (omega arith)
