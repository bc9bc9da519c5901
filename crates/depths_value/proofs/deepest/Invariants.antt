-- `depths_value::deepest` meets its contract.
use mathlib.Core.Path.{◌≡◌}
use Prim.Native.Nat.{◌-◌, ◌≤◌}
use lib.ListN.{length}
use Rattle.depths_value.specs.Depth.{depth_state, deepest_from, deepest_in}
use Rattle.depths_value.proofs.deepest.Given as goal

abbrev pub invariant-loop-at : goal.invariant-loop-at
invariant-loop-at l =
    let s = l.region.bytes.now in
    let ss = l.starts.words.now in
    (l.at ≤ length s)
    × (deepest_from l.region.mode s ss l.before l.end (depth_state l.at l.deep) ≡ deepest_in l.region.mode s ss l.before l.end l.start)

abbrev pub decreases-loop-at : goal.decreases-loop-at
decreases-loop-at l = length l.region.bytes.now - l.at
