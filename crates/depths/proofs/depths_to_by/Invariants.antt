-- `depths::depths_to_by` meets its contract.
use mathlib.Core.Path.{◌≡◌}
use Prim.Native.Nat.{◌≤◌}
use lib.ListN.{length, take}
use Rattle.depths_value.specs.Depth.{depths_to}
use Rattle.depths.proofs.depths_to_by.Given as goal

abbrev pub invariant-loop-i : goal.invariant-loop-i
invariant-loop-i l =
    (l.i ≤ length l.starts) × (length l.depths ≡ length l.initial.depths) × (take l.i l.depths ≡ depths_to l.region.mode l.region.bytes.now l.starts l.i)
