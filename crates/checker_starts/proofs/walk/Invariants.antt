-- `checker_starts::walk` meets its contract.
use mathlib.Core.Path.{◌≡◌}
use Prim.Native.Nat.{◌-◌}
use lib.ListN.{length}
use Rattle.checker_starts.proofs.Invariant.{TableInvariant, Indexed}
use Rattle.checker_starts.proofs.walk.Given as goal

abbrev pub invariant-loop-at : goal.invariant-loop-at
invariant-loop-at l =
    (TableInvariant l.region.mode l.region.bytes.now l.starts (length l.initial.starts) l.at l.count)
    × (Indexed l.region.bytes.now l.starts l.blocks l.at l.count) × (length l.blocks ≡ length l.initial.blocks)

abbrev pub decreases-loop-at : goal.decreases-loop-at
decreases-loop-at l = length l.region.bytes.now - l.at
