-- `emit::copy` meets its contract. The invariant: what is still to be stored from i on makes the whole of it.
use mathlib.Core.Path.{◌≡◌}
use Prim.Native.Nat.{◌-◌, ◌≤◌}
use lib.ListN.{length, drop}
use lib.Seq.{sets}
use Rattle.emit.proofs.copy.Given as goal

abbrev pub invariant-loop-i : goal.invariant-loop-i
invariant-loop-i l = (sets l.rest l.i (drop l.i l.body) ≡ sets l.initial.rest 0 l.body) × (l.i ≤ length l.body) × (length l.rest ≡ length l.initial.rest)

abbrev pub decreases-loop-i : goal.decreases-loop-i
decreases-loop-i l = length l.body - l.i
