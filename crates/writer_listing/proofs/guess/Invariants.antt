-- `writer_listing::guess` meets its contract: the words left are within the table, and at least one.
use Prim.Native.Nat.{◌+◌, ◌≤◌}
use lib.ListN.{length}
use Rattle.writer_listing.proofs.guess.Given as goal

abbrev pub invariant-loop-size : goal.invariant-loop-size
invariant-loop-size l = (l.lo + l.size ≤ length l.t) × (1 ≤ l.size)

abbrev pub decreases-loop-size : goal.decreases-loop-size
decreases-loop-size l = l.size

abbrev pub invariant-loop-k : goal.invariant-loop-k
invariant-loop-k l = l.lo + 1 ≤ l.initial.lo + l._k
