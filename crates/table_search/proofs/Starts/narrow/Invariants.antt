-- `table_search::Starts::narrow` meets its contract.
use lib.ListN.{length}
use Rattle.prelude.specs.Search.{rank}
use Rattle.table_search.proofs.Quarters.{Between}
use Rattle.table_search.proofs.Starts.narrow.Given as goal

abbrev pub invariant-loop-size : goal.invariant-loop-size
invariant-loop-size l = Between (rank l.x l.t) (length l.t) l.lo l.size

abbrev pub decreases-loop-size : goal.decreases-loop-size
decreases-loop-size l = l.size
