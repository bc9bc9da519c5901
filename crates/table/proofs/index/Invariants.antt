-- `table::index` meets its contract.
use lib.ListN.{length}
use Rattle.table.proofs.Blocks.{Counting}
use Rattle.table.proofs.index.Given as goal

abbrev pub invariant-loop-i : goal.invariant-loop-i
invariant-loop-i l = Counting l.t l.blocks (length l.initial.blocks) l.known l.i
