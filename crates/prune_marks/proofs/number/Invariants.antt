-- `prune_marks::number` meets its contract.
use Rattle.prune_marks.proofs.Numbering.{Going}
use Rattle.prune_marks.proofs.number.Given as goal

abbrev pub invariant-loop-g : goal.invariant-loop-g
invariant-loop-g l = Going l.initial.t l.t l.g l.k
