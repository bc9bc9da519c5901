-- `prune_marks::marks_from` meets its contract.
use Rattle.prune_marks.proofs.Numbering.{four_marks}
use Rattle.prune_marks.proofs.marks_from.Goals as goal

pub returns : goal.returns
returns c = search four_marks
