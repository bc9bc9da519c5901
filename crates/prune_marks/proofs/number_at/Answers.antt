-- `prune_marks::number_at` meets its contract.
use borrow.Author.Rules.{rules}
use Rattle.prune_marks.specs.Marks.{four}
use Rattle.prune_marks.proofs.number_at.Goals as goal

pub returns : goal.returns
unfolding four
returns c = (search rules, search rules)
