-- `prune_reach::visit` meets its contract.
use borrow.Author.Rules.{rules}
use Rattle.prune_marks.proofs.Words.{start_le}
use Rattle.prune_reach.proofs.Laws.{visited, passed}
use Rattle.prune_reach.proofs.visit.Goals as goal

pub mark_targets-requires : goal.mark_targets-requires
mark_targets-requires c = (search rules, search start_le, search rules)

pub returns-then-is_marked : goal.returns-then-is_marked
returns-then-is_marked c = (search rules, search visited)

pub returns-else-is_marked : goal.returns-else-is_marked
returns-else-is_marked c = (search rules, search passed)
