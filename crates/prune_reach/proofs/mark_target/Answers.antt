-- `prune_reach::mark_target` meets its contract.
use borrow.Author.Rules.{rules}
use borrow.Author.Tests.{le-leb, lt-leb}
use Rattle.prune_reach.proofs.Laws.{target_marked}
use Rattle.prune_reach.proofs.mark_target.Goals as goal

pub returns-then-h-ge-KIND_REFERENCE : goal.returns-then-h-ge-KIND_REFERENCE
returns-then-h-ge-KIND_REFERENCE c = rw (le-leb 14 _ c.if-h-ge-KIND_REFERENCE.true) (search rules, search target_marked)

pub returns-else-h-ge-KIND_REFERENCE : goal.returns-else-h-ge-KIND_REFERENCE
returns-else-h-ge-KIND_REFERENCE c = rw (lt-leb 14 _ c.if-h-ge-KIND_REFERENCE.false) (search rules, search rules)
