-- `prune::prune` meets its contract.
use borrow.Author.Rules.{rules}
use Rattle.prune.proofs.Laws.{memory_left, memory_cleared}
use Rattle.prune.proofs.prune.Goals as goal

pub returns-then-is_ok : goal.returns-then-is_ok
returns-then-is_ok c = search memory_left

pub returns : goal.returns
returns c = search (memory_cleared, rules)
