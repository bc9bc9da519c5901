-- `prune_reach::reach` meets its contract.
use borrow.Author.Rules.{rules}
use Rattle.prune_reach.proofs.Laws.{indexed_same, starts_same, below_same, reach_is}
use Rattle.prune_reach.proofs.reach.Goals as goal

pub pass-requires : goal.pass-requires
pass-requires c = (search rules, search (indexed_same, rules), search (below_same, rules), search rules)

pub returns : goal.returns
returns c = (search starts_same, search reach_is)
