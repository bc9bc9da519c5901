-- `table_search::count` meets its contract.
use Rattle.std.proofs.Common.{rules}
use Rattle.table_search.proofs.Quarters.{count_all}
use Rattle.table_search.proofs.count.Goals as goal

pub returns : goal.returns
returns c = search (count_all, rules)
