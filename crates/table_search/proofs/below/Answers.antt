-- `table_search::below` meets its contract.
use Rattle.std.proofs.Common.{rules}
use Rattle.table_search.proofs.Quarters.{past_test}
use Rattle.table_search.proofs.below.Goals as goal

pub returns : goal.returns
returns c = search (past_test, rules)
