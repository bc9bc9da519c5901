-- `table_search::Starts::is_among` meets its contract.
use Rattle.std.proofs.Common.{rules}
use Rattle.table_search.proofs.Quarters.{among_found}
use Rattle.table_search.proofs.Starts.is_among.Goals as goal

pub returns : goal.returns
returns c = among_found c.args.x _ _ c.get.result _ c.args.self.rising c.rank.ensures c.get.ensures.lookup.3 (search rules)
