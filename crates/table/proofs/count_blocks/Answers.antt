-- `table::count_blocks` meets its contract.
use Rattle.std.proofs.Common.{rules}
use Rattle.table.proofs.Blocks.{counted_fill}
use Rattle.table.proofs.count_blocks.Goals as goal

pub returns : goal.returns
returns c = search (counted_fill, rules)
