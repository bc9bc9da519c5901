-- `table::index` meets its contract.
use Rattle.table.proofs.Blocks.{next_le, last_lt, few_words, counting_on}
use Rattle.table.proofs.index.Goals as goal

pub count_blocks-requires : goal.count_blocks-requires
count_blocks-requires c = search (next_le, last_lt, few_words)

pub loop-i-preserved : goal.loop-i-preserved
loop-i-preserved c = search counting_on
