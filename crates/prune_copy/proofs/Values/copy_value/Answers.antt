-- `prune_copy::Values::copy_value` meets its contract.
use Rattle.prune_copy.proofs.Laws.{value_is_copied}
use Rattle.prune_copy.proofs.Values.copy_value.Goals as goal

pub returns-then-is_marked : goal.returns-then-is_marked
returns-then-is_marked c = search value_is_copied
