-- `prune_copy::Values::new_number` meets its contract.
use borrow.Author.Rules.{rules}
use Rattle.prune_copy.proofs.Laws.{number_fits}
use Rattle.prune_copy.proofs.Values.new_number.Goals as goal

pub place-requires : goal.place-requires
place-requires c = (search number_fits, search rules)
