-- `prune::rebuild_by` meets its contract.
use Rattle.prune.proofs.Laws.{rebuilt_is}
use Rattle.prune.proofs.rebuild_by.Goals as goal

pub returns : goal.returns
returns c = search rebuilt_is
