-- `twine::twine_read` meets its contract.
use Rattle.twine.proofs.twine_read.Goals as goal

pub returns : goal.returns
returns c = rw c.mode_of.ensures at c.read.ensures
