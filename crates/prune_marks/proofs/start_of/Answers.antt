-- `prune_marks::start_of` meets its contract.
use mathlib.Core.Path.{sym}
use Rattle.prune_marks.proofs.Words.{start_at}
use Rattle.prune_marks.proofs.start_of.Goals as goal

pub returns : goal.returns
returns c = sym (start_at c.args.t.now _)
