-- `prune_marks::is_marked` meets its contract.
use mathlib.Core.Path.{sym}
use Rattle.prune_marks.proofs.Words.{mark_at}
use Rattle.prune_marks.proofs.is_marked.Goals as goal

pub returns : goal.returns
returns c = sym (mark_at c.args.t.now c.args.i)
