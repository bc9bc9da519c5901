-- `prune::rebuild_file` meets its contract.
use mathlib.Core.Path.{sym}
use native.Mathlib.Omega.{arith}
use lib.Seq.{length-take-le}
use borrow.Author.Rules.{rules}
use Rattle.prune.proofs.Laws.{file_rebuilt}
use Rattle.prune.proofs.rebuild_file.Goals as goal

pub slice_bounds-rebuild-end : goal.slice_bounds-rebuild-end
slice_bounds-rebuild-end c = sym (length-take-le _ _ (omega arith))

pub slice_bounds-rebuild-end-3 : goal.slice_bounds-rebuild-end-3
slice_bounds-rebuild-end-3 c = sym (length-take-le _ _ (search rules))

pub returns : goal.returns
returns c = file_rebuilt _ c.args.old.now c.args.count _ _ _ _ _ _ _ _ (search rules) c.rebuild.ensures
