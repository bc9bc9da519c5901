-- `prune::rebuild_with` meets its contract.
use mathlib.Core.Path.{sym}
use lib.Seq.{length-take-le}
use borrow.Author.Rules.{rules}
use Rattle.prune.proofs.rebuild_with.Goals as goal

pub slice_bounds-rebuild_by-end-2 : goal.slice_bounds-rebuild_by-end-2
slice_bounds-rebuild_by-end-2 c = sym (length-take-le _ _ (search rules))
