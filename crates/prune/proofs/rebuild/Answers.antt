-- `prune::rebuild` meets its contract.
use native.Mathlib.Omega.{arith}
use borrow.Author.Rules.{rules}
use Rattle.prune.proofs.Laws.{row_blocks}
use Rattle.prune.proofs.rebuild.Goals as goal

pub rebuild_with-requires : goal.rebuild_with-requires
rebuild_with-requires c = (search rules, row_blocks _ _ _ c.requires _ (omega arith))

pub rebuild_with-requires-2 : goal.rebuild_with-requires-2
rebuild_with-requires-2 c = (search rules, row_blocks _ _ _ c.requires _ (omega arith))
