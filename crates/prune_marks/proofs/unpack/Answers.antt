-- `prune_marks::unpack` meets its contract.
use native.Mathlib.Omega.{arith}
use Rattle.prune_marks.proofs.Words.{changed_on}
use Rattle.prune_marks.proofs.unpack.Goals as goal

pub loop-word-preserved : goal.loop-word-preserved
loop-word-preserved c = changed_on _ _ _ _ c.loop-word.invariant (omega arith) (omega arith)
