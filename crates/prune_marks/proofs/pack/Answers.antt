-- `prune_marks::pack` meets its contract.
use Prim.Native.Nat.{◌*◌}
use native.Mathlib.Omega.{arith}
use Rattle.prune_marks.proofs.Words.{changed_on, changed_all, packed_starts, packed_marks}
use Rattle.prune_marks.proofs.pack.Goals as goal

pub loop-word-preserved : goal.loop-word-preserved
loop-word-preserved c = changed_on _ _ _ _ c.loop-word.invariant (omega arith) (omega arith)

pub returns : goal.returns
returns c = let e = changed_all (λ w. w * 256) c.args.t.now _ _ c.loop-word.invariant (omega arith) in (rw e (packed_starts _), rw e (packed_marks c.args.t.now))
