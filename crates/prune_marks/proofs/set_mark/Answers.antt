-- `prune_marks::set_mark` meets its contract.
use mathlib.Core.Path.{refl, sym}
use native.Mathlib.Omega.{arith}
use lib.ListN.{length-map}
use lib.Seq.{set_out}
use Rattle.prune_marks.specs.Marks.{is_marked}
use Rattle.prune_marks.proofs.Words.{same_starts, set_marks}
use Rattle.prune_marks.proofs.set_mark.Goals as goal

pub returns-then-i-t : goal.returns-then-i-t
returns-then-i-t c = let t = c.args.t.now in (same_starts t _ _ (omega arith), set_marks t _ _ (omega arith))

pub returns-else-i-t : goal.returns-else-i-t
returns-else-i-t c = (refl, sym (set_out _ _ _ (rw (length-map _ is_marked) (omega arith))))
