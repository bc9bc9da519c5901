-- `emit::put_if` meets its contract: the number is put at the front of the tail, where it fits.
use native.Mathlib.Omega.{arith}
use Rattle.prelude.proofs.Parts.{put_at_part}
use Rattle.emit.proofs.put_if.Goals as goal

pub returns-in-Some : goal.returns-in-Some
returns-in-Some c = rw c.in-Some.is (put_at_part _ c.args.out.now c.put_within.new.rest c.args.at _ (omega arith) c.put_within.ensures)
