-- `emit::put_body` meets its contract: the body is copied to the front of the tail.
use native.Mathlib.Omega.{arith}
use Rattle.prelude.proofs.Parts.{put_at_part}
use Rattle.emit.proofs.put_body.Goals as goal

pub returns : goal.returns
returns c = put_at_part _ _ _ _ _ (omega arith) c.copy.ensures
