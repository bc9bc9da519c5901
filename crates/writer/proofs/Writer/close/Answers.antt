-- `writer::Writer::close` meets its contract: a delta byte reaches back 256 bytes.
use native.Mathlib.Omega.{arith}
use borrow.Author.Rules.{rules}
use Rattle.writer.proofs.Closes.{close_when_near, close_when_far}
use Rattle.writer.proofs.Writer.close.Goals as goal

pub returns-then-back-le255 : goal.returns-then-back-le255
returns-then-back-le255 c = let d = c.distance-back in close_when_near _ d.result _ _ _ _ d.ensures (omega arith) (search rules)

pub returns : goal.returns
returns c = search close_when_far
