-- `writer::Writer::put_moved` meets its contract.
use Rattle.writer.proofs.Writes.{puts_moved}
use Rattle.writer.proofs.Writer.put_moved.Goals as goal

pub returns : goal.returns
returns c = search puts_moved
