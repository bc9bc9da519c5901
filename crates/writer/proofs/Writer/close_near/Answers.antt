-- `writer::Writer::close_near` meets its contract.
use Rattle.writer.proofs.Closes.{near_byte, near_ok, near_refused}
use Rattle.writer.proofs.Writer.close_near.Goals as goal

pub write_delta-requires : goal.write_delta-requires
write_delta-requires c = search near_byte

pub returns-then-may_close : goal.returns-then-may_close
returns-then-may_close c = search near_ok

pub returns : goal.returns
returns c = search near_refused
