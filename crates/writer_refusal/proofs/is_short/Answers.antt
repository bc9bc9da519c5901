-- `writer_refusal::is_short` meets its contract.
use Rattle.writer_refusal.proofs.is_short.Goals as goal

pub returns : goal.returns
returns c = rw (c.exceeds.ensures, c.room.ensures)
