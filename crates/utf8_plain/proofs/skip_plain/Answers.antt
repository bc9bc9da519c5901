-- `utf8_plain::skip_plain` meets its contract: two words at a time.
use Rattle.utf8_plain.proofs.Laws.{pairs_front}
use Rattle.utf8_plain.proofs.skip_plain.Goals as goal

pub returns : goal.returns
returns c = pairs_front _ _ c.type_inv.s c.as_chunks.ensures.front (rw c.first_other.ensures at c.unwrap_or.ensures)
