-- `utf8_plain::plain_before` meets its contract: by the digits 0 below the lowest bit, of the word that is read.
use Rattle.utf8_plain.proofs.Laws.{zeros_lt, front_at}
use Rattle.utf8_plain.proofs.plain_before.Goals as goal

pub overflow_cast-result : goal.overflow_cast-result
overflow_cast-result c = record { fits = zeros_lt _ _ }

pub returns : goal.returns
returns c = front_at _ _ _ c.requires c.load-high_bits.ensures.bytes
