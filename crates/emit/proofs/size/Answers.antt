-- `emit::size` meets its contract.
use Rattle.token.proofs.Laws.{length_emit}
use Rattle.emit.proofs.size.Goals as goal

pub returns : goal.returns
returns c = rw (length_emit, c.size_by.ensures, c.rule_of.ensures)
