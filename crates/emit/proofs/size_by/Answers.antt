-- `emit::size_by` meets its contract.
use Rattle.emit.proofs.Numbers.{number_is, bytes_then}
use Rattle.emit.proofs.size_by.Goals as goal

pub returns : goal.returns
returns c = rw (c.size_if.ensures.0, c.size_if-2.ensures.0, c.then_some.ensures, bytes_then, number_is c.checked_sub.result c.args.n c.checked_sub.ensures)
