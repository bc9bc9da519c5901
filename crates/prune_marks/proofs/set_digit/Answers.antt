-- `prune_marks::set_digit` meets its contract.
use native.Mathlib.Omega.{arith}
use Rattle.prune_marks.proofs.Numbering.{digits_one}
use Rattle.prune_marks.proofs.set_digit.Goals as goal

pub returns : goal.returns
returns c = search (digits_one, arith)
