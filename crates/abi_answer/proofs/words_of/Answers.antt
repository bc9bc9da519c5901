-- `abi_answer::words_of` meets its contract.
use mathlib.Core.Path.{ap}
use Rattle.reader_region.proofs.Laws.{peek_of_peeked}
use Rattle.abi_answer.specs.Read.{head_c}
use Rattle.abi_answer.proofs.words_of.Goals as goal

pub row_of-row-requires : goal.row_of-row-requires
row_of-row-requires c = peek_of_peeked _ _ _ _ c.in_ok-h.ensures

pub returns : goal.returns
returns c = rw c.row_of-row.ensures (ap (head_c _ _) c.in_ok-h.ensures)
