-- `prune::mark` meets its contract.
use native.Mathlib.Omega.{arith}
use borrow.Author.Rules.{rules}
use Rattle.prune.proofs.Laws.{row_below, entry_lt, row_short, row_indexed, row_inside, row_number, row_unmarked, row_marked}
use Rattle.prune.proofs.mark.Goals as goal

pub pack-requires : goal.pack-requires
pack-requires c = search row_below

pub overflow_cast-entry : goal.overflow_cast-entry
overflow_cast-entry c = let h = entry_lt _ _ _ c.requires.0 in omega arith

pub find-e-requires : goal.find-e-requires
find-e-requires c = (search row_indexed, search entry_lt)

pub reach-requires : goal.reach-requires
reach-requires c = (search (row_number, arith), search row_indexed, search row_inside, search rules, search row_unmarked)

pub number-requires : goal.number-requires
number-requires c = search row_short

pub returns : goal.returns
returns c = search (row_marked, arith)
