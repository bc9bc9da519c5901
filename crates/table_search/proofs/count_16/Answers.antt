-- `table_search::count_16` meets its contract.
use Prim.Native.Nat.{ℕ}
use native.Mathlib.Omega.{arith}
use lib.ListN.{length-take}
use Rattle.prelude.proofs.Searches.{rank_le}
use Rattle.table_search.proofs.Quarters.{rank_part}
use Rattle.table_search.proofs.count_16.Goals as goal

pub overflow_add-result : goal.overflow_add-result
overflow_add-result c = grind (arith, rank_le, length-take {A = ℕ})

pub returns : goal.returns
returns c = search (rank_part, arith)
