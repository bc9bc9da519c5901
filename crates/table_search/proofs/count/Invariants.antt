-- `table_search::count` meets its contract.
use mathlib.Core.Path.{◌≡◌}
use lib.Dec.{ltb}
use lib.ListN.{take}
use Rattle.std.specs.List.{count_by}
use Rattle.table_search.proofs.count.Given as goal

abbrev pub invariant-loop-word : goal.invariant-loop-word
invariant-loop-word l = l.r ≡ count_by (λ y. ltb y l.x) (take l.word-index l.t)
