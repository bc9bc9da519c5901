-- `table_search::rank_near` meets its contract.
use native.Mathlib.Omega.{arith}
use Rattle.table_search.proofs.Quarters.{rank_window}
use Rattle.table_search.proofs.rank_near.Goals as goal

pub count_16-requires : goal.count_16-requires
count_16-requires c =
    rank_window c.args.x c.args.t.now c.min-base.result c.requires (omega (arith, c.min-base.ensures, c.if-n-lt16.false)) (omega arith) (omega arith)
