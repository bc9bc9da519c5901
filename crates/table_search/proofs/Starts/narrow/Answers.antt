-- `table_search::Starts::narrow` meets its contract.
use Rattle.table_search.proofs.Quarters.{between_blocks}
use Rattle.table_search.proofs.Starts.narrow.Goals as goal

pub overflow_sub-size : goal.overflow_sub-size
overflow_sub-size c =
    (between_blocks _ _ c.args.x _ _ c.args.self.rising c.args.self.counted c.low-lo.ensures c.high.ensures).0

pub loop-size-init : goal.loop-size-init
loop-size-init c =
    (between_blocks _ _ c.args.x _ _ c.args.self.rising c.args.self.counted c.low-lo.ensures c.high.ensures).1
