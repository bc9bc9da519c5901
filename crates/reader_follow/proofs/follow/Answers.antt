-- `reader_follow::follow` meets its contract: offset and hops of what following reaches.
use Rattle.std.proofs.Common.{refl, arith}
use Rattle.reader_region.proofs.Laws.{in_region_then, in_region_failed}
use Rattle.reader_follow.specs.Follow.{follow_in}
use Rattle.reader_follow.proofs.follow.Goals as goal

pub returns : goal.returns
unfolding follow_in
returns c = in_region_then _ _ _ _ c.in_ok-followed.ensures refl refl

pub returns-in_err-followed : goal.returns-in_err-followed
unfolding follow_in
returns-in_err-followed c = in_region_failed _ _ _ _ c.in_err-followed.ensures (grind arith)
