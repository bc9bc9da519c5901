-- `reader_follow::follow_from` meets its contract. The invariant: following from here gives the answer, and each hop went down.
use Rattle.std.proofs.Common.{◌≡◌, ◌+◌, ◌≤◌}
use Rattle.reader_follow.specs.Follow.{position, follow_from}
use Rattle.reader_follow.proofs.follow_from.Given as goal

abbrev pub invariant-loop-head : goal.invariant-loop-head
invariant-loop-head l =
    (follow_from l.mode l.region (position l.here.at l.here.hops) ≡ follow_from l.mode l.region (position l.at 0)) × (l.here.at + l.here.hops ≤ l.at)

abbrev pub decreases-loop-head : goal.decreases-loop-head
decreases-loop-head l = l.here.at
