-- `answer_tokens` is safe and ends: each token ends after its header.
use Rattle.std.proofs.Common.{◌-◌, ◌≤◌, length}
use Rattle.samples.proofs.answer_tokens.Given as goal

abbrev pub invariant-loop-at : goal.invariant-loop-at
invariant-loop-at g l = l.at ≤ length l.region

abbrev pub decreases-loop-at : goal.decreases-loop-at
decreases-loop-at g l = length l.region - l.at
