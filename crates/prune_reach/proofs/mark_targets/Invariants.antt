-- `prune_reach::mark_targets` meets its contract. The invariant: the starts are kept, and the tokens that remain mark what all do.
use mathlib.Core.Path.{◌≡◌}
use Prim.Native.Nat.{◌-◌, ◌≤◌}
use lib.ListN.{length}
use Rattle.prune_tokens.specs.Tokens.{heads}
use Rattle.prune_marks.specs.Marks.{starts_in, marks_in}
use Rattle.prune_reach.specs.Reach.{aims, marked}
use Rattle.prune_reach.proofs.mark_targets.Given as goal

abbrev pub invariant-loop-at : goal.invariant-loop-at
invariant-loop-at l =
    (l.at ≤ length l.region) × (length l.t ≡ length l.initial.t) × (starts_in l.t ≡ starts_in l.initial.t)
    × (marked (aims (starts_in l.initial.t) (heads l.region l.end l.at)) (marks_in l.t)
    ≡ marked (aims (starts_in l.initial.t) (heads l.region l.end l.start)) (marks_in l.initial.t))

abbrev pub decreases-loop-at : goal.decreases-loop-at
decreases-loop-at l = length l.region - l.at
