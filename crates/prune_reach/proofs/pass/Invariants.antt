-- `prune_reach::pass` meets its contract. The invariant: the starts are kept, and the values below i mark what is still to be marked.
use mathlib.Core.Path.{◌≡◌}
use lib.ListN.{length}
use Rattle.prune_marks.specs.Marks.{starts_in, marks_in}
use Rattle.prune_reach.specs.Reach.{aims_at, sweep}
use Rattle.prune_reach.proofs.pass.Given as goal

abbrev pub invariant-loop-i : goal.invariant-loop-i
invariant-loop-i l =
    (length l.t ≡ length l.initial.t) × (starts_in l.t ≡ starts_in l.initial.t)
    × (sweep (aims_at l.region (starts_in l.initial.t)) l.i (marks_in l.t) ≡ sweep (aims_at l.region (starts_in l.initial.t)) l.n (marks_in l.initial.t))
