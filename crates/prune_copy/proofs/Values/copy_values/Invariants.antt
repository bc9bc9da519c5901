-- `prune_copy::Values::copy_values` meets its contract. The invariant: the values that remain give the result of all.
use mathlib.Core.Path.{◌≡◌}
use Prim.Native.Nat.{◌-◌}
use lib.ListN.{length}
use Rattle.prune_marks.specs.Marks.{starts_in, marks_in}
use Rattle.prune_copy.specs.Copy.{copy_values}
use Rattle.prune_copy.proofs.Values.copy_values.Given as goal

abbrev pub invariant-loop-i : goal.invariant-loop-i
invariant-loop-i l =
    let s = l.self.region.now in
    let t = l.self.words.now in
    (length l.out ≡ length l.initial.out) × (length l.new ≡ length l.initial.new)
    × (copy_values s (starts_in t) (marks_in t) (l.n - l.i) l.i l.writer.state l.out l.new
    ≡ copy_values s (starts_in t) (marks_in t) l.n 0 l.initial.writer.state l.initial.out l.initial.new)
