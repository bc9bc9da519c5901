-- `prune_copy::Values::copy_tokens` meets its contract. The invariant: the tokens that remain give the result of all.
use mathlib.Core.Path.{◌≡◌}
use Prim.Native.Nat.{◌-◌, ◌≤◌}
use lib.ListN.{length}
use Rattle.prune_tokens.specs.Tokens.{heads}
use Rattle.prune_marks.specs.Marks.{starts_in, marks_in}
use Rattle.prune_copy.specs.Copy.{copy_tokens}
use Rattle.prune_copy.proofs.Values.copy_tokens.Given as goal

abbrev pub invariant-loop-at : goal.invariant-loop-at
invariant-loop-at l =
    let s = l.self.region.now in
    let t = l.self.words.now in
    (l.at ≤ length s) × (length l.out ≡ length l.initial.out) × (length l.new ≡ length l.initial.new)
    × (copy_tokens s (starts_in t) (marks_in t) (heads s l.end l.at) l.writer.state l.out l.new
    ≡ copy_tokens s (starts_in t) (marks_in t) (heads s l.end l.start) l.initial.writer.state l.initial.out l.initial.new)

abbrev pub decreases-loop-at : goal.decreases-loop-at
decreases-loop-at l = length l.self.region.now - l.at
