-- `prune_marks::unpack` meets its contract.
use mathlib.Core.Path.{◌≡◌}
use mathlib.Core.List.{◌++◌, map}
use Prim.Native.Nat.{◌/◌}
use lib.ListN.{take, drop}
use Rattle.prune_marks.proofs.unpack.Given as goal

abbrev pub invariant-loop-word : goal.invariant-loop-word
invariant-loop-word l = l.t ≡ map (λ w. w / 256) (take l.word-index l.initial.t) ++ drop l.word-index l.initial.t
