-- `leb128::put_within` meets its contract. The invariant: what is still to be stored from i on makes the whole of it.
use mathlib.Core.Path.{◌≡◌}
use Prim.Native.Nat.{◌+◌, ◌-◌, ◌<◌}
use lib.ListN.{length}
use lib.Seq.{sets}
use Rattle.leb128.specs.Leb.{put, top}
use Rattle.leb128.proofs.put_within.Given as goal

abbrev pub invariant-loop-m : goal.invariant-loop-m
invariant-loop-m l =
    (sets l.rest l.i (put (9 - l.i) l.m) ≡ sets l.initial.rest 0 (put 9 l.n)) × (l.i + length (put (9 - l.i) l.m) ≡ length (put 9 l.n))
    × (length l.rest ≡ length l.initial.rest) × (l.m < top (9 - l.i))

abbrev pub decreases-loop-m : goal.decreases-loop-m
decreases-loop-m l = l.m
