-- `prune_marks::place_at_end` meets its contract.
use Prim.Native.Nat.{◌*◌, ◌/◌}
use native.Mathlib.Omega.{arith}
use Rattle.prune_marks.proofs.Numbering.{kept_first, kept_to, place_is}
use Rattle.prune_marks.proofs.place_at_end.Goals as goal

pub returns-then-i-lt4 : goal.returns-then-i-lt4
returns-then-i-lt4 c = search (kept_first, arith)

pub returns : goal.returns
returns c =
    let n = c.number_at.ensures.0 in
    let g = c.args.i / 4 in
    place_is c.args.t.now g _ _ c.args.i c.requires.1 n (omega arith) (omega arith) (kept_to c.args.t.now (4 * g) c.args.i _ (omega arith) c.count-2.ensures)
