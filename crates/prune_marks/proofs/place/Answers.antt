-- `prune_marks::place` meets its contract.
use Prim.Native.Nat.{◌*◌, ◌/◌, ◌%◌}
use native.Mathlib.Omega.{arith}
use Rattle.prune_marks.proofs.Numbering.{place_fits, place_in}
use Rattle.prune_marks.proofs.place.Goals as goal

pub overflow_sub-result : goal.overflow_sub-result
overflow_sub-result c =
    let i = c.args.i in
    place_fits c.args.t.now (i / 4 * 4) (omega arith) c.requires.1 (i / 4) _ _ _ (omega arith) c.number_at.ensures.0 c.marks_from.ensures

pub returns : goal.returns
returns c =
    let i = c.args.i in
    (place_in c.args.t.now (i / 4 * 4) (omega arith) c.requires.1 (i / 4) (i % 4) _ _ i (omega arith) (omega arith) (omega arith)
    c.number_at.ensures.0 c.marks_from.ensures).1
