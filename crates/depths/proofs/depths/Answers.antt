-- `depths::depths` meets its contract.
use mathlib.Core.Path.{◌≡◌, sym}
use lib.ListN.{length}
use lib.Seq.{length-take-le}
use native.Mathlib.Omega.{arith}
use Rattle.depths.proofs.Laws.{accepted_some, accepted_fits, place_lt, accepted_starts, place_fits, count_le, region_le}
use Rattle.depths.proofs.Laws.{depths_full, depths_answer, depths_of_refused}
use Rattle.depths.proofs.depths.Goals as goal

pub bounds-starts-room : goal.bounds-starts-room
bounds-starts-room c = search (place_lt, c.in-Ok.ensures)

pub overflow_cast-place : goal.overflow_cast-place
overflow_cast-place c = search (place_fits, c.in-Ok.ensures)

pub returns-then-room-found : goal.returns-then-room-found
returns-then-room-found c =
    depths_full _ _ _ _ _ _ c.in-Ok.ensures _ c.if-room-found.true _ _ (c.fill-then-room-found.ensures.after (λ y e. e))
    (c.fill-then-room-found-2.ensures.after (λ y e. e))

pub overflow_sub-p : goal.overflow_sub-p
overflow_sub-p c = search (accepted_some, c.in-Ok.ensures)

pub invariant_of-region : goal.invariant_of-region
invariant_of-region c = record { short = region_le _ _ _ _ _ _ c.in-Ok.ensures }

pub slice_bounds-depths_to-end : goal.slice_bounds-depths_to-end
slice_bounds-depths_to-end c = search (accepted_fits, c.in-Ok.ensures)

pub slice_bounds-depths_to-end-2 : goal.slice_bounds-depths_to-end-2
slice_bounds-depths_to-end-2 c = sym (length-take-le _ _ (accepted_fits _ _ _ _ _ _ c.in-Ok.ensures))

pub depths_to-requires : goal.depths_to-requires
depths_to-requires c = search (count_le, accepted_starts, c.in-Ok.ensures)

pub returns : goal.returns
returns c =
    let long : length c.depths_to.new.depths ≡ length c.args.depths.now = omega arith in
    depths_answer _ _ _ _ _ _ c.in-Ok.ensures _ c.if-room-found.false _ long c.depths_to.ensures _ (c.fill-2.ensures.after (λ y e. e))

pub returns-in-Err : goal.returns-in-Err
returns-in-Err c = depths_of_refused _ _ _ _ _ c.in-Err.ensures _ _ (c.fill.ensures.after (λ y e. e))
