-- `prune_marks::find` meets its contract.
use native.Mathlib.Omega.{arith}
use borrow.Author.Rules.{rules}
use Rattle.prune_marks.proofs.Words.{between, part_rising, rank_part, rank_fits}
use Rattle.prune_marks.proofs.find.Goals as goal

pub slice_bounds-rank_near-count : goal.slice_bounds-rank_near-count
slice_bounds-rank_near-count c = (between _ c.args.t.now _ _ _ c.requires.0 c.low-lo.ensures c.high-hi.ensures).order

pub slice_bounds-rank_near-start : goal.slice_bounds-rank_near-start
slice_bounds-rank_near-start c = let b = between _ c.args.t.now _ _ _ c.requires.0 c.low-lo.ensures c.high-hi.ensures in search (rules, b.order)

pub slice_bounds-rank_near-end : goal.slice_bounds-rank_near-end
slice_bounds-rank_near-end c = let b = between _ c.args.t.now _ _ _ c.requires.0 c.low-lo.ensures c.high-hi.ensures in search (rules, b.fits)

pub overflow_sub-hi : goal.overflow_sub-hi
overflow_sub-hi c = (between _ c.args.t.now _ _ _ c.requires.0 c.low-lo.ensures c.high-hi.ensures).order

pub rank_near-requires : goal.rank_near-requires
rank_near-requires c = part_rising _ c.args.t.now _ _ _ (between _ _ _ _ _ c.requires.0 c.low-lo.ensures c.high-hi.ensures)

pub overflow_add-result : goal.overflow_add-result
overflow_add-result c =
    let found = rank_part _ c.args.t.now c.args.x _ _ (between _ _ _ _ _ c.requires.0 c.low-lo.ensures c.high-hi.ensures) _ c.rank_near.ensures in
    omega (arith, found, rank_fits c.args.x c.args.t.now)

pub returns : goal.returns
returns c = rank_part _ c.args.t.now _ _ _ (between _ _ _ _ _ c.requires.0 c.low-lo.ensures c.high-hi.ensures) _ c.rank_near.ensures
