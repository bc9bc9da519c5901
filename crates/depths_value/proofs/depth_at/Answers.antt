-- `depths_value::depth_at` meets its contract.
use mathlib.Core.Path.{sym}
use Prim.Native.Nat.{◌<◌}
use lib.Seq.{length-take-le}
use borrow.Author.Rules.{rules}
use native.Mathlib.Omega.{arith}
use Rattle.error.specs.Error.{LIMIT}
use Rattle.depths_value.proofs.Laws.{start_le, start_fits, deepest_lt, depth_at_is}
use Rattle.depths_value.proofs.depth_at.Goals as goal

pub overflow_cast-start : goal.overflow_cast-start
overflow_cast-start c = search start_fits

pub slice_bounds-deepest-end : goal.slice_bounds-deepest-end
slice_bounds-deepest-end c = sym (length-take-le _ _ (omega arith))

pub deepest-requires : goal.deepest-requires
deepest-requires c = search (start_le, rules)

pub overflow_add-result : goal.overflow_add-result
overflow_add-result c = let h : c.deepest.result < LIMIT = search deepest_lt in omega arith

pub returns : goal.returns
returns c = search depth_at_is
