-- `depths::depths_to_by` meets its contract.
use mathlib.Core.Path.{refl}
use borrow.Author.Rules.{rules}
use native.Mathlib.Omega.{arith}
use Rattle.depths_value.specs.Depth.{depths_to}
use Rattle.depths_value.proofs.Laws.{depths_more, depths_all}
use Rattle.depths.proofs.depths_to_by.Goals as goal

pub loop-i-init : goal.loop-i-init
unfolding depths_to
loop-i-init c = (omega arith, refl, refl)

pub loop-i-preserved : goal.loop-i-preserved
unfolding depths_to
loop-i-preserved c = (omega arith, search rules, search depths_more)

pub returns : goal.returns
unfolding depths_to
returns c = search depths_all
