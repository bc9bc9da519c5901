-- `prune_copy::Values::copy_values` meets its contract. The invariant: the values that remain give the result of all.
use borrow.Author.Rules.{rules}
use Rattle.prune_copy.proofs.Laws.{values_end, values_refused, values_on}
use Rattle.prune_copy.proofs.Values.copy_values.Goals as goal

pub loop-i-preserved : goal.loop-i-preserved
loop-i-preserved c = (search rules, search rules, search (values_on, c.in_ok-copy_value.was))

pub returns-in_err-copy_value : goal.returns-in_err-copy_value
returns-in_err-copy_value c =
    search (rules, values_refused _ _ _ _ _ _ _ _ _ c.loop-i.invariant.2 c.loop-i-test.true _ _ _ _ c.copy_value.ensures _ c.in_err-copy_value.was)

pub returns : goal.returns
returns c = search values_end
