-- `depths_value::deepest` meets its contract.
use native.Mathlib.Omega.{arith}
use Rattle.scan.proofs.Places.{token_less, token_inside}
use Rattle.depths_value.proofs.Laws.{deepest_end, deepest_error, deepest_token}
use Rattle.depths_value.proofs.deepest.Goals as goal

pub loop-at-smaller : goal.loop-at-smaller
loop-at-smaller c = search (token_less, arith)

pub loop-at-preserved : goal.loop-at-preserved
loop-at-preserved c = (search (token_inside, arith), search (deepest_token, c.in-Ok.ensures))

pub returns-in_default : goal.returns-in_default
returns-in_default c = search (deepest_error, c.in_default.ensures)

pub returns : goal.returns
returns c = search deepest_end
