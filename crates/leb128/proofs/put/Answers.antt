-- `leb128::put` meets its contract: it asks for the room first.
use native.Mathlib.Omega.{arith}
use Rattle.prelude.proofs.Parts.{store_none, store_put}
use Rattle.leb128.proofs.put.Goals as goal

pub returns-then-rest-size-clause-stores : goal.returns-then-rest-size-clause-stores
returns-then-rest-size-clause-stores c = store_none _ _ (omega arith)

pub returns-clause-stores : goal.returns-clause-stores
returns-clause-stores c = store_put _ _ _ _ (omega arith) c.put_within.ensures
