-- `checker_value::has_target` meets its contract.
use borrow.Author.Tests.{lt-ltb, le-ltb}
use Rattle.checker_value.specs.Walk.{has_target}
use Rattle.checker_value.proofs.has_target.Goals as goal

pub returns-then-h-q : goal.returns-then-h-q
unfolding has_target
returns-then-h-q c = rw (lt-ltb _ _ c.if-h-q.true) c.is_among.ensures

pub returns-else-h-q : goal.returns-else-h-q
unfolding has_target
returns-else-h-q c = rw (le-ltb _ _ c.if-h-q.false)
