-- `checker::entry_at` meets its contract.
use mathlib.Core.Path.{sym, ◌∙◌}
use borrow.Author.Tests.{lt-ltb, le-ltb}
use Rattle.prelude.specs.Answer.{bind}
use Rattle.checker.specs.Check.{entry_at}
use Rattle.checker.proofs.entry_at.Goals as goal

pub returns-then-is_among : goal.returns-then-is_among
unfolding entry_at bind
returns-then-is_among c = rw (lt-ltb _ _ c.if-delta-p.true, sym c.is_among.ensures ∙ c.if-is_among.true)

pub returns-else-is_among : goal.returns-else-is_among
unfolding entry_at bind
returns-else-is_among c = rw (lt-ltb _ _ c.if-delta-p.true, sym c.is_among.ensures ∙ c.if-is_among.false)

pub returns-else-delta-p : goal.returns-else-delta-p
unfolding entry_at bind
returns-else-delta-p c = rw (le-ltb _ _ c.if-delta-p.false)
