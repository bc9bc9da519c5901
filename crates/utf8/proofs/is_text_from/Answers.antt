-- `utf8::is_text_from` meets its contract. The invariant: whether the rest is a text is the answer.
use mathlib.Core.Path.{sym}
use borrow.Author.Tests.{eqb-true}
use Rattle.utf8.proofs.Steps.{text_all}
use Rattle.utf8.proofs.is_text_from.Goals as goal

-- after the last character
pub returns : goal.returns
returns c = text_all c.loop-rest.rest.now c.loop-rest.invariant (eqb-true _ _ (sym c.loop-rest-test.ensures))
