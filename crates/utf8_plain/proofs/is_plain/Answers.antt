-- `utf8_plain::is_plain` meets its contract: the definition computes to it.
use borrow.Author.Rules.{rules}
use Rattle.utf8_plain.specs.Plain.{are_plain}
use Rattle.utf8_plain.proofs.is_plain.Goals as goal

pub returns : goal.returns
unfolding are_plain
returns c = search rules
