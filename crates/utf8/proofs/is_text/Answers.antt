-- `utf8::is_text` meets its contract: by its length.
use Rattle.utf8.proofs.Steps.{plain_all}
use Rattle.utf8.proofs.is_text.Goals as goal

pub returns-then-is_short_plain : goal.returns-then-is_short_plain
returns-then-is_short_plain c = plain_all _ (c.is_short_plain.ensures.plain.0 c.if-is_short_plain.true)
