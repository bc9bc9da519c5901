-- `twine::twine_lookup` meets its contract.
use mathlib.Core.Path.{ap, ◌∙◌}
use Rattle.abi_answer.specs.Answers.{offset_c}
use Rattle.twine.proofs.twine_lookup.Goals as goal

pub returns : goal.returns
returns c = c.answer_offset.ensures ∙ ap offset_c (rw c.mode_of.ensures at c.lookup.ensures)
