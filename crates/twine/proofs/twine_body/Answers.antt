-- `twine::twine_body` meets its contract.
use mathlib.Core.Path.{ap, ◌∙◌}
use Rattle.abi_answer.specs.Answers.{pair_c}
use Rattle.twine.proofs.twine_body.Goals as goal

pub returns : goal.returns
returns c = c.answer_body.ensures ∙ ap pair_c (rw c.mode_of.ensures at c.body_place.ensures)
