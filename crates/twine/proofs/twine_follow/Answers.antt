-- `twine::twine_follow` meets its contract.
use mathlib.Core.Path.{ap, ◌∙◌}
use Rattle.abi_answer.specs.Answers.{pair_c}
use Rattle.twine.proofs.twine_follow.Goals as goal

pub returns : goal.returns
returns c = c.answer_follow.ensures ∙ ap pair_c (rw c.mode_of.ensures at c.follow.ensures)
