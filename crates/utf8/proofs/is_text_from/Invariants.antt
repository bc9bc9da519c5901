-- `utf8::is_text_from` meets its contract. The invariant: whether the rest is a text is the answer.
use mathlib.Core.Path.{◌≡◌}
use lib.ListN.{length, drop}
use Rattle.utf8.specs.Text.{is_text}
use Rattle.utf8.proofs.is_text_from.Given as goal

abbrev pub invariant-loop-rest : goal.invariant-loop-rest
invariant-loop-rest l = is_text l.rest ≡ is_text (drop l.from l.s)

abbrev pub decreases-loop-rest : goal.decreases-loop-rest
decreases-loop-rest l = length l.rest
