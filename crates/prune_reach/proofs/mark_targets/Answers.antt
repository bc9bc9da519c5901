-- `prune_reach::mark_targets` meets its contract. The invariant: the starts are kept, and the tokens that remain mark what all do.
use native.Mathlib.Omega.{arith}
use borrow.Author.Rules.{rules}
use Rattle.scan.proofs.Places.{token_less, token_inside}
use Rattle.prune_reach.proofs.Laws.{starts_same, marks_end, marks_error, marks_token}
use Rattle.prune_reach.proofs.mark_targets.Goals as goal

pub loop-at-smaller : goal.loop-at-smaller
loop-at-smaller c = search (token_less, arith)

pub loop-at-preserved : goal.loop-at-preserved
loop-at-preserved c = (search (token_inside, arith), search rules, search starts_same, search marks_token)

pub returns-in_default : goal.returns-in_default
returns-in_default c = (search rules, search marks_error)

pub returns : goal.returns
returns c = (search rules, search marks_end)
