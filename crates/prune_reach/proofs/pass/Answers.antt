-- `prune_reach::pass` meets its contract. The invariant: the starts are kept, and the values below i mark what is still to be marked.
use native.Mathlib.Omega.{arith}
use borrow.Author.Rules.{rules}
use Rattle.prune_reach.proofs.Laws.{starts_same, pass_on, pass_end}
use Rattle.prune_reach.proofs.pass.Goals as goal

pub loop-i-preserved : goal.loop-i-preserved
loop-i-preserved c = (search rules, search starts_same, search (pass_on, arith))

pub returns : goal.returns
returns c = (search rules, search (pass_end, arith))
