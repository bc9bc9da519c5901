-- `leb128::last_byte` meets its contract.
use borrow.Author.Rules.{rules}
use Rattle.leb128.proofs.Steps.{last_zero, last_more}
use Rattle.leb128.proofs.last_byte.Goals as goal

pub returns-then-b-lt1 : goal.returns-then-b-lt1
returns-then-b-lt1 c = search (rules, last_zero)

pub returns : goal.returns
returns c = search (rules, last_more)
