-- `checker::check` meets its contract.
use Rattle.std.proofs.Common.{rules}
use Rattle.checker.proofs.Checks.{kept_is, check_left}
use Rattle.checker.proofs.check.Goals as goal

pub returns : goal.returns
returns c = let words = kept_is c.check_in-answer.result c.map_or-words.result (search rules) in search (check_left, rules)
