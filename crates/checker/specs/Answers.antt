-- What the answers of this crate's functions mean.
--
--   check_answer r  count and entry, or the error's number and place
use Rattle.std.specs.Prelude.{ℕ, Result}
use Rattle.prelude.specs.Answer.{Answer}
use Rattle.error.specs.Error.{Fault, answered}
use Rattle.error.specs.declared.Error.{Error}
use Rattle.checker.specs.declared.Summary.{Summary}

abbrev pub check_answer : Result Summary Error → Answer Fault (ℕ × ℕ)
check_answer = answered (λ f. (f.count, f.entry))
