-- What the answers of this crate's functions mean, except those with a head.
--
--   offset_answer r  the offset, or the error's number and place
use Rattle.std.specs.Prelude.{ℕ, Result}
use Rattle.prelude.specs.Answer.{Answer}
use Rattle.error.specs.Error.{Fault, answered}
use Rattle.error.specs.declared.Error.{Error}

abbrev pub offset_answer : Result ℕ Error → Answer Fault ℕ
offset_answer = answered (λ at. at)
