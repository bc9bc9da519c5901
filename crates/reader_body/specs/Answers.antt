-- What the answer of `body_place` means.
--
--   body_answer r  first offset and length, or the error's number and place
use Rattle.std.specs.Prelude.{ℕ, Result}
use Rattle.prelude.specs.Answer.{Answer}
use Rattle.error.specs.Error.{Fault, answered}
use Rattle.error.specs.declared.Error.{Error}
use Rattle.reader_body.specs.declared.Place.{Place}

abbrev pub body_answer : Result Place Error → Answer Fault (ℕ × ℕ)
body_answer = answered (λ p. (p.first, p.len))
