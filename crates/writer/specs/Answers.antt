-- What the answers of this crate's functions mean.
--
--   answer_of a            the answer of a call: ok, or the error's number; an error of the writer has no place
--   wrote a s out table    the result of a call that answered a, and left this state, output and table
use Rattle.std.specs.Prelude.{ℕ, List, Result, Ok, Err}
use Rattle.prelude.specs.Answer.{ok, error}
use Rattle.error.specs.Error.{number_of}
use Rattle.error.specs.declared.ErrorKind.{ErrorKind}
use Rattle.writer_refusal.specs.Refusal.{Verdict}
use Rattle.writer_refusal.specs.declared.State.{State}
use Rattle.writer.specs.Step as step

abbrev pub answer_of : Result (Unit {0}) ErrorKind → Verdict
answer_of (Ok u) = ok tt
answer_of (Err e) = error (number_of e)

abbrev pub wrote : Result (Unit {0}) ErrorKind → State → List ℕ → List ℕ → step.Result
wrote a s out table = step.result (answer_of a) s out table
