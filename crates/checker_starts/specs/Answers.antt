-- What the answer of `list_starts` means. No contract of a function for users cites this file.
--
--   list_answer r t    a result of `list_starts` with the table t that it left: the starts, or the error's number and place
--   Listed r t        t has a word for each start that it reports
use Rattle.std.specs.Prelude.{ℕ, ◌≤◌, List, Result, Ok, Err, length, take}
use Rattle.prelude.specs.Answer.{Answer, ok, error}
use Rattle.error.specs.Error as errors
use Rattle.error.specs.Error.{Fault}
use Rattle.error.specs.declared.Error.{Error}

abbrev pub list_answer : Result ℕ Error → List ℕ → Answer Fault (List ℕ)
list_answer (Ok n) t = ok (take n t)
list_answer (Err e) t = error (errors.fault_of e)

abbrev pub Listed : Result ℕ Error → List ℕ → Type 0
Listed (Ok n) t = n ≤ length t
Listed (Err e) t = Unit {0}
