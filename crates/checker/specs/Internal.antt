-- What this crate's private functions return. No public contract cites this file.
--
--   check_in_answer r t  a result of `check_in` with the table t that it left: starts and entry, or the error's number and place
--   kept_words r        how many words of the table it keeps
use Rattle.std.specs.Prelude.{ℕ, List, Result, Ok, Err, take}
use Rattle.prelude.specs.Answer.{Answer, ok, error}
use Rattle.error.specs.Error.{Fault, fault_of}
use Rattle.error.specs.declared.Error.{Error}
use Rattle.checker.specs.declared.Summary.{Summary}

abbrev pub check_in_answer : Result Summary Error → List ℕ → Answer Fault ((List ℕ) × ℕ)
check_in_answer (Ok f) t = ok (take f.count t, f.entry)
check_in_answer (Err e) t = error (fault_of e)

abbrev pub kept_words : Result Summary Error → ℕ
kept_words (Ok f) = f.count
kept_words (Err e) = 0
