-- What the answers of `prune`, and of the calls that write the new file, mean.
--
--   file_answer r       length, count and entry of the new file; or the number of the writer's error
--   prune_answer r      length, count and entry of the new file; or the error's number, with its place if check gave it
use Rattle.std.specs.Prelude.{ℕ, Result, Ok, Err}
use Rattle.prelude.specs.Answer.{Answer, ok, error}
use Rattle.error.specs.Error as errors
use Rattle.error.specs.Error.{number_of}
use Rattle.prune.specs.Prune.{Refusal, bad_file, no_fit}
use Rattle.error.specs.declared.ErrorKind.{ErrorKind}
use Rattle.prune.specs.declared.NewFile.{NewFile}
use Rattle.prune.specs.declared.PruneError.{PruneError}
use Rattle.prune.specs.declared.PruneError.TheVariants.{BadFile, NoFit}

abbrev pub file_answer : Result NewFile ErrorKind → Answer ℕ (ℕ × ℕ × ℕ)
file_answer (Ok f) = ok (f.length, f.count, f.entry)
file_answer (Err e) = error (number_of e)

abbrev pub prune_answer : Result NewFile PruneError → Answer Refusal (ℕ × ℕ × ℕ)
prune_answer (Ok f) = ok (f.length, f.count, f.entry)
prune_answer (Err (BadFile e)) = error (bad_file (errors.fault_of e))
prune_answer (Err (NoFit e)) = error (no_fit (number_of e))
