-- What the functions inside prune require and leave. No contract of a function for users cites this file.
--
--   Row s ss entry     the values of the region s start at ss, and one of them at `entry`
--   Marked s ss blocks entry t e
--                      value number e starts at `entry`; the table t keeps the starts ss, marks what that value reaches, and is numbered
--   Made, made a out table
--                      an answer, and the output and the table that it comes with
--   told k r           the answer and the memory after the calls that write the new file left r, if its entry is value number k
--   Rebuilt s ss entry out table ss' out' table' r
--                      r is the answer to writing what the value at `entry` reaches; the starts, the output and the table are then ss', out' and table'
--   cleared a out old new
--                      the answer a with the memory that prune leaves if `old` is in the old table: on an error 0 in the output and in the new table
use Rattle.std.specs.Prelude.{ℕ, ◌<◌, ◌≡◌, true, List, Result, length, take, get_or, replicate}
use Rattle.prelude.specs.Answer.{Answer, ok, error}
use Rattle.prelude.specs.Search.{among, rank, Rising}
use Rattle.error.specs.Error.{LIMIT}
use Rattle.error.specs.declared.ErrorKind.{ErrorKind}
use Rattle.table.specs.Blocks.{Below}
use Rattle.writer_refusal.specs.Refusal.{Verdict}
use Rattle.writer.specs.Step as step
use Rattle.prune_marks.specs.Marks.{starts_in, marks_in, kept}
use Rattle.prune_reach.specs.Reach.{reached}
use Rattle.prune_copy.specs.Internal.{Ready}
use Rattle.prune.specs.Prune.{Refusal, Pruned, pruned, new_file}
use Rattle.prune.specs.Answers.{file_answer}
use Rattle.prune.specs.declared.NewFile.{NewFile}

pub record Row (s ss : List ℕ) (entry : ℕ) : Type 0 where
  pub short : length s < LIMIT
  pub rising : Rising ss
  pub inside : Below (length s) ss
  pub start : among entry ss ≡ true

pub record Marked (s ss blocks : List ℕ) (entry : ℕ) (t : List ℕ) (e : ℕ) : Type 0 where
  pub number : e ≡ rank entry ss
  pub inside : e < length t
  pub starts : starts_in t ≡ ss
  pub marks : marks_in t ≡ reached s ss e
  pub ready : Ready t blocks

pub record Made : Type 0 where
  pub answer : Answer ℕ (ℕ × ℕ × ℕ)
  pub out : List ℕ
  pub table : List ℕ

abbrev pub made : Answer ℕ (ℕ × ℕ × ℕ) → List ℕ → List ℕ → Made
made a out table = record { answer = a; out = out; table = table }

abbrev pub told_by : Verdict → ℕ → step.Result → Made
told_by (ok u) k r = made (ok (r.writer.written, r.writer.count, get_or r.table k 0)) r.out r.table
told_by (error f) k r = made (error f) r.out r.table

abbrev pub told : ℕ → step.Result → Made
told k r = told_by r.answer k r

pub record Rebuilt (s ss : List ℕ) (entry : ℕ) (out table ss' out' table' : List ℕ) (r : Result NewFile ErrorKind) : Type 0 where
  pub same : ss' ≡ ss
  pub made : made (file_answer r) out' table' ≡ told (kept (take (rank entry ss) (reached s ss (rank entry ss)))) (new_file s ss (rank entry ss) out table)

abbrev pub cleared : Answer Refusal (ℕ × ℕ × ℕ) → List ℕ → List ℕ → List ℕ → Pruned
cleared (ok f) out old new = pruned (ok f) out old new
cleared (error e) out old new = pruned (error e) (replicate (length out) 0) old (replicate (length new) 0)
