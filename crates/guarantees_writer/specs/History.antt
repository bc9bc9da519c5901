-- Lists of the writer's calls, and the reference model's answers to them (document 01: "demand 3 makes a single claim about the list").
--
--   AllOk vs           each of the answers is `ok`
--   ModelRan, model_ran vs b
--                      the model's answers to a list of calls, and the model after the last one
--   unless_refused v b next
--                      the model after the answer v: `next` if the call was accepted; a refused call changes nothing
--   model_run cs b n m  the calls cs made to the model b, with an output of n bytes and a table of m words
--   Agree s out table b
--                      the bytes written and the starts listed are the model's, and so are the items pending and the
--                      close. Nothing is said here about the rest of the output and of the table
--   Started s vs g     at the stage g, after the values vs: an open value has an item pending, and the state has its start
--   Follows s out table b
--                      they agree, the state is not refused with BAD_STATE, and has the start of an open value: whatever calls come, the writer
--                      then does what the model says
--   Alike cs s out table b
--                      it does so for the calls cs: each is refused exactly when the model refuses it, with the same number, and after them
--                      the writer still follows the model
use Rattle.std.specs.Prelude.{ℕ, ◌<◌, ◌≡◌, false, List, [], ◌∷◌, length, take}
use Rattle.prelude.specs.Answer.{ok, error}
use Rattle.prelude.specs.Each.{Each}
use Rattle.writer_refusal.specs.Refusal.{bad_state, Verdict}
use Rattle.writer_refusal.specs.declared.State.{State}
use Rattle.writer.specs.Call.{Call}
use Rattle.writer.specs.Runs.{runs}
use Rattle.guarantees_writer.specs.Model.{request_of, ModelValue, Stage, between, within, closed, is_closed, Model, model_bytes, model_starts, end_of}
use Rattle.guarantees_writer.specs.Model.{pending_in, pending_at, model_answer, model_after}

abbrev pub AllOk : List Verdict → Type 0
AllOk vs = Each (λ v. v ≡ ok tt) vs

pub record ModelRan : Type 0 where
  pub answers : List Verdict
  pub model : Model

abbrev pub model_ran : List Verdict → Model → ModelRan
model_ran vs b = record { answers = vs; model = b }

abbrev pub unless_refused : Verdict → Model → Model → Model
unless_refused (ok u) b next = next
unless_refused (error f) b next = b

unfoldable pub model_run : List Call → Model → ℕ → ℕ → ModelRan
model_run [] b n m = model_ran [] b
model_run (c ∷ cs) b n m =
    let v = model_answer (request_of c) b n m in
    let more = model_run cs (unless_refused v b (model_after (request_of c) b)) n m in
    model_ran (v ∷ more.answers) more.model

pub record Agree (s : State) (out table : List ℕ) (b : Model) : Type 0 where
  pub bytes : take s.written out ≡ model_bytes b
  pub written : s.written ≡ length (model_bytes b)
  pub starts : take s.count table ≡ model_starts b
  pub count : s.count ≡ length (model_starts b)
  pub pending : s.pending ≡ pending_at b.stage
  pub closed : s.closed ≡ is_closed b.stage

abbrev pub Started : State → List ModelValue → Stage → Type 0
Started s vs between = Unit {0}
Started s vs (within v) = (0 < pending_in v) × (s.start ≡ end_of vs)
Started s vs (closed d) = Unit {0}

pub record Follows (s : State) (out table : List ℕ) (b : Model) : Type 0 where
  pub agree : Agree s out table b
  pub good : bad_state s (length out) (length table) ≡ false
  pub started : Started s b.finished b.stage

pub record Alike (cs : List Call) (s : State) (out table : List ℕ) (b : Model) : Type 0 where
  pub answers : (runs cs s out table).answers ≡ (model_run cs b (length out) (length table)).answers
  pub follows : let r = runs cs s out table in Follows r.writer r.out r.table (model_run cs b (length out) (length table)).model
