-- Longer memory (bindings/c/twine.h: output and table "may be longer than before").
--
--   MemoryAnswer v   v is one of the three answers that depend on how long output and table are: BAD_STATE, FULL, NO_ROOM
--   longer r x y     what r leaves, with the bytes x after its output and the words y after its table
--   longer_all r x y  the same for a list of calls
--   Stretch          bytes and words that are added after output and table, and the calls that come then
--   runs_growing gs s out table
--                    the calls of the stretches gs, one stretch after the other
--   calls_in gs, bytes_in gs, words_in gs
--                    the calls of all stretches, and the bytes and words that they add
--   accepted_of cs vs the calls of cs whose answers, of the list vs, are `ok`
--   Leaves cs s out table s' out' table'
--                    the calls cs are all accepted, with this state, output and table, and leave the others
--   model_growing gs b n m
--                    the same calls made to the model b, which is told the lengths that output and table have at each stretch
use Rattle.std.specs.Prelude.{ℕ, ◌+◌, ◌≡◌, ◌⊎◌, List, [], ◌∷◌, ◌++◌, length}
use Rattle.prelude.specs.Answer.{ok, error}
use Rattle.error.specs.Error.{BAD_STATE, FULL, NO_ROOM}
use Rattle.writer_refusal.specs.Refusal.{Verdict}
use Rattle.writer_refusal.specs.declared.State.{State}
use Rattle.writer.specs.Call.{Call}
use Rattle.writer.specs.Step.{Result, result}
use Rattle.writer.specs.Runs.{Ran, ran, runs}
use Rattle.guarantees_writer.specs.Model.{Model}
use Rattle.guarantees_writer.specs.History.{ModelRan, model_ran, model_run}
use Rattle.guarantees_writer.specs.History.{AllOk}

abbrev pub MemoryAnswer : Verdict → Type 0
MemoryAnswer v = (v ≡ error BAD_STATE) ⊎ ((v ≡ error FULL) ⊎ (v ≡ error NO_ROOM))

abbrev pub longer : Result → List ℕ → List ℕ → Result
longer r x y = result r.answer r.writer (r.out ++ x) (r.table ++ y)

abbrev pub longer_all : Ran → List ℕ → List ℕ → Ran
longer_all r x y = ran r.answers r.writer (r.out ++ x) (r.table ++ y)

pub record Stretch : Type 0 where
  pub bytes : List ℕ
  pub words : List ℕ
  pub calls : List Call

unfoldable pub runs_growing : List Stretch → State → List ℕ → List ℕ → Ran
runs_growing [] s out table = ran [] s out table
runs_growing (g ∷ gs) s out table =
    let r = runs g.calls s (out ++ g.bytes) (table ++ g.words) in
    let more = runs_growing gs r.writer r.out r.table in
    ran (r.answers ++ more.answers) more.writer more.out more.table

unfoldable pub calls_in : List Stretch → List Call
calls_in [] = []
calls_in (g ∷ gs) = g.calls ++ calls_in gs

unfoldable pub bytes_in : List Stretch → List ℕ
bytes_in [] = []
bytes_in (g ∷ gs) = g.bytes ++ bytes_in gs

unfoldable pub words_in : List Stretch → List ℕ
words_in [] = []
words_in (g ∷ gs) = g.words ++ words_in gs

unfoldable pub accepted_of : List Call → List Verdict → List Call
accepted_of [] vs = []
accepted_of (c ∷ cs) [] = []
accepted_of (c ∷ cs) (ok u ∷ vs) = c ∷ accepted_of cs vs
accepted_of (c ∷ cs) (error f ∷ vs) = accepted_of cs vs

pub record Leaves (cs : List Call) (s : State) (out table : List ℕ) (s' : State) (out' table' : List ℕ) : Type 0 where
  pub accepted : AllOk (runs cs s out table).answers
  pub writer : (runs cs s out table).writer ≡ s'
  pub bytes : (runs cs s out table).out ≡ out'
  pub words : (runs cs s out table).table ≡ table'

unfoldable pub model_growing : List Stretch → Model → ℕ → ℕ → ModelRan
model_growing [] b n m = model_ran [] b
model_growing (g ∷ gs) b n m =
    let n' = n + length g.bytes in
    let m' = m + length g.words in
    let k = model_run g.calls b n' m' in
    let more = model_growing gs k.model n' m' in
    model_ran (k.answers ++ more.answers) more.model
