-- The writer's calls in C. The state is five words in the caller's memory, which may hold anything.
--
--   writer_of state            the writer's state that the words stand for: written, count, pending, start, and closed if the
--                             fifth is not 0
--   words_of w                 the words of a writer's state; the fifth is 1 if it is closed, else 0
--   truth b                   the scalar for a bool
--   Called, called n state out table
--                             the number that a call returns, and what state, output and table hold after it
--   called_by v r state out table
--                             the same, if the writer answers v and its result is r: 0 and what r leaves, or the
--                             error and no change
--   step_c c state out table   what the call c returns and leaves
--   number_c v                 the number that a call returns for the answer v: 0 if it is accepted
--   RanC, ran_c ns state out table
--                             the numbers that a list of calls returned, and the state, output and table that the last one left
--   runs_c cs state out table  the calls cs one after the other, the first with this state, output and table
--   settle_c a w state         the number for the answer a, and the state's words after it: those of the next state w,
--                             or on an error those of before. No contract of a C function cites it
use Rattle.std.specs.Prelude.{ℕ, Bool, true, false, not, List, [], ◌∷◌, Ok, Err, eqb, get_or}
use Rattle.prelude.specs.Pick.{pick}
use Rattle.prelude.specs.Answer.{ok, error}
use Rattle.error.specs.Error.{number_of}
use Rattle.writer_refusal.specs.Refusal.{Verdict}
use Rattle.writer_refusal.specs.declared.State.{State}
use Rattle.writer.specs.Call.{Call}
use Rattle.std.specs.Prelude as code
use Rattle.writer.specs.Step.{Result, step}
use Rattle.writer.specs.declared.Scalar.{Scalar}
use Rattle.writer.specs.declared.Scalar.TheVariants.{False, True}
use Rattle.error.specs.declared.ErrorKind.{ErrorKind}
use Rattle.abi_error.specs.Reply.{Reply, reply}

abbrev pub writer_of : List ℕ → State
writer_of state = record {
  written = get_or state 0 0;
  count = get_or state 1 0;
  pending = get_or state 2 0;
  start = get_or state 3 0;
  closed = not (eqb (get_or state 4 0) 0);
}

abbrev pub words_of : State → List ℕ
words_of w = w.written ∷ w.count ∷ w.pending ∷ w.start ∷ pick w.closed 1 0 ∷ []

abbrev pub truth : Bool → Scalar
truth true = True
truth false = False

-- ---- the calls

pub record Called : Type 0 where
  pub number : ℕ
  pub state : List ℕ
  pub out : List ℕ
  pub table : List ℕ

abbrev pub called : ℕ → List ℕ → List ℕ → List ℕ → Called
called n state out table = record { number = n; state = state; out = out; table = table }

abbrev pub called_by : Verdict → Result → List ℕ → List ℕ → List ℕ → Called
called_by (ok u) r state out table = called 0 (words_of r.writer) r.out r.table
called_by (error f) r state out table = called f state out table

unfoldable pub step_c : Call → List ℕ → List ℕ → List ℕ → Called
step_c c state out table = let r = step c (writer_of state) out table in called_by r.answer r state out table

abbrev pub number_c : Verdict → ℕ
number_c (ok u) = 0
number_c (error f) = f

pub record RanC : Type 0 where
  pub numbers : List ℕ
  pub state : List ℕ
  pub out : List ℕ
  pub table : List ℕ

abbrev pub ran_c : List ℕ → List ℕ → List ℕ → List ℕ → RanC
ran_c ns state out table = record { numbers = ns; state = state; out = out; table = table }

unfoldable pub runs_c : List Call → List ℕ → List ℕ → List ℕ → RanC
runs_c [] state out table = ran_c [] state out table
runs_c (c ∷ cs) state out table =
    let r = step_c c state out table in
    let more = runs_c cs r.state r.out r.table in
    ran_c (r.number ∷ more.numbers) more.state more.out more.table

-- ---- the code's answers

abbrev pub settle_c : code.Result (Unit {0}) ErrorKind → State → List ℕ → Reply
settle_c (Ok u) w state = reply 0 (words_of w)
settle_c (Err e) w state = reply (number_of e) state
