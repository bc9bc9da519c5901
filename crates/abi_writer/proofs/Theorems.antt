-- What the writer's calls in C promise besides their contracts.
--
-- In order: the words of a writer stand for it (`writer_of_words_of`); on them each call is that writer's call, and leaves the words
-- of the next writer (`step_c_words`), and so does a list of calls (`runs_words`); on any words a list of calls is that of the
-- writer that the words stand for (`runs_any_words`).
use mathlib.Core.Path.{◌≡◌, refl, ap, ◌∙◌}
use mathlib.Core.Bool.{Bool, true, false, not}
use mathlib.Core.List.{List, [], ◌∷◌, map}
use Prim.Native.Nat.{ℕ}
use lib.Dec.{eqb}
use Rattle.prelude.specs.Pick.{pick}
use Rattle.prelude.specs.Answer.{ok, error}
use Rattle.writer_refusal.specs.Refusal.{Verdict}
use Rattle.writer_refusal.specs.declared.State.{State}
use Rattle.writer.specs.Call.{Call}
use Rattle.writer.specs.Step.{Result, step}
use Rattle.writer.specs.Runs.{Ran, runs}
use Rattle.writer.proofs.Refused.{refused_same}
use Rattle.abi_writer.specs.Calls.{writer_of, words_of, called, called_by, step_c, number_c, ran_c, runs_c}

flag_back : (b : Bool) → not (eqb (pick b 1 0) 0) ≡ b
flag_back true = refl
flag_back false = refl

pub writer_of_words_of : (w : State) → writer_of (words_of w) ≡ w
writer_of_words_of w = λ i. record { written = w.written; count = w.count; pending = w.pending; start = w.start; closed = flag_back w.closed i }

module _ (c : Call) (w : State) (out table : List ℕ) where
  abbrev next : Result
  next = step c w out table

  by_answer : (v : Verdict) → next.answer ≡ v
      → called_by v next (words_of w) out table ≡ called (number_c v) (words_of next.writer) next.out next.table
  by_answer (ok u) e = refl
  by_answer (error f) e = rw (refused_same c w out table f e)

  pub step_c_words : step_c c (words_of w) out table ≡ called (number_c next.answer) (words_of next.writer) next.out next.table
  unfolding step_c
  step_c_words = rw (writer_of_words_of w) (by_answer next.answer refl)

-- ---- lists of calls

pub runs_words : (cs : List Call) (w : State) (out table : List ℕ) → let r = runs cs w out table in
    runs_c cs (words_of w) out table ≡ ran_c (map number_c r.answers) (words_of r.writer) r.out r.table
unfolding runs runs_c
runs_words [] w out table = refl
runs_words (c ∷ cs) w out table = let r = step c w out table in rw (step_c_words c w out table, runs_words cs r.writer r.out r.table)

-- on any words: the numbers, the output and the table are those of the writer that the words stand for, and so are the words left
module _ (c : Call) (state out table : List ℕ) where
  abbrev after : Result
  after = step c (writer_of state) out table

  by_verdict : (v : Verdict) → after.answer ≡ v → let q = called_by v after state out table in
      (q.number ≡ number_c v) × (writer_of q.state ≡ after.writer) × (q.out ≡ after.out) × (q.table ≡ after.table)
  by_verdict (ok u) e = (refl, writer_of_words_of after.writer, refl, refl)
  by_verdict (error f) e = rw (refused_same c (writer_of state) out table f e) (refl, refl, refl, refl)

pub runs_any_words : (cs : List Call) (state out table : List ℕ) → let q = runs_c cs state out table in let r = runs cs (writer_of state) out table in
    (q.numbers ≡ map number_c r.answers) × (writer_of q.state ≡ r.writer) × (q.out ≡ r.out) × (q.table ≡ r.table)
unfolding runs runs_c step_c
runs_any_words [] state out table = (refl, refl, refl, refl)
runs_any_words (c ∷ cs) state out table =
    let one = by_verdict c state out table (after c state out table).answer refl in
    let q = step_c c state out table in
    let more = runs_any_words cs q.state q.out q.table in
    let same : runs cs (writer_of q.state) q.out q.table ≡ _ = λ i. runs cs (one.1 i) (one.2 i) (one.3 i) in (
      λ i. one.0 i ∷ (more.0 ∙ ap (λ (r : Ran). map number_c r.answers) same) i,
      more.1 ∙ ap (λ (r : Ran). r.writer) same,
      more.2 ∙ ap (λ (r : Ran). r.out) same,
      more.3 ∙ ap (λ (r : Ran). r.table) same,
    )
