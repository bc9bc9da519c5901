-- Over every list of calls the output after the bytes written, and the table after the starts listed, are as they were at first.
use mathlib.Core.Path.{◌≡◌, refl, ap, ◌∙◌}
use mathlib.Core.List.{List, [], ◌∷◌}
use Prim.Native.Nat.{ℕ, ◌-◌, ◌≤◌}
use native.Mathlib.Omega.{arith}
use lib.ListN.{drop}
use lib.Seq.{drop-set-lt}
use Rattle.prelude.specs.Answer.{ok, error}
use Rattle.prelude.proofs.Tests.{split}
use Rattle.prelude.proofs.Lists.{drop_later}
use Rattle.writer_refusal.specs.Refusal.{Verdict}
use Rattle.writer_refusal.specs.declared.State.{State}
use Rattle.writer.specs.Call.{Call}
use Rattle.writer.specs.Step.{Result, step}
use Rattle.writer.specs.Runs.{runs}
use Rattle.writer.proofs.Refused.{refused_same}
use Rattle.guarantees_writer.specs.Model.{Request, adds, ends, request_of}
use Rattle.guarantees.specs.SoFar.{Rest}
use Rattle.guarantees_writer.specs.OneCall.{FinishesNone, Finishes, Finishing}
use Rattle.guarantees_writer.proofs.Calls.{accepted_only}
use Rattle.guarantees_writer.proofs.AcceptedCall.{accepted_finishes}

-- ---- one call

module _ (s : State) (table : List ℕ) (r : Result) where
  abbrev Words : Type 0
  Words = (s.count ≤ r.writer.count) × (drop r.writer.count r.table ≡ drop r.writer.count table)

  none_words : FinishesNone s table r → Words
  none_words f = (omega (arith, f.count), ap (drop r.writer.count) f.words)

  one_words : (x : ℕ) → Finishes x s table r → Words
  one_words x f =
      (omega (arith, f.count), ap (drop r.writer.count) f.words ∙ drop-set-lt r.writer.count table s.count x (omega (arith, f.count)))

  finishing_words : (l : Request) → Finishing l s table r → Words
  finishing_words (adds p) f =
      split 0 r.writer.pending (λ some. none_words (f.0 some)) (λ none. let last = f.1 (omega arith) in one_words last.0 last.2)
  finishing_words (ends e) f = split 255 (s.written - e - 1) (λ far. one_words s.written (f.1 far)) (λ near. none_words (f.0 near))

step_rest : (c : Call) (s : State) (out table : List ℕ) → let r = step c s out table in Rest s out table r.writer r.out r.table
step_rest c s out table = by_answer (step c s out table).answer refl
  where
    by_answer : (v : Verdict) → (step c s out table).answer ≡ v → let r = step c s out table in Rest s out table r.writer r.out r.table
    by_answer (ok tt) e =
        let o = accepted_only c s out table e in
        let w = finishing_words s table (step c s out table) (request_of c) (accepted_finishes c s out table e) in
        record { written = omega (arith, o.grows); count = w.0; bytes = o.after; words = w.1 }
    by_answer (error f) e =
        rw (refused_same c s out table f e) (record { written = omega arith; count = omega arith; bytes = refl; words = refl })

-- ---- a list of calls

pub rest_kept : (cs : List Call) (s : State) (out table : List ℕ) → let r = runs cs s out table in Rest s out table r.writer r.out r.table
unfolding runs
rest_kept [] s out table = record { written = omega arith; count = omega arith; bytes = refl; words = refl }
rest_kept (c ∷ cs) s out table =
    let r = step c s out table in
    let q = runs cs r.writer r.out r.table in
    let one = step_rest c s out table in
    let more = rest_kept cs r.writer r.out r.table in
    record {
      written = omega (arith, one.written, more.written);
      count = omega (arith, one.count, more.count);
      bytes = more.bytes ∙ drop_later q.writer.written r.writer.written r.out out more.written one.bytes;
      words = more.words ∙ drop_later q.writer.count r.writer.count r.table table more.count one.words;
    }
