-- Demands 2 and 3 for the writer itself: what is proved of the reference model holds for it by `history`.
--
-- In order: the values of an accepted file, written again, are the same bytes (`rewrites`); a file that was closed is
-- read back (`reads_back_after`), and each call after it is CLOSED (`stays_closed`); the calls of the library for C (`history_c`); all
-- that holds after a list of calls (`after_calls`); all that the queries return of a well-formed file (`reports_values`).
use mathlib.Core.Path.{◌≡◌, refl, sym, ap, ◌∙◌, subst}
use mathlib.Core.List.{List, [], ◌∷◌, ◌++◌, map}
use Prim.Native.Nat.{ℕ, ◌+◌, ◌≤◌}
use native.Mathlib.Omega.{arith}
use lib.ListN.{length, take, drop, get_or}
use lib.Seq.{get_or_at, drop-append-add}
use Rattle.prelude.specs.Answer.{ok, error}
use Rattle.prelude.specs.Bytes.{Bytes}
use Rattle.prelude.specs.Each.{Each}
use Rattle.error.specs.Error.{CLOSED}
use Rattle.leb128.specs.declared.Mode.{Mode}
use Rattle.leb128.specs.declared.Mode.TheVariants.{Strict}
use Rattle.values.specs.Values.{Value, WellFormed}
use Rattle.values.proofs.Modes.{well_formed_of_strict}
use Rattle.checker.specs.Check.{check_of}
use Rattle.writer.specs.Call.{Call, close}
use Rattle.writer.specs.Step.{fresh}
use Rattle.writer.specs.Runs.{runs}
use Rattle.writer.specs.Given.{Given}
use Rattle.abi_writer.specs.Calls.{writer_of, words_of, number_c, runs_c}
use Rattle.abi_writer.proofs.Theorems.{writer_of_words_of, runs_words}
use Rattle.guarantees_writer.specs.Model.{ends, Model, empty_model, model_answer, model_after}
use Rattle.guarantees_writer.specs.History.{ModelRan, model_run, Agree}
use Rattle.guarantees_writer.specs.AcceptedParts.{accepted_parts}
use Rattle.guarantees.specs.ReadsBack.{ReadsBack}
use Rattle.guarantees.specs.Rewrites.{rewriting, Rewritten}
use Rattle.guarantees_writer.specs.History.{AllOk}
use Rattle.guarantees.specs.Demands.{ReportsValues, AfterCalls}
use Rattle.guarantees.proofs.Accepted.{accepted}
use Rattle.guarantees.proofs.ReadsFile.{reads_token, reads_body, reads_body_of_pointer, reads_no_body, reads_end, reads_item, reads_none}
use Rattle.guarantees.proofs.ReadsFile.{reads_immediate_end, reads_no_items}
use Rattle.guarantees.proofs.ReadsLookup.{reads_lookup, reads_no_lookup, reads_lookup_kind}
use Rattle.guarantees.proofs.Hops.{hops_none, follows_pointer, hops}
use Rattle.guarantees_writer.proofs.History.{history}
use Rattle.guarantees_writer.proofs.Lists.{model_run_append, length_answers, ended_same, ended_answers}
use Rattle.guarantees_writer.proofs.AcceptedParts.{parts_accepted}
use Rattle.guarantees.proofs.Rest.{rest_kept}
use Rattle.guarantees.proofs.Targets.{targets_earlier, formed_so_far}
use Rattle.guarantees.proofs.RewritesRead.{rewrites_read}
use Rattle.guarantees.proofs.Rewrites.{model_rewrites, calls_given}
use Rattle.guarantees.proofs.ReadsBack.{model_reads_back}

-- ---- written again

-- for every file that the strict mode accepts, with an output at least as long and a word for each value
pub rewrites : (file : List ℕ) (cap count entry : ℕ) → Bytes file → (check_of Strict file cap).answer ≡ ok (count, entry)
    → (out table : List ℕ) → length file ≤ length out → count ≤ length table → Rewritten file entry out table
rewrites file cap count entry b e out table long words =
    let a = accepted file cap count entry b e in
    let vs = a.values in
    let h = history (rewriting vs entry) out table in
    let m = model_rewrites file vs entry a.well_formed b (length out) (length table) long (omega (arith, a.counted)) in
    record {
      values = vs;
      well_formed = a.well_formed;
      given = calls_given file vs entry a.well_formed b;
      accepted = subst AllOk (sym h.0) m.0;
      written = h.1.written ∙ ap length m.1;
      same = h.1.bytes ∙ m.1;
      listed = h.1.starts ∙ m.2;
      read = λ mode. rewrites_read mode file vs entry (well_formed_of_strict mode a.well_formed);
    }

-- ---- read back

module _ (cs more : List Call) (e : ℕ) (out table : List ℕ) where
  abbrev n : ℕ
  n = length out

  abbrev m : ℕ
  m = length table

  -- the calls, with a close at e among them
  abbrev all : List Call
  all = cs ++ (close e ∷ more)

  -- the model before the close
  abbrev b : Model
  b = (model_run cs empty_model n m).model

  -- the close was accepted
  module _ (accepted : get_or (runs all fresh out table).answers (length cs) (error 0) ≡ ok tt) where
    answered : model_answer (ends e) b n m ≡ ok tt
    unfolding model_run
    answered =
        let a = (model_run cs empty_model n m).answers in
        sym (get_or_at a (model_answer (ends e) b n m) _ (error 0) (length cs) (length_answers cs empty_model n m))
        ∙ ap (λ l. get_or l (length cs) (error 0))
        (sym ((history all out table).0 ∙ ap (λ (k : ModelRan). k.answers) (model_run_append cs (close e ∷ more) empty_model n m)))
        ∙ accepted

    ended : (model_run all empty_model n m).model ≡ model_after (ends e) b
    unfolding model_run
    ended = ap (λ (k : ModelRan). k.model) (model_run_append cs (close e ∷ more) empty_model n m) ∙ rw answered (ended_same e b n m more)

    -- for every list of calls with an accepted close among them, whatever came before it and after it: the output's first w
    -- bytes are a file that is read back, in either mode, as the model's finished values
    pub reads_back_after : (mode : Mode) → Each Given cs
        → let r = runs all fresh out table in ReadsBack mode b e (model_run all empty_model n m).model (take r.writer.written r.out)
    reads_back_after mode given = rw ((history all out table).1.bytes, ended) (model_reads_back mode cs given n m e answered)

    pub stays_closed : Each (λ v. v ≡ error CLOSED) (drop (length cs + 1) (runs all fresh out table).answers)
    unfolding model_run
    stays_closed =
        let a = (model_run cs empty_model n m).answers in
        let same = (history all out table).0 ∙ ap (λ (k : ModelRan). k.answers) (model_run_append cs (close e ∷ more) empty_model n m) in
        rw (same, answered, ← length_answers cs empty_model n m, drop-append-add a (ok tt ∷ (model_run more (model_after (ends e) b) n m).answers) 1)
        (ended_answers e b n m more)

-- ---- the library for C

pub history_c : (cs : List Call) (out table : List ℕ)
    → let q = runs_c cs (words_of fresh) out table in let k = model_run cs empty_model (length out) (length table) in
    (q.numbers ≡ map number_c k.answers) × Agree (writer_of q.state) q.out q.table k.model
history_c cs out table =
    let h = history cs out table in
    rw (runs_words cs fresh out table, writer_of_words_of (runs cs fresh out table).writer) (ap (map number_c) h.0, h.1)

-- ---- a list of calls

pub after_calls : (cs : List Call) (out table : List ℕ) → AfterCalls cs out table
after_calls cs out table = record {
  agree = (history cs out table).1;
  answers = (history cs out table).0;
  parts = parts_accepted cs (length out) (length table) ∙ ap (accepted_parts [] cs) (sym (history cs out table).0);
  rest = rest_kept cs fresh out table;
  in_c = runs_words cs fresh out table;
  targets = targets_earlier cs out table;
  formed = formed_so_far cs out table;
  reads_back = λ mode before more e same. rw same (λ accepted. reads_back_after before more e out table accepted mode);
  closed = λ before more e same. rw same (stays_closed before more e out table);
}

-- ---- a well-formed file

pub reports_values : {mode : Mode} (file : List ℕ) (vs : List Value) (entry : ℕ) → WellFormed mode file vs entry → ReportsValues mode file vs
reports_values file vs entry w = record {
  read = reads_token file vs entry w;
  body = reads_body file vs entry w;
  pointer_body = reads_body_of_pointer file vs entry w;
  no_body = reads_no_body file vs entry w;
  stays = hops_none file vs entry w;
  hop = follows_pointer file vs entry w;
  no_map = reads_lookup_kind file vs entry w;
  end = reads_immediate_end file vs entry w;
  no_items = reads_no_items file vs entry w;
  skip = reads_end file vs entry w;
  item = λ a v b e is t js i. (reads_item file vs entry w a v b e is t js _ i refl).0;
  no_item = λ a v b e has i past. reads_none file vs entry w a v b e i past has;
  lookup = λ a v b e map key. reads_lookup file vs entry w a v b e map key;
  no_lookup = λ a v b e map key. reads_no_lookup file vs entry w a v b e map key;
  follow = hops file vs entry w;
}
