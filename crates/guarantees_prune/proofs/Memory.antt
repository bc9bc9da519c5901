-- The calls that write a well-formed file's values again, with enough memory and with too little.
--
-- In order: an answer of the model that is `ok` with some memory is `ok`, FULL or NO_ROOM with any other (`answer_memory`), and so is the first refusal of
-- calls that are all accepted with some memory (`run_memory`); a file that fits is written (`file_written`), and one that does not is refused for want
-- of memory (`file_refused`).
use mathlib.Core.Path.{◌≡◌, refl, sym, ap, ◌∙◌, subst}
use mathlib.Core.Logic.{◌⊎◌, inl, inr}
use mathlib.Core.Bool.{Bool, true, false, not, ◌&&◌}
use mathlib.Core.List.{List, [], ◌∷◌, ◌++◌}
use Prim.Native.Nat.{ℕ, ◌+◌, ◌-◌, ◌≤◌, ◌<◌}
use native.Mathlib.Omega.{arith}
use lib.Dec.{eqb, ltb, leb}
use lib.ListN.{length, take, drop, replicate, length-replicate, take-append-drop, replicate-append-replicate}
use lib.Seq.{drop_at}
use Rattle.prelude.specs.Answer.{ok, error}
use Rattle.prelude.specs.Bytes.{Bytes}
use Rattle.prelude.specs.Search.{among}
use Rattle.error.specs.Error.{FULL, NO_ROOM}
use Rattle.leb128.specs.declared.Mode.TheVariants.{Strict}
use Rattle.utf8.specs.Text.{is_text}
use Rattle.kind.specs.Kind.{rule, immediate}
use Rattle.values.specs.Values.{Value, starts, WellFormed}
use Rattle.values.proofs.Laws.{length_starts}
use Rattle.checker.specs.Check.{filled}
use Rattle.writer_refusal.proofs.Refusals.{sound}
use Rattle.writer.specs.Call.{Call}
use Rattle.writer.specs.Step.{fresh}
use Rattle.writer.specs.Runs.{Ran, runs}
use Rattle.guarantees_writer.specs.Model.{Request, adds, ends, request_of, is_closed, Model, empty_model, model_bytes, model_starts, pending_at, back_to, model_after}
use Rattle.guarantees_writer.specs.Model.{first_of, no_room, model_answer}
use Rattle.guarantees_writer.specs.History.{AllOk, model_run, Alike}
use Rattle.guarantees_writer.proofs.History.{history_from, fresh_follows, runs_lengths}
use Rattle.guarantees.specs.Rewrites.{rewriting}
use Rattle.guarantees.proofs.Rest.{rest_kept}
use Rattle.guarantees.proofs.Rewrites.{model_rewrites}
use Rattle.guarantees_prune.specs.Pruned.{FirstError, here, later}
use Rattle.guarantees_prune.proofs.Runs.{error_ok}

-- the error f is for want of memory
abbrev pub OfMemory : ℕ → Type 0
OfMemory f = (f ≡ FULL) ⊎ (f ≡ NO_ROOM)

-- ---- the model's answers

first_memory : (a b c d e f e' f' : Bool) → first_of a b c d e' f' ≡ ok tt
    → (first_of a b c d e f ≡ ok tt) ⊎ ((x : ℕ) × (first_of a b c d e f ≡ error x) × OfMemory x)
first_memory true b c d e f e' f' h = error_ok h
first_memory false true c d e f e' f' h = error_ok h
first_memory false false true d e f e' f' h = error_ok h
first_memory false false false true e f e' f' h = error_ok h
first_memory false false false false true f e' f' h = inr (FULL, refl, inl refl)
first_memory false false false false false true e' f' h = inr (NO_ROOM, refl, inr refl)
first_memory false false false false false false e' f' h = inl refl

module _ (n m n' m' : ℕ) where
  answer_memory : (l : Request) (b : Model) → model_answer l b n' m' ≡ ok tt
      → (model_answer l b n m ≡ ok tt) ⊎ ((f : ℕ) × (model_answer l b n m ≡ error f) × OfMemory f)
  answer_memory (adds p) b =
      let after = model_after (adds p) b in
      let left = pending_at b.stage in
      let full : ℕ → Bool = λ k. eqb left 0 && leb k (length b.finished) in
      first_memory (is_closed b.stage) (not (immediate (rule p.kind)) && ltb 0 left) (eqb p.kind 4 && not (is_text p.body))
      (leb 14 p.kind && not (among p.number (model_starts b))) (full m) (no_room after n) (full m') (no_room after n')
  answer_memory (ends e) b =
      let after = model_after (ends e) b in
      let full : ℕ → Bool = λ k. ltb 255 (back_to e b) && leb k (length b.finished) in
      first_memory (is_closed b.stage) (ltb 0 (pending_at b.stage)) false (not (among e (model_starts b))) (full m) (no_room after n) (full m')
      (no_room after n')

  run_memory : (cs : List Call) (b : Model) → AllOk (model_run cs b n' m').answers
      → (AllOk (model_run cs b n m).answers × ((model_run cs b n m).model ≡ (model_run cs b n' m').model))
      ⊎ ((f : ℕ) × FirstError f (model_run cs b n m).answers × OfMemory f)
  unfolding model_run
  run_memory [] b h = inl (tt, refl)
  run_memory (c ∷ cs) b h =
      elim (answer_memory (request_of c) b h.0) [
        | inl e ↦ rw (e, h.0) (elim (run_memory cs (model_after (request_of c) b) (rw h.0 at h.1)) [
          | inl x ↦ inl ((refl, x.0), x.1)
          | inr x ↦ inr (x.0, later x.1, x.2)
        ])
        | inr x ↦ rw x.1 (inr (x.0, here, x.2))
      ]

-- ---- the file

-- the calls of the file `new` with the values ws leave r: they are all accepted; output and table have the file and the starts, and after them what was there
pub record Wrote (new : List ℕ) (ws : List Value) (out : List ℕ) (words : ℕ) (r : Ran) : Type 0 where
  pub accepted : AllOk r.answers
  pub bytes : r.out ≡ new ++ drop (length new) out
  pub table : r.table ≡ filled words (starts 0 ws)
  pub written : r.writer.written ≡ length new
  pub count : r.writer.count ≡ length ws

zeros_after : (k n : ℕ) → k ≤ n → drop k (replicate {A = ℕ} n 0) ≡ replicate (n - k) 0
zeros_after k n h =
    let e : k + (n - k) ≡ n = omega arith in
    ap (λ l. drop k l) (ap (λ j. replicate {A = ℕ} j 0) (sym e) ∙ sym (replicate-append-replicate k (n - k) 0))
    ∙ drop_at (replicate k 0) (replicate (n - k) 0) k (length-replicate k 0)

-- a list by its front and the rest, which is another's
front_rest : {A : Type 0} (j k : ℕ) (l l' front rest : List A) → j ≡ k → take j l ≡ front → drop j l ≡ drop j l' → drop k l' ≡ rest → l ≡ front ++ rest
front_rest j k l l' front rest same e f g = sym (take-append-drop j l) ∙ rw (e, f, same, g)

module _ (new : List ℕ) (ws : List Value) (start : ℕ) (w : WellFormed Strict new ws start) (b : Bytes new) (out : List ℕ) (words : ℕ) where
  abbrev calls : List Call
  calls = rewriting ws start

  abbrev ran : Ran
  ran = runs calls fresh out (replicate words 0)

  abbrev modelled : Model
  modelled = (model_run calls empty_model (length out) (length (replicate {A = ℕ} words 0))).model

  alike : Alike calls fresh out (replicate words 0) empty_model
  alike = history_from calls fresh out (replicate words 0) empty_model (fresh_follows out (replicate words 0))

  pub file_written : length new ≤ length out → length ws ≤ words → Wrote new ws out words ran
  file_written long many =
      let m = model_rewrites new ws start w b (length out) (length (replicate {A = ℕ} words 0)) long (omega (arith, length-replicate {A = ℕ} words 0)) in
      let a = alike.follows.agree in
      let written : ran.writer.written ≡ length new = a.written ∙ ap length m.1 in
      let count : ran.writer.count ≡ length ws = a.count ∙ ap length m.2 ∙ length_starts 0 ws in
      let rest = rest_kept calls fresh out (replicate words 0) in
      record {
        accepted = subst AllOk (sym alike.answers) m.0;
        bytes = front_rest ran.writer.written (length new) ran.out out _ _ written (a.bytes ∙ m.1) rest.bytes refl;
        table = front_rest ran.writer.count (length ws) ran.table (replicate words 0) _ _ count (a.starts ∙ m.2) rest.words
            (rw (length_starts 0 ws) (zeros_after (length ws) words many));
        written = written;
        count = count;
      }

  -- the bytes and starts of what the calls leave have their place
  fitted : model_bytes modelled ≡ new → model_starts modelled ≡ starts 0 ws → (length new ≤ length out) × (length ws ≤ words)
  fitted bytes listed =
      let a = alike.follows.agree in
      let h = sound ran.writer (length ran.out) (length ran.table) alike.follows.good in
      let same = runs_lengths calls fresh out (replicate words 0) in (
        omega (arith, h.inside, a.written, ap length bytes),
        omega (arith, h.listed, length-replicate {A = ℕ} words 0, a.count, ap length listed, length_starts 0 ws),
      )

  pub file_refused : (length out < length new) ⊎ (words < length ws) → (f : ℕ) × FirstError f ran.answers × OfMemory f
  file_refused short =
      let m = model_rewrites new ws start w b (length out + length new) (words + length ws) (omega arith) (omega arith) in
      elim (run_memory (length out) (length (replicate {A = ℕ} words 0)) _ _ calls empty_model m.0) [
        | inl x ↦
            let fits = fitted (ap model_bytes x.1 ∙ m.1) (ap model_starts x.1 ∙ m.2) in
            elim short [ inl l ↦ absurd (omega (arith, fits)) | inr l ↦ absurd (omega (arith, fits)) ]
        | inr x ↦ rw alike.answers x
      ]
