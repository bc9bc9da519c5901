-- What the writer has written so far: every reference and pointer in a finished value names a finished value before it, by the
-- offset that was handed in (`targets_earlier`), and the finished values are values that a file may begin with (`formed_so_far`).
use mathlib.Core.Path.{◌≡◌, refl, sym, ap, ◌∙◌}
use mathlib.Core.List.{List, ◌∷◌, ◌++◌, append_assoc}
use Prim.Native.Nat.{ℕ, ◌+◌, ◌≤◌, ◌<◌}
use native.Mathlib.Nat.{zero-add}
use native.Mathlib.Omega.{arith}
use lib.ListN.{length, take, drop, get_or, length-append, take-append-drop}
use lib.Seq.{get_or-take, take_at, drop_at}
use Rattle.prelude.specs.Each.{Each}
use Rattle.prelude.proofs.Searches.{among_by}
use Rattle.token.specs.Token.{emit}
use Rattle.values.specs.Values.{bytes, region, starts}
use Rattle.values.proofs.Laws.{bytes_append, length_starts}
use Rattle.writer_refusal.specs.declared.State.{State}
use Rattle.writer.specs.Call.{Call}
use Rattle.writer.specs.Step.{fresh}
use Rattle.writer.specs.Given.{Given}
use Rattle.writer.specs.Runs.{runs}
use Rattle.guarantees_writer.specs.Model.{Part, ModelValue, form_of, forms_of, values_at, end_of, Model, empty_model, model_starts}
use Rattle.guarantees_writer.specs.History.{model_run, Agree}
use Rattle.guarantees.specs.ReadsBack.{Holds}
use Rattle.guarantees_writer.specs.AcceptedParts.{parts_in}
use Rattle.guarantees.specs.SoFar.{Names, FormedSoFar}
use Rattle.guarantees_writer.proofs.Models.{forms_append, values_append, length_values, start_lt, length_starts_of, front_bytes, end_le}
use Rattle.guarantees_writer.proofs.AcceptedParts.{parts_in_append, region_parts}
use Rattle.guarantees.proofs.Hops.{starts_before}
use Rattle.guarantees.proofs.Invariant.{holds_fit, invariant_any}
use Rattle.guarantees.proofs.Allowed.{invariant_given, invariant_values}
use Rattle.guarantees_writer.proofs.History.{history}

-- ---- where a part is

module _ (vs : List ModelValue) (j q : ℕ) (p : Part) (h : Holds vs j q p) where
  -- the parts before it, and those after it
  abbrev front : List Part
  front = parts_in h.before ++ h.front

  abbrev back : List Part
  back = h.back ++ parts_in h.after

  parts_at : parts_in vs ≡ front ++ (p ∷ back)
  unfolding parts_in
  parts_at =
      ap parts_in h.values ∙ parts_in_append h.before (h.value ∷ h.after)
      ∙ ap (λ ps. parts_in h.before ++ (ps ++ parts_in h.after)) h.parts
      ∙ rw (append_assoc h.front (p ∷ h.back) (parts_in h.after)) (sym (append_assoc (parts_in h.before) h.front (p ∷ back)))

  place_at : length (bytes (forms_of 0 front)) ≡ q
  place_at =
      let ps = parts_in h.before in
      let end : end_of h.before ≡ length (bytes (forms_of 0 ps)) = ap length (region_parts 0 h.before) in
      rw (forms_append 0 ps h.front, zero-add, bytes_append (forms_of 0 ps) (forms_of (length (bytes (forms_of 0 ps))) h.front), length-append, ← end)
      (sym h.place)

  region_at : (rest : List ℕ) × (region (values_at 0 vs) ≡ bytes (forms_of 0 front) ++ (emit (form_of q p) ++ rest))
  unfolding bytes forms_of
  region_at =
      let same : 0 + length (bytes (forms_of 0 front)) ≡ q = rw (zero-add, place_at) in
      let forms = rw same at (forms_append 0 front (p ∷ back)) in (
        bytes (forms_of (q + length (emit (form_of q p))) back),
        region_parts 0 vs ∙ rw (parts_at, forms, bytes_append (forms_of 0 front) (forms_of q (p ∷ back))),
      )

-- ---- what the writer has written

-- the output begins with the bytes of the finished values
module _ (s : State) (out table : List ℕ) (b : Model) (a : Agree s out table b) where
  abbrev vs : List ModelValue
  vs = b.finished

  out_front : (rest : List ℕ) × (out ≡ region (values_at 0 vs) ++ rest)
  out_front =
      let (more, e) = front_bytes vs b.stage in
      let rest = drop s.written out in (
        more ++ rest,
        sym (take-append-drop s.written out) ∙ ap (λ l. l ++ rest) (a.bytes ∙ e) ∙ append_assoc (region (values_at 0 vs)) more rest,
      )

  -- a part of a finished value is written at its offset
  part_written : (j q : ℕ) (p : Part) → Holds vs j q p → take (length (emit (form_of q p))) (drop q out) ≡ emit (form_of q p)
  part_written j q p h =
      let (rest, e) = out_front in
      let (more, f) = region_at vs j q p h in
      let front = bytes (forms_of 0 (front vs j q p h)) in
      let t = emit (form_of q p) in
      let all : out ≡ front ++ (t ++ (more ++ rest)) = e ∙ rw (f, append_assoc front (t ++ more) rest, append_assoc t more rest) in
      rw (all, drop_at front (t ++ (more ++ rest)) q (place_at vs j q p h)) (take_at t (more ++ rest) (length t) refl)

  count_is : s.count ≡ length vs
  count_is = a.count ∙ length_starts_of b

  start_listed : (i : ℕ) → i < s.count → get_or table i 0 ≡ get_or (model_starts b) i 0
  start_listed i h = sym (get_or-take s.count table i 0 h) ∙ ap (λ l. get_or l i 0) a.starts

pub targets_earlier : (cs : List Call) (out table : List ℕ) → let r = runs cs fresh out table in
    let b = (model_run cs empty_model (length out) (length table)).model in
    (j q : ℕ) (p : Part) → Holds b.finished j q p → 14 ≤ p.kind → Names r.writer r.out r.table j q p
unfolding model_starts
targets_earlier cs out table j q p h k =
    let r = runs cs fresh out table in
    let b = (model_run cs empty_model (length out) (length table)).model in
    let same = (history cs out table).1 in
    let a = values_at 0 h.before in
    let named = (holds_fit _ b.finished (invariant_any cs (length out) (length table)).finished j q p h).names k in
    let (i, i<, e) = among_by p.number (starts 0 a) named in
    let split = ap (values_at 0) h.values ∙ values_append 0 h.before (h.value ∷ h.after) in
    let long = ap length h.values ∙ length-append h.before (h.value ∷ h.after) in
    let count = count_is r.writer r.out r.table b same in
    let earlier : i < j = omega (arith, length_starts 0 a, length_values 0 h.before, h.numbered) in
    record {
      written = part_written r.writer r.out r.table b same j q p h;
      number = i;
      earlier = earlier;
      listed = omega (arith, count, long, h.numbered);
      start = start_listed r.writer r.out r.table b same i (omega (arith, count, long, h.numbered))
          ∙ starts_before (values_at 0 b.finished) a _ i split i< ∙ e;
      below = omega (arith, start_lt h.before p.number named, h.place);
    }

pub formed_so_far : (cs : List Call) (out table : List ℕ) → Each Given cs → let r = runs cs fresh out table in
    FormedSoFar r.writer r.out r.table (values_at 0 (model_run cs empty_model (length out) (length table)).model.finished)
unfolding model_starts
formed_so_far cs out table given =
    let r = runs cs fresh out table in
    let b = (model_run cs empty_model (length out) (length table)).model in
    let vs = values_at 0 b.finished in
    let same = (history cs out table).1 in
    let (rest, e) = out_front r.writer r.out r.table b same in
    record {
      formed = invariant_values b (invariant_given cs given (length out) (length table));
      within = omega (arith, end_le b.finished b.stage, same.written);
      bytes = ap (take (length (region vs))) e ∙ take_at (region vs) rest (length (region vs)) refl;
      listed = same.starts;
      count = count_is r.writer r.out r.table b same ∙ sym (length_values 0 b.finished);
    }
