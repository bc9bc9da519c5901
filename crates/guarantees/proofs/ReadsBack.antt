-- A file that the reference model closed is read back: check accepts it, and reading, items and bodies return the
-- model's values.
--
-- In order: parts are tokens at the offsets where they are held (`holds_at`), and are read as the model has them
-- (`read_form`); the bytes of a closed model are a well-formed file, and the reader gives back its values
-- (`model_gives_back`); so it is for an accepted close, after any calls whose arguments have the stated widths
-- (`model_reads_back`).
use mathlib.Core.Path.{◌≡◌, refl, ap, ◌∙◌, subst}
use mathlib.Core.Bool.{true, false}
use mathlib.Core.Logic.{◌⊎◌}
use mathlib.Core.List.{List, [], ◌∷◌, ◌++◌}
use Prim.Native.Nat.{ℕ, ◌+◌, ◌-◌, ◌≤◌}
use native.Mathlib.Nat.{zero-add}
use native.Mathlib.Omega.{arith}
use borrow.Author.Tests.{lt-leb, lt-ltb, le-ltb}
use lib.ListN.{length, length-append}
use Rattle.prelude.specs.Answer.{ok, error}
use Rattle.prelude.specs.Each.{Each}
use Rattle.prelude.proofs.Tests.{split}
use Rattle.error.specs.Error.{fault, NO_ITEM, WRONG_KIND}
use Rattle.leb128.specs.declared.Mode.{Mode}
use Rattle.kind.specs.Kind.{rule, immediate}
use Rattle.kind.proofs.Laws.{used_lt}
use Rattle.token.specs.Token.{Token, emit}
use Rattle.values.specs.Values.{tokens, bytes, starts, WellFormed}
use Rattle.values.proofs.Modes.{well_formed_of_strict}
use Rattle.reader_value.specs.Value.{read_of}
use Rattle.reader_value.specs.declared.Value.TheVariants.{Reference, Pointer}
use Rattle.reader_items.specs.Items.{item_of}
use Rattle.reader_body.specs.Body.{body_place_of, body_of}
use Rattle.writer.specs.Call.{Call, close}
use Rattle.writer.specs.Given.{Given}
use Rattle.checker.specs.Check.{checked, filled, check_of}
use Rattle.guarantees.specs.TokenValues.{token_end, value_of_token}
use Rattle.guarantees.specs.Places.{TokenAt}
use Rattle.guarantees_writer.specs.Model.{Part, ends, ModelValue, form_of, forms_of, value_at, values_at, closed, Model, end_of}
use Rattle.guarantees_writer.specs.Model.{model, empty_model, model_bytes, back_to, model_answer, model_after}
use Rattle.guarantees_writer.specs.History.{model_run}
use Rattle.guarantees.specs.ReadsBack.{Holds, value_of_part, GivesBack, ReadsBack}
use Rattle.guarantees.proofs.Accepts.{accepts}
use Rattle.guarantees.proofs.ReadsFile.{reads_token, reads_body, reads_end, reads_item, reads_none, reads_no_items, head_token_at}
use Rattle.guarantees_writer.proofs.Models.{forms_append, length_forms, values_append, length_values, start_lt, bytes_closed}
use Rattle.guarantees.proofs.Invariant.{Finished, Staged, ModelInvariant, holds_fit, closes_near, closes_far}
use Rattle.guarantees.proofs.Allowed.{AllowedPart, allowed_given, invariant_given, target_form, invariant_values}

-- ---- parts as tokens

-- a value with those before it and those after it
values_around : (vs a : List ModelValue) (v : ModelValue) (b : List ModelValue) → vs ≡ a ++ (v ∷ b)
    → values_at 0 vs ≡ values_at 0 a ++ (value_at (end_of a) v ∷ values_at (end_of a + length (bytes (tokens (value_at (end_of a) v)))) b)
unfolding values_at
values_around vs a v b e = rw (e, values_append 0 a (v ∷ b), zero-add)

read_reference : (q : ℕ) (t : Token) → t.kind ≡ 14 → value_of_token q t ≡ Reference (q - t.n - 1)
unfolding value_of_token
read_reference q t e = rw e

read_pointer : (q : ℕ) (t : Token) → t.kind ≡ 15 → value_of_token q t ≡ Pointer (q - t.n - 1)
unfolding value_of_token
read_pointer q t e = rw e

module _ (vs : List ModelValue) (j q : ℕ) (p : Part) (h : Holds vs j q p) where
  pub holds_at : TokenAt (values_at 0 vs) j q (form_of q p)
  unfolding forms_of
  holds_at =
      let start = end_of h.before in
      record {
        before = values_at 0 h.before;
        value = value_at start h.value;
        after = _;
        values = values_around vs h.before h.value h.after h.values;
        numbered = length_values 0 h.before ∙ h.numbered;
        front = forms_of start h.front;
        back = _;
        tokens = ap (forms_of start) h.parts ∙ rw (← h.place) at (forms_append start h.front (p ∷ h.back));
        place = h.place;
      }

  -- a reference or pointer by the offset that was handed in
  pub read_form : Finished AllowedPart [] vs → value_of_token q (form_of q p) ≡ value_of_part q p
  unfolding value_of_part form_of
  read_form f =
      let own = holds_fit AllowedPart vs f j q p h in
      split p.kind 14 (λ near. rw (lt-leb 14 p.kind near))
      (λ far. let target = (target_form q p far (omega (arith, start_lt h.before p.number (own.names far), h.place))).1 in
      let most = used_lt p.kind (omega (arith, own.own.allowed.low)) in
      split p.kind 15
      (λ l. let e : p.kind ≡ 14 = omega arith in read_reference q (form_of q p) e ∙ ap Reference target ∙ rw e)
      (λ l. let e : p.kind ≡ 15 = omega arith in read_pointer q (form_of q p) e ∙ ap Pointer target ∙ rw e))

-- ---- a closed model

module _ (mode : Mode) (b : Model) (d entry : ℕ) (k : ModelInvariant AllowedPart b) (c : b.stage ≡ closed d)
    (named : entry + d + 1 ≡ end_of b.finished) where
  abbrev vs : List ModelValue
  vs = b.finished

  abbrev file : List ℕ
  file = model_bytes b

  model_well_formed : WellFormed mode file (values_at 0 vs) entry
  model_well_formed =
      let (e, start, own) = subst (Staged AllowedPart vs) c k.stage in
      let same : e ≡ entry = omega arith in
      well_formed_of_strict mode (record {
        short = k.short;
        values = invariant_values b k;
        delta = d;
        same = ap (λ g. model_bytes (model vs g)) c ∙ bytes_closed vs d;
        named = named;
        start = rw (← same) start;
      })

  accepted : (cap : ℕ) → length vs ≤ cap → check_of mode file cap ≡ checked (ok (length vs, entry)) (filled cap (starts 0 (values_at 0 vs)))
  accepted cap = rw (length_values 0 vs) at (accepts file (values_at 0 vs) entry cap model_well_formed)

  read : (j q : ℕ) (p : Part) → Holds vs j q p → read_of mode file q ≡ ok (value_of_part q p)
  read j q p h =
      reads_token file (values_at 0 vs) entry model_well_formed j q (form_of q p) (holds_at vs j q p h) ∙ ap ok (read_form vs j q p h k.finished)

  body : (j q : ℕ) (p : Part) → Holds vs j q p → (p.kind ≡ 4) ⊎ (p.kind ≡ 5)
      → (body_place_of mode file q ≡ ok (token_end q (form_of q p) - length p.body, length p.body)) × (body_of mode file q ≡ p.body)
  unfolding form_of
  body j q p h own = reads_body file (values_at 0 vs) entry model_well_formed j q (form_of q p) (holds_at vs j q p h) own

  module _ (a : List ModelValue) (v : ModelValue) (z : List ModelValue) (e : vs ≡ a ++ (v ∷ z)) where
    abbrev at : ℕ
    at = end_of a

    item : (is : List Part) (p : Part) (js : List Part) → v.items ≡ is ++ (p ∷ js)
        → item_of mode file at (length is) ≡ ok (at + length (bytes (forms_of at (v.head ∷ is))))
    unfolding forms_of bytes
    item is p js i =
        let t = form_of at v.head in
        let q = at + length (emit t) in
        let forms = ap (forms_of q) i ∙ forms_append q is (p ∷ js) in
        let long = length-append (emit t) (bytes (forms_of q is)) in
        let place : at + length (emit t ++ bytes (forms_of q is)) ≡ q + length (bytes (forms_of q is)) = omega arith in
        rw (← length_forms q is)
        (reads_item file (values_at 0 vs) entry model_well_formed (values_at 0 a) (value_at at v) _ (values_around vs a v z e) (forms_of q is) _ _ _ forms place).0

    none : immediate (rule v.head.kind) ≡ false → (i : ℕ) → length v.items ≤ i → item_of mode file at i ≡ error (fault NO_ITEM at)
    unfolding form_of
    none has i past =
        let long = length_forms (at + length (emit (form_of at v.head))) v.items in
        reads_none file (values_at 0 vs) entry model_well_formed (values_at 0 a) (value_at at v) _ (values_around vs a v z e) i (omega arith) has

    flat : immediate (rule v.head.kind) ≡ true → (i : ℕ) → item_of mode file at i ≡ error (fault WRONG_KIND at)
    unfolding form_of
    flat one i =
        let here = head_token_at (values_at 0 vs) (values_at 0 a) (value_at at v) _ (values_around vs a v z e) in
        reads_no_items file (values_at 0 vs) entry model_well_formed _ at (form_of at v.head) here one i

  pub model_gives_back : GivesBack mode file vs entry
  model_gives_back = record {
    well_formed = model_well_formed;
    accepted = accepted;
    read = read;
    body = body;
    skip = λ a v z e. reads_end file (values_at 0 vs) entry model_well_formed (values_at 0 a) (value_at (end_of a) v) _ (values_around vs a v z e);
    item = item;
    none = none;
    flat = flat;
  }

-- ---- an accepted close

pub model_reads_back : (mode : Mode) (cs : List Call) → Each Given cs → (n m e : ℕ)
    → let b = (model_run cs empty_model n m).model in model_answer (ends e) b n m ≡ ok tt
    → ReadsBack mode b e (model_after (ends e) b) (model_bytes (model_after (ends e) b))
model_reads_back mode cs g n m e q =
    let b = (model_run cs empty_model n m).model in
    let k = invariant_given cs g n m in
    let allowed = allowed_given (close e) tt (λ four. absurd (omega arith)) in
    record {
      near = λ h. let c = closes_near AllowedPart b n m k e q h in rw (le-ltb 255 (back_to e b) h) (refl, model_gives_back mode _ _ _ c.kept refl c.named);
      far = λ h. let c = closes_far AllowedPart b n m k e q allowed h in rw (lt-ltb 255 (back_to e b) h)
          (refl, model_gives_back mode _ _ _ c.kept refl c.named);
    }
