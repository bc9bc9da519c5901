-- The reference model has the parts of the accepted calls, in their order, and its bytes are theirs; so are the writer's.
--
-- In order: the bytes of values by their parts (`bytes_parts`); what one accepted request adds (`request_parts`); lists of calls
-- (`parts_accepted`); the writer (`parts_written`).
use mathlib.Core.Path.{◌≡◌, refl, sym, ap, ◌∙◌}
use mathlib.Core.Bool.{Bool, true, false, true≢false}
use mathlib.Core.List.{List, [], ◌∷◌, ◌++◌, append_assoc, append-nil}
use Prim.Native.Nat.{ℕ, ◌+◌, ◌-◌}
use native.Mathlib.Omega.{arith}
use lib.Dec.{eqb, ltb}
use lib.ListN.{length, take}
use borrow.Author.Tests.{eqb-false, ltb-false}
use Rattle.prelude.specs.Pick.{pick}
use Rattle.prelude.specs.Answer.{ok, error}
use Rattle.prelude.proofs.Tests.{pick_elim}
use Rattle.values.specs.Values.{tokens, bytes, region}
use Rattle.values.proofs.Laws.{bytes_append}
use Rattle.writer_refusal.specs.Refusal.{Verdict}
use Rattle.writer_refusal.proofs.Refusals.{past}
use Rattle.writer.specs.Call.{Call}
use Rattle.writer.specs.Step.{fresh}
use Rattle.writer.specs.Runs.{runs}
use Rattle.guarantees_writer.specs.Model.{Part, part, Request, adds, ends, request_of, ModelValue, model_value, forms_of, value_at, values_at, Stage}
use Rattle.guarantees_writer.specs.Model.{between, within}
use Rattle.guarantees_writer.specs.Model.{closed, open_of, delta_of, is_closed, Model, model, empty_model, model_bytes, pending_in, pending_at, grown}
use Rattle.guarantees_writer.specs.Model.{settle, back_to}
use Rattle.guarantees_writer.specs.Model.{model_after, model_answer}
use Rattle.guarantees_writer.specs.History.{model_run, unless_refused}
use Rattle.guarantees_writer.specs.AcceptedParts.{parts_in, parts_added, accepted_parts}
use Rattle.guarantees_writer.proofs.Models.{forms_append}
use Rattle.guarantees_writer.proofs.History.{history}

-- ---- the bytes of parts

pub parts_in_append : (a b : List ModelValue) → parts_in (a ++ b) ≡ parts_in a ++ parts_in b
unfolding parts_in
parts_in_append [] b = refl
parts_in_append (v ∷ a) b = rw (parts_in_append a b, append_assoc v.items (parts_in a) (parts_in b))

pub region_parts : (q : ℕ) (vs : List ModelValue) → region (values_at q vs) ≡ bytes (forms_of q (parts_in vs))
unfolding parts_in region values_at forms_of bytes
region_parts q [] = refl
region_parts q (v ∷ vs) =
    let ps = v.head ∷ v.items in
    rw (region_parts (q + length (bytes (tokens (value_at q v)))) vs, ← bytes_append) (ap bytes (sym (forms_append q ps (parts_in vs))))

-- the parts of a model, the open value's as far as it got
abbrev pub model_parts : Model → List Part
model_parts b = parts_in (b.finished ++ open_of b.stage)

pub bytes_parts : (b : Model) → model_bytes b ≡ bytes (forms_of 0 (model_parts b)) ++ delta_of b.stage
unfolding model_bytes
bytes_parts b = rw (region_parts 0 (b.finished ++ open_of b.stage))

-- ---- what one request adds

-- no value is open if no item is pending
abbrev Whole : Stage → Type 0
Whole g = is_closed g ≡ false → pending_at g ≡ 0 → g ≡ between

parts_grown : (vs : List ModelValue) (g : Stage) (p : Part) → is_closed g ≡ false → parts_in (vs ++ (grown g p ∷ [])) ≡ model_parts (model vs g) ++ (p ∷ [])
unfolding parts_in
parts_grown vs between p o = rw (parts_in_append vs (model_value p [] ∷ []), append-nil vs)
parts_grown vs (within v) p o =
    rw (
      parts_in_append vs (grown (within v) p ∷ []),
      parts_in_append vs (v ∷ []),
      append-nil (v.items ++ (p ∷ [])),
      append-nil v.items,
      append_assoc (parts_in vs) (v.head ∷ v.items) (p ∷ []),
    )
parts_grown vs (closed d) p o = absurd (true≢false o)

parts_settle : (vs : List ModelValue) (v : ModelValue) → model_parts (settle vs v) ≡ parts_in (vs ++ (v ∷ []))
parts_settle vs v =
    pick_elim (λ b. model_parts b ≡ parts_in (vs ++ (v ∷ []))) (eqb (pending_in v) 0) (λ _. ap parts_in (append-nil (vs ++ (v ∷ [])))) (λ _. refl)

whole_settle : (vs : List ModelValue) (v : ModelValue) → Whole (settle vs v).stage
whole_settle vs v =
    pick_elim (λ (b : Model). Whole b.stage) (eqb (pending_in v) 0) (λ _ _ _. refl) (λ some _ none. absurd (eqb-false (pending_in v) 0 some none))

-- before a close the bytes are those of the parts
delta_none : (g : Stage) → is_closed g ≡ false → delta_of g ≡ []
delta_none between o = refl
delta_none (within v) o = refl
delta_none (closed d) o = absurd (true≢false o)

length_parts : (b : Model) → is_closed b.stage ≡ false → length (model_bytes b) ≡ length (bytes (forms_of 0 (model_parts b)))
length_parts b o = rw (bytes_parts b, delta_none b.stage o, append-nil (bytes (forms_of 0 (model_parts b))))

parts_closed : (vs : List ModelValue) (e x y : ℕ) (far : Bool) → let p = part 15 e 0 [] in
    model_parts (pick far (model (vs ++ (model_value p [] ∷ [])) (closed x)) (model vs (closed y))) ≡ model_parts (model vs between) ++ pick far (p ∷ []) []
unfolding parts_in
parts_closed vs e x y true =
    let last = model_value (part 15 e 0 []) [] ∷ [] in
    rw (append-nil (vs ++ last), parts_in_append vs last, append-nil vs)
parts_closed vs e x y false = sym (append-nil (model_parts (model vs between)))

request_parts : (l : Request) (vs : List ModelValue) (g : Stage) (n m : ℕ) → Whole g → let b = model vs g in model_answer l b n m ≡ ok tt
    → model_parts (model_after l b) ≡ model_parts b ++ parts_added l (length (bytes (forms_of 0 (model_parts b))))
request_parts (adds p) vs g n m w q = past (is_closed g) _ _ q (λ o _. parts_settle vs (grown g p) ∙ parts_grown vs g p o)
request_parts (ends e) vs g n m w q =
    past (is_closed g) _ _ q (λ o q₁. past (ltb 0 (pending_at g)) _ _ q₁ (λ none _.
    rw (w o (omega (arith, ltb-false 0 (pending_at g) none)), ← length_parts (model vs between) refl)
    (parts_closed vs e _ _ (ltb 255 (back_to e (model vs between))))))

whole_after : (l : Request) (b : Model) → Whole (model_after l b).stage
whole_after (adds p) b = whole_settle b.finished (grown b.stage p)
whole_after (ends e) b = pick_elim (λ (c : Model). Whole c.stage) (ltb 255 (back_to e b)) (λ _ o _. absurd (true≢false o)) (λ _ o _. absurd (true≢false o))

-- ---- lists of calls

parts_kept : (c : Call) (cs : List Call) (b : Model) (n m : ℕ) → Whole b.stage → (v : Verdict) → model_answer (request_of c) b n m ≡ v
    → let next = unless_refused v b (model_after (request_of c) b) in
    (vs : List Verdict) → Whole next.stage × (accepted_parts (model_parts next) cs vs ≡ accepted_parts (model_parts b) (c ∷ cs) (v ∷ vs))
unfolding accepted_parts
parts_kept c cs b n m w (ok tt) e vs =
    (whole_after (request_of c) b, ap (λ ps. accepted_parts ps cs vs) (request_parts (request_of c) b.finished b.stage n m w e))
parts_kept c cs b n m w (error f) e vs = (w, refl)

parts_from : (cs : List Call) (b : Model) (n m : ℕ) → Whole b.stage → let k = model_run cs b n m in
    model_parts k.model ≡ accepted_parts (model_parts b) cs k.answers
unfolding model_run accepted_parts
parts_from [] b n m w = refl
parts_from (c ∷ cs) b n m w =
    let v = model_answer (request_of c) b n m in
    let next = unless_refused v b (model_after (request_of c) b) in
    let kept = parts_kept c cs b n m w v refl (model_run cs next n m).answers in
    parts_from cs next n m kept.0 ∙ kept.1

-- the parts of the model are those of the accepted calls, in their order
pub parts_accepted : (cs : List Call) (n m : ℕ) → let k = model_run cs empty_model n m in model_parts k.model ≡ accepted_parts [] cs k.answers
unfolding parts_in
parts_accepted cs n m = parts_from cs empty_model n m (λ _ _. refl)

-- the bytes that the writer has written are those of the accepted calls' parts, in their order, and the delta if there was a close
pub parts_written : (cs : List Call) (out table : List ℕ) → let r = runs cs fresh out table in let k = model_run cs empty_model (length out) (length table) in
    take r.writer.written r.out ≡ bytes (forms_of 0 (accepted_parts [] cs r.answers)) ++ delta_of k.model.stage
parts_written cs out table =
    let h = history cs out table in
    let k = model_run cs empty_model (length out) (length table) in
    h.1.bytes ∙ bytes_parts k.model ∙ rw (parts_accepted cs (length out) (length table), ← h.0)
