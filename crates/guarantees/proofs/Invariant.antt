-- What the reference model keeps, call by call, whatever P holds for the parts that the calls ask for.
--
--   Fit P before p        p may be a part of the value after the values `before`: P holds for it, and a reference or
--                         pointer names one of their starts
--   GoodValue P before v  this holds for the head of v and its items, which are immediates, and no more than the head says
--   Finished P before vs  after the values `before`, each of the values vs is good, and none of its items is pending
--   Staged P vs g         after the finished values vs: an open value is good, with an item pending; a delta byte names a start
--   ModelInvariant P b    all that, for the model b; and it has no more bytes than a file may have
--   Closes P vs d entry   the invariant holds for a model that is closed with the delta byte d, and d names `entry`
--
-- In order: finished values joined (`finished_append`), and their parts (`holds_fit`); their starts; what an accepted
-- request is (`adds_inv`, `ends_inv`), the bytes that it adds, and what it leaves (`invariant_adds`, `closes_near`,
-- `closes_far`); lists of calls (`invariant_run`, `invariant_any`).
use mathlib.Core.Path.{◌≡◌, refl, sym, ap, ◌∙◌, subst}
use mathlib.Core.Logic.{◌↔◌}
use mathlib.Core.Bool.{Bool, true, false, not, ◌&&◌, true≢false}
use mathlib.Core.List.{List, [], ◌∷◌, ◌++◌, append-nil}
use Prim.Native.Nat.{ℕ, ◌+◌, ◌-◌, ◌≤◌, ◌<◌, min}
use native.Mathlib.Omega.{arith}
use lib.Dec.{eqb, ltb, leb}
use lib.ListN.{length, length-append}
use lib.Seq.{append_snoc}
use borrow.Author.Tests.{ltb-true, ltb-false, leb-false, eqb-true, eqb-false, lt-ltb, le-ltb, le-leb, eq-eqb, not-false}
use Rattle.prelude.specs.Pick.{pick}
use Rattle.prelude.specs.Answer.{ok, error}
use Rattle.prelude.specs.Search.{among}
use Rattle.prelude.specs.Each.{Each}
use Rattle.prelude.proofs.Tests.{pick_elim, and_false, facts}
use Rattle.prelude.proofs.Searches.{among_at}
use Rattle.prelude.proofs.Lists.{each_append}
use Rattle.error.specs.Error.{LIMIT}
use Rattle.utf8.specs.Text.{is_text}
use Rattle.kind.specs.Kind.{rule, pending, immediate}
use Rattle.token.specs.Token.{emit}
use Rattle.token.proofs.Laws.{emit_pos}
use Rattle.values.specs.Values.{region, starts}
use Rattle.values.proofs.Members.{each_all, each_imp}
use Rattle.values.proofs.Laws.{length_starts, start_of}
use Rattle.writer_refusal.specs.Refusal.{Verdict}
use Rattle.writer_refusal.proofs.Refusals.{past}
use Rattle.writer.specs.Call.{Call}
use Rattle.guarantees_writer.specs.Model.{Part, part, Request, adds, ends, request_of, ModelValue, model_value, form_of, value_at, values_at}
use Rattle.guarantees_writer.specs.Model.{Stage, between, within, closed, is_closed, Model, model, empty_model, model_bytes, model_starts}
use Rattle.guarantees_writer.specs.Model.{end_of, pending_in, pending_at, grown, first_of, back_to, model_answer, settle, model_after}
use Rattle.guarantees_writer.specs.History.{model_run, unless_refused}
use Rattle.guarantees.specs.ReadsBack.{Holds}
use Rattle.guarantees_writer.proofs.Models.{values_snoc, start_lt, bytes_between, bytes_closed, bytes_grown, bytes_settle, model_room, answer_part, answer_close}

-- ---- what is kept

pub record Fit (P : Part → Type 0) (before : List ModelValue) (p : Part) : Type 0 where
  pub own : P p
  pub names : 14 ≤ p.kind → among p.number (starts 0 (values_at 0 before)) ≡ true

pub record GoodValue (P : Part → Type 0) (before : List ModelValue) (v : ModelValue) : Type 0 where
  pub head : Fit P before v.head
  pub items : Each (λ p. Fit P before p × (immediate (rule p.kind) ≡ true)) v.items
  pub taken : length v.items ≤ pending (rule v.head.kind) v.head.number v.head.args

abbrev pub Finished : (Part → Type 0) → List ModelValue → List ModelValue → Type 0
Finished P before [] = Unit {0}
Finished P before (v ∷ vs) = (GoodValue P before v × (pending_in v ≡ 0)) × Finished P (before ++ (v ∷ [])) vs

abbrev pub Staged : (Part → Type 0) → List ModelValue → Stage → Type 0
Staged P vs between = Unit {0}
Staged P vs (within v) = GoodValue P vs v × (0 < pending_in v)
Staged P vs (closed d) = (e : ℕ) × (among e (starts 0 (values_at 0 vs)) ≡ true) × (e + d + 1 ≡ end_of vs)

pub record ModelInvariant (P : Part → Type 0) (b : Model) : Type 0 where
  pub finished : Finished P [] b.finished
  pub stage : Staged P b.finished b.stage
  pub short : length (model_bytes b) ≤ LIMIT

pub record Closes (P : Part → Type 0) (vs : List ModelValue) (d entry : ℕ) : Type 0 where
  pub kept : ModelInvariant P (model vs (closed d))
  pub named : entry + d + 1 ≡ end_of vs

-- the part that a request adds, or may add
abbrev pub added_by : Request → Part
added_by (adds p) = p
added_by (ends e) = part 15 e 0 []

-- a text passes the test
abbrev pub Clear : Part → Type 0
Clear p = p.kind ≡ 4 → is_text p.body ≡ true

-- ---- finished values, and their parts

finished_append : (P : Part → Type 0) (before a b : List ModelValue)
    → Finished P before (a ++ b) ↔ (Finished P before a × Finished P (before ++ a) b)
finished_append P before [] b = rw append-nil (λ h. (tt, h), λ h. h.1)
finished_append P before (v ∷ a) b =
    let ih = finished_append P (before ++ (v ∷ [])) a b in
    rw (← append_snoc before v a) (λ h. let r = ih.0 h.1 in ((h.0, r.0), r.1), λ h. (h.0.0, ih.1 (h.0.1, h.1)))

pub holds_fit : (P : Part → Type 0) (vs : List ModelValue) → Finished P [] vs → (j q : ℕ) (p : Part) (h : Holds vs j q p) → Fit P h.before p
holds_fit P vs f j q p h =
    let before = h.before in
    let v = h.value in
    let g = ((finished_append P [] before (v ∷ h.after)).0 (subst (Finished P []) h.values f)).1.0.0 in
    let all : Each (Fit P before) (v.head ∷ v.items) = (g.head, each_imp _ (Fit P before) (λ i f. f.0) v.items g.items) in
    ((each_append (Fit P before) h.front (p ∷ h.back)).0 (subst (Each (Fit P before)) h.parts all)).1.0

-- ---- starts

start_last : (vs : List ModelValue) (v : ModelValue) → among (end_of vs) (starts 0 (values_at 0 (vs ++ (v ∷ [])))) ≡ true
start_last vs v =
    let a = values_at 0 vs in
    let w = value_at (end_of vs) v in
    rw (values_snoc vs v) (among_at (end_of vs) (starts 0 (a ++ (w ∷ []))) (length a)
    (omega (arith, length_starts 0 (a ++ (w ∷ [])), length-append a (w ∷ []))) (start_of a w []))

-- ---- what an accepted request is

-- there is no reason to refuse
first_of_by : {X : Type 0} (a b c d e f : Bool) → first_of a b c d e f ≡ ok tt
    → (a ≡ false → b ≡ false → c ≡ false → d ≡ false → e ≡ false → f ≡ false → X) → X
first_of_by a b c d e f q k =
    past a _ _ q (λ a' q₁. past b _ _ q₁ (λ b' q₂. past c _ _ q₂ (λ c' q₃.
    past d _ _ q₃ (λ d' q₄. past e _ _ q₄ (λ e' q₅. past f _ _ q₅ (λ f' _. k a' b' c' d' e' f'))))))

record Added (p : Part) (b : Model) (n : ℕ) : Type 0 where
  unclosed : is_closed b.stage ≡ false
  flat : 0 < pending_at b.stage → immediate (rule p.kind) ≡ true
  text : Clear p
  names : 14 ≤ p.kind → among p.number (model_starts b) ≡ true
  room : length (emit (form_of (length (model_bytes b)) p)) + pending_in (grown b.stage p) ≤ model_room b n

adds_inv : (p : Part) (b : Model) (n m : ℕ) → model_answer (adds p) b n m ≡ ok tt → Added p b n
adds_inv p b n m q =
    first_of_by (is_closed b.stage) (not (immediate (rule p.kind)) && ltb 0 (pending_at b.stage)) (eqb p.kind 4 && not (is_text p.body))
    (leb 14 p.kind && not (among p.number (model_starts b))) (eqb (pending_at b.stage) 0 && leb m (length b.finished))
    (ltb (model_room b n) (length (emit (form_of (length (model_bytes b)) p)) + pending_in (grown b.stage p))) (sym (answer_part p b n m) ∙ q)
    (λ unclosed flat text names full room. record {
      unclosed = unclosed;
      flat = λ h. and_false _ _ flat (λ a. not-false _ a) (λ a. absurd (omega facts));
      text = λ h. not-false _ (rw (eq-eqb p.kind 4 h) at text);
      names = λ h. not-false _ (rw (le-leb 14 p.kind h) at names);
      room = omega facts;
    })

record Ended (e : ℕ) (b : Model) (n : ℕ) : Type 0 where
  unclosed : is_closed b.stage ≡ false
  none : pending_at b.stage ≡ 0
  names : among e (model_starts b) ≡ true
  far : 255 < back_to e b → length (emit (form_of (length (model_bytes b)) (part 15 e 0 []))) ≤ model_room b n
  near : back_to e b ≤ 255 → length (model_bytes b) < min n LIMIT

ends_inv : (e : ℕ) (b : Model) (n m : ℕ) → (is_closed b.stage ≡ false → pending_at b.stage ≡ 0 → b.stage ≡ between)
    → model_answer (ends e) b n m ≡ ok tt → Ended e b n
ends_inv e b n m h q =
    let far = ltb 255 (back_to e b) in
    let wide = ltb (model_room b n) (length (emit (form_of (length (model_bytes b)) (part 15 e 0 [])))) in
    let end = leb (min n LIMIT) (length (model_bytes b)) in
    first_of_by (is_closed b.stage) (ltb 0 (pending_at b.stage)) false (not (among e (model_starts b)))
    (far && leb m (length b.finished)) (pick far wide end) (sym (answer_close e b n m h) ∙ q)
    (λ unclosed none text names full room. record {
      unclosed = unclosed;
      none = omega facts;
      names = not-false _ names;
      far = λ h. ltb-false _ _ (rw (lt-ltb 255 (back_to e b) h) at room);
      near = λ h. leb-false _ _ (rw (le-ltb 255 (back_to e b) h) at room);
    })

-- ---- what it leaves

module _ (P : Part → Type 0) (vs : List ModelValue) where
  grown_good : (g : Stage) (p : Part) → is_closed g ≡ false → Staged P vs g → Fit P vs p → (0 < pending_at g → immediate (rule p.kind) ≡ true)
      → GoodValue P vs (grown g p)
  grown_good between p o s f flat = record { head = f; items = tt; taken = omega arith }
  grown_good (within v) p o s f flat = record {
    head = s.0.head;
    items = (each_append _ v.items (p ∷ [])).1 (s.0.items, ((f, flat s.1), tt));
    taken = omega (arith, s.1, length-append v.items (p ∷ []));
  }
  grown_good (closed d) p o s f flat = absurd (true≢false o)

  -- no value is open
  stage_between : (g : Stage) → Staged P vs g → is_closed g ≡ false → pending_at g ≡ 0 → g ≡ between
  stage_between between s o z = refl
  stage_between (within v) s o z = absurd (omega (arith, s.1))
  stage_between (closed d) s o z = absurd (true≢false o)

  module _ (f : Finished P [] vs) where
    finished_snoc : (v : ModelValue) → GoodValue P vs v → pending_in v ≡ 0 → Finished P [] (vs ++ (v ∷ []))
    finished_snoc v g z = (finished_append P [] vs (v ∷ [])).1 (f, ((g, z), tt))

    invariant_settle : (v : ModelValue) → GoodValue P vs v → length (region (values_at 0 (vs ++ (v ∷ [])))) ≤ LIMIT → ModelInvariant P (settle vs v)
    invariant_settle v g short =
        pick_elim (λ b. length (model_bytes b) ≤ LIMIT → ModelInvariant P b) (eqb (pending_in v) 0)
        (λ none s. record { finished = finished_snoc v g (eqb-true _ _ none); stage = tt; short = s })
        (λ some s. let left : pending_in v ≡ 0 → ⊥ = eqb-false _ _ some in record { finished = f; stage = (g, omega arith); short = s })
        (rw (bytes_settle vs v) short)

    closes : (e d : ℕ) → among e (starts 0 (values_at 0 vs)) ≡ true → e + d + 1 ≡ end_of vs → end_of vs < LIMIT → Closes P vs d e
    closes e d names named short =
        let long = ap length (bytes_closed vs d) ∙ length-append (region (values_at 0 vs)) (d ∷ []) in
        record { kept = record { finished = f; stage = (e, names, named); short = omega arith }; named = named }

module _ (P : Part → Type 0) (b : Model) (n m : ℕ) (k : ModelInvariant P b) where
  fit : (p : Part) → P p → (14 ≤ p.kind → among p.number (model_starts b) ≡ true) → Fit P b.finished p
  unfolding model_starts
  fit p own names = record { own = own; names = names }

  invariant_adds : (p : Part) → (Clear p → P p) → model_answer (adds p) b n m ≡ ok tt → ModelInvariant P (model_after (adds p) b)
  invariant_adds p own q =
      let a = adds_inv p b n m q in
      let f = fit p (own a.text) a.names in
      let long = ap length (bytes_grown b.finished b.stage p a.unclosed) ∙ length-append (model_bytes b) (emit (form_of (length (model_bytes b)) p)) in
      invariant_settle P b.finished k.finished (grown b.stage p)
      (grown_good P b.finished b.stage p a.unclosed k.stage f a.flat) (omega (arith, long, a.room))

  module _ (e : ℕ) (q : model_answer (ends e) b n m ≡ ok tt) where
    abbrev vs : List ModelValue
    vs = b.finished

    abbrev w : ℕ
    w = length (model_bytes b)

    ended : Ended e b n
    ended = ends_inv e b n m (stage_between P vs b.stage k.stage) q

    same : model_bytes b ≡ model_bytes (model vs between)
    same = let a = ended in ap (λ g. model_bytes (model vs g)) (stage_between P vs b.stage k.stage a.unclosed a.none)

    end : w ≡ end_of vs
    end = ap length (same ∙ bytes_between vs)

    pub closes_near : back_to e b ≤ 255 → Closes P vs (back_to e b) e
    unfolding model_starts
    closes_near h =
        let a = ended in
        closes P vs k.finished e (back_to e b) a.names (omega (arith, start_lt vs e a.names, end)) (omega (arith, a.near h, end))

    pub closes_far : P (part 15 e 0 []) → 255 < back_to e b
        → Closes P (vs ++ (model_value (part 15 e 0 []) [] ∷ [])) (length (emit (form_of w (part 15 e 0 []))) - 1) w
    unfolding rule
    closes_far own h =
        let a = ended in
        let p = part 15 e 0 [] in
        let v = model_value p [] in
        let long = ap length (rw (← same) at (bytes_grown vs between p refl)) ∙ length-append (model_bytes b) (emit (form_of w p)) in
        let g : GoodValue P vs v = record { head = fit p own (λ _. a.names); items = tt; taken = omega arith } in
        closes P (vs ++ (v ∷ [])) (finished_snoc P vs k.finished v g (omega arith)) w _ (rw end (start_last vs v))
        (omega (arith, long, emit_pos (form_of w p))) (omega (arith, long, emit_pos (form_of w p), a.far h))

    invariant_ends : P (part 15 e 0 []) → ModelInvariant P (model_after (ends e) b)
    invariant_ends own =
        pick_elim (ModelInvariant P) (ltb 255 (back_to e b)) (λ far. (closes_far own (ltb-true _ _ far)).kept) (λ near. (closes_near (ltb-false _ _ near)).kept)

  invariant_request : (l : Request) → (Clear (added_by l) → P (added_by l)) → model_answer l b n m ≡ ok tt → ModelInvariant P (model_after l b)
  invariant_request (adds p) own q = invariant_adds p own q
  invariant_request (ends e) own q = invariant_ends e q (own (λ four. absurd (omega arith)))

-- ---- lists of calls

invariant_kept : (P : Part → Type 0) (v : Verdict) (b next : Model) → (v ≡ ok tt → ModelInvariant P next)
    → ModelInvariant P b → ModelInvariant P (unless_refused v b next)
invariant_kept P (ok u) b next f k = f refl
invariant_kept P (error e) b next f k = k

invariant_from : (P : Part → Type 0) (cs : List Call) → Each (λ c. Clear (added_by (request_of c)) → P (added_by (request_of c))) cs → (b : Model) (n m : ℕ)
    → ModelInvariant P b → ModelInvariant P (model_run cs b n m).model
unfolding model_run
invariant_from P [] own b n m k = k
invariant_from P (c ∷ cs) own b n m k =
    invariant_from P cs own.1 _ n m (invariant_kept P (model_answer (request_of c) b n m) b _ (invariant_request P b n m k (request_of c) own.0) k)

pub invariant_run : (P : Part → Type 0) (cs : List Call) → Each (λ c. Clear (added_by (request_of c)) → P (added_by (request_of c))) cs → (n m : ℕ)
    → ModelInvariant P (model_run cs empty_model n m).model
unfolding model_bytes region values_at
invariant_run P cs own n m = invariant_from P cs own empty_model n m (record { finished = tt; stage = tt; short = omega arith })

pub invariant_any : (cs : List Call) (n m : ℕ) → ModelInvariant (λ p. Unit {0}) (model_run cs empty_model n m).model
invariant_any cs n m = invariant_run _ cs (each_all _ (λ c t. tt) cs) n m
