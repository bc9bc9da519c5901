-- The reference model takes the calls that write a well-formed file's values again, and yields the file.
--
-- In order: calls that lead from one model to another (`Leads`); a token's part is taken (`answered`); where a value
-- ends that got one part more, and where the values end, and start, with one more; the items of a value, a value and
-- values are taken, and the close; a program can make the calls (`calls_given`); the model yields the file
-- (`model_rewrites`).
use mathlib.Core.Path.{◌≡◌, refl, sym, ap, ◌∙◌, subst}
use mathlib.Core.Bool.{Bool, true, false, not, ◌&&◌, and-false}
use mathlib.Core.List.{List, [], ◌∷◌, ◌++◌, append-nil}
use Prim.Native.Nat.{ℕ, ◌+◌, ◌≤◌, ◌<◌, min}
use native.Mathlib.Nat.{zero-add}
use native.Mathlib.Omega.{arith}
use lib.Dec.{eqb, ltb, leb}
use lib.ListN.{length, length-append}
use lib.Seq.{append_snoc}
use borrow.Author.Tests.{lt-leb, le-ltb, leb-true, eqb-true, ne_eqb}
use Rattle.prelude.specs.Answer.{ok}
use Rattle.prelude.specs.Bytes.{Bytes}
use Rattle.prelude.specs.Search.{among}
use Rattle.prelude.specs.Each.{Each}
use Rattle.prelude.proofs.Tests.{split, unless}
use Rattle.prelude.proofs.Parts.{bytes_after, bytes_front}
use Rattle.prelude.proofs.Lists.{each_append}
use Rattle.error.specs.Error.{LIMIT}
use Rattle.leb128.specs.declared.Mode.TheVariants.{Strict}
use Rattle.utf8.specs.Text.{is_text}
use Rattle.utf8.proofs.Laws.{text_is_text}
use Rattle.kind.specs.Kind.{rule, pending, immediate}
use Rattle.token.specs.Token.{Token, emit}
use Rattle.values.specs.Values.{Value, tokens, bytes, region, starts, Sound, Item, Formed, HasTarget, HasTargets, TargetsEarlier, WellFormed}
use Rattle.values.proofs.Members.{each_imp}
use Rattle.values.proofs.Laws.{bytes_append, region_append, starts_append, items_room}
use Rattle.writer.specs.Call.{Call, close}
use Rattle.writer.specs.Given.{Given}
use Rattle.guarantees_writer.specs.Model.{Part, ModelValue, model_value, form_of, forms_of, values_at, Request, adds, ends, request_of}
use Rattle.guarantees_writer.specs.Model.{between, within, closed, Model, model, empty_model, end_of, back_to, model_bytes, model_starts}
use Rattle.guarantees_writer.specs.Model.{pending_in, pending_at, grown, is_closed, first_of, model_answer, settle, model_after}
use Rattle.guarantees_writer.specs.History.{model_run}
use Rattle.guarantees.specs.Rewrites.{call_of, calls_at, calls_of, rewriting}
use Rattle.guarantees_writer.specs.History.{AllOk}
use Rattle.guarantees_writer.proofs.Lists.{model_run_append}
use Rattle.guarantees_writer.proofs.Models.{target_each, forms_append, values_snoc, region_snoc, bytes_between, bytes_closed, model_room, answer_part}
use Rattle.guarantees_writer.proofs.Models.{answer_close}
use Rattle.guarantees.proofs.RewritesRead.{part_of, parts_of, model_value_of, model_values_of, form_part, value_model, values_models, request_call, call_given}

-- ---- lists of calls

-- the calls cs, each answered `ok`, lead from the model b to the model d
pub record Leads (n m : ℕ) (cs : List Call) (b d : Model) : Type 0 where
  pub oks : AllOk (model_run cs b n m).answers
  pub model : (model_run cs b n m).model ≡ d

module _ (n m : ℕ) where
  leads_none : (b : Model) → Leads n m [] b b
  unfolding model_run
  leads_none b = record { oks = tt; model = refl }

  leads_cons : (c : Call) (cs : List Call) (l : Request) (b d : Model) → request_of c ≡ l → model_answer l b n m ≡ ok tt → Leads n m cs (model_after l b) d
      → Leads n m (c ∷ cs) b d
  unfolding model_run
  leads_cons c cs l b d e j more =
      let v : model_answer (request_of c) b n m ≡ ok tt = rw e j in
      record { oks = rw v (refl, rw e more.oks); model = rw (v, e) more.model }

  leads_append : (a c : List Call) (b d e : Model) → Leads n m a b d → Leads n m c d e → Leads n m (a ++ c) b e
  leads_append a c b d e first more =
      let all = model_run_append a c b n m in
      let second = rw (← first.model) at more in
      record {
        oks = rw all ((each_append (λ v. v ≡ ok tt) (model_run a b n m).answers _).1 (first.oks, second.oks));
        model = rw all second.model;
      }

-- ---- the part of a token

-- a part has as many items as its token
pending_part : (q : ℕ) (t : Token) → pending_in (model_value (part_of q t) []) ≡ pending (rule t.kind) t.n t.args
unfolding part_of
pending_part q t =
    split t.kind 14 (λ l. rw (lt-leb 14 t.kind l) (omega arith)) (λ l. rw (target_each t.kind l) (omega arith))

pub bytes_body : (t : Token) → Bytes (emit t) → Bytes t.body
unfolding emit
bytes_body t b = bytes_after t.args_bytes t.body (bytes_after t.n_bytes _ b.1)

first_ok : {a b c d e f : Bool} → a ≡ false → b ≡ false → c ≡ false → d ≡ false → e ≡ false → f ≡ false → first_of a b c d e f ≡ ok tt
first_ok a b c d e f = rw (a, b, c, d, e, f)

-- t's part at q, after the bytes of b
answered : (n m : ℕ) (b : Model) (q : ℕ) (t : Token) → length (model_bytes b) ≡ q → Sound Strict t → HasTarget (model_starts b) q t → is_closed b.stage ≡ false
    → (not (immediate (rule t.kind)) && ltb 0 (pending_at b.stage)) ≡ false → (eqb (pending_at b.stage) 0 && leb m (length b.finished)) ≡ false
    → q + (length (emit t) + pending_in (grown b.stage (part_of q t))) < min n LIMIT → model_answer (adds (part_of q t)) b n m ≡ ok tt
unfolding part_of
answered n m b q t at s r unclosed late full room =
    let p = part_of q t in
    let own = form_of (length (model_bytes b)) p in
    let form : own ≡ t = rw at (form_part q t s.spelled (λ k. (r k).0)) in
    answer_part p b n m
    ∙ first_ok unclosed late (unless (eqb t.kind 4) (is_text t.body) (λ e. text_is_text (s.text (eqb-true _ _ e))))
    (unless (leb 14 t.kind) (among p.number (model_starts b)) (λ e. rw e (r (leb-true _ _ e)).1))
    full (le-ltb (model_room b n) (length (emit own) + pending_in (grown b.stage p)) (omega (arith, ap (λ x. length (emit x)) form)))

-- ---- a value as far as it got

end_snoc : (done : List ModelValue) (h : Part) (is : List Part)
    → end_of (done ++ (model_value h is ∷ [])) ≡ end_of done + length (bytes (forms_of (end_of done) (h ∷ is)))
unfolding forms_of
end_snoc done h is = ap length (region_snoc done (model_value h is)) ∙ length-append (region (values_at 0 done)) _

-- one part more
forms_snoc : (e : ℕ) (ps : List Part) (p : Part) (q : ℕ) → e + length (bytes (forms_of e ps)) ≡ q
    → e + length (bytes (forms_of e (ps ++ (p ∷ [])))) ≡ q + length (emit (form_of q p))
unfolding forms_of bytes
forms_snoc e ps p q at =
    let last = form_of q p in
    rw (forms_append e ps (p ∷ []), at, bytes_append (forms_of e ps) (last ∷ []), append-nil (emit last), length-append (bytes (forms_of e ps)) (emit last))
    (omega arith)

end_begun : (done : List ModelValue) (p : Part) → end_of (done ++ (model_value p [] ∷ [])) ≡ end_of done + length (emit (form_of (end_of done) p))
unfolding forms_of bytes
end_begun done p = end_snoc done p [] ∙ forms_snoc (end_of done) [] p (end_of done) (omega arith)

end_grown : (done : List ModelValue) (h : Part) (is : List Part) (p : Part) (q : ℕ) → end_of (done ++ (model_value h is ∷ [])) ≡ q
    → end_of (done ++ (model_value h (is ++ (p ∷ [])) ∷ [])) ≡ q + length (emit (form_of q p))
end_grown done h is p q at = end_snoc done h (is ++ (p ∷ [])) ∙ forms_snoc (end_of done) (h ∷ is) p q (sym (end_snoc done h is) ∙ at)

bytes_open : (done : List ModelValue) (v : ModelValue) → length (model_bytes (model done (within v))) ≡ end_of (done ++ (v ∷ []))
unfolding model_bytes
bytes_open done v = ap length (append-nil (region (values_at 0 (done ++ (v ∷ [])))))

-- ---- one value more

module _ (done : List ModelValue) (q : ℕ) (listed : List ℕ) (v : Value) (at : end_of done ≡ q) (f : Formed Strict v) (a : HasTargets listed q (tokens v)) where
  values_one : values_at 0 (done ++ (model_value_of q v ∷ [])) ≡ values_at 0 done ++ (v ∷ [])
  values_one = values_snoc done (model_value_of q v) ∙ rw at (ap (λ x. values_at 0 done ++ (x ∷ [])) (value_model listed q v f a))

  end_one : end_of (done ++ (model_value_of q v ∷ [])) ≡ q + length (bytes (tokens v))
  unfolding region
  end_one = ap (λ vs. length (region vs)) values_one ∙ rw (region_append (values_at 0 done) (v ∷ []), append-nil, length-append, at)

  starts_one : starts 0 (values_at 0 done) ≡ listed → starts 0 (values_at 0 (done ++ (model_value_of q v ∷ []))) ≡ listed ++ (q ∷ [])
  unfolding starts
  starts_one e = ap (starts 0) values_one ∙ rw (starts_append 0 (values_at 0 done) (v ∷ []), e, zero-add, at)

-- ---- values are taken

module _ (n m : ℕ) where
  -- the value v, as far as it got, takes the items ts, its last
  takes_items : (done : List ModelValue) (v : ModelValue) (q : ℕ) (ts : List Token) → end_of (done ++ (v ∷ [])) ≡ q → pending_in v ≡ length ts
      → Each (Item Strict) ts
      → HasTargets (starts 0 (values_at 0 done)) q ts → Bytes (bytes ts) → q + length (bytes ts) < min n LIMIT
      → Leads n m (calls_at q ts) (settle done v) (model (done ++ (model_value v.head (v.items ++ parts_of q ts) ∷ [])) between)
  unfolding calls_at parts_of bytes model_starts
  takes_items done v q [] at left i a b room = rw (left, append-nil v.items) (leads_none n m _)
  takes_items done v q (t ∷ ts) at left i a b room =
      let p = part_of q t in
      let w = model_value v.head (v.items ++ (p ∷ [])) in
      let long = length-append (emit t) (bytes ts) in
      let next : end_of (done ++ (w ∷ [])) ≡ q + length (emit t) =
      end_grown done v.head v.items p q at ∙ rw (form_part q t i.0.sound.spelled (λ k. (a.0 k).0)) in
      let less : pending_in w ≡ length ts = omega (arith, length-append v.items (p ∷ [])) in
      let due : eqb (pending_in v) 0 ≡ false = ne_eqb (pending_in v) 0 (λ z. omega arith) in
      let more = takes_items done w (q + length (emit t)) ts next less i.1 a.1 (bytes_after (emit t) (bytes ts) b) (omega arith) in
      rw due (leads_cons n m (call_of q t) (calls_at (q + length (emit t)) ts) (adds p) (model done (within v)) _
      (request_call q t i.0.sound.allowed (bytes_body t (bytes_front (emit t) (bytes ts) b)))
      (answered n m (model done (within v)) q t (bytes_open done v ∙ at) i.0.sound a.0 refl (rw i.0.immediate) (rw due)
      (omega (arith, items_room ts)))
      (rw (append_snoc v.items p (parts_of (q + length (emit t)) ts)) at more))

  takes_value : (done : List ModelValue) (q : ℕ) (v : Value) → end_of done ≡ q → Formed Strict v → HasTargets (starts 0 (values_at 0 done)) q (tokens v)
      → Bytes (bytes (tokens v)) → q + length (bytes (tokens v)) < min n LIMIT → length done < m
      → Leads n m (calls_at q (tokens v)) (model done between) (model (done ++ (model_value_of q v ∷ [])) between)
  unfolding calls_at bytes model_starts
  takes_value done q v at f a b room word =
      let t = v.head in
      let p = part_of q t in
      let long = length-append (emit t) (bytes v.items) in
      let next : end_of (done ++ (model_value p [] ∷ [])) ≡ q + length (emit t) =
      end_begun done p ∙ rw (at, form_part q t f.head.spelled (λ k. (a.0 k).0)) in
      let count : pending_in (model_value p []) ≡ length v.items = pending_part q t ∙ sym f.count in
      leads_cons n m (call_of q t) (calls_at (q + length (emit t)) v.items) (adds p) (model done between) _
      (request_call q t f.head.allowed (bytes_body t (bytes_front (emit t) (bytes v.items) b)))
      (answered n m (model done between) q t (ap length (bytes_between done) ∙ at) f.head a.0 refl (and-false (not (immediate (rule t.kind))))
      (lt-leb m (length done) word) (omega (arith, items_room v.items)))
      (takes_items done (model_value p []) (q + length (emit t)) v.items next count f.items a.1 (bytes_after (emit t) (bytes v.items) b)
      (omega arith))

  takes_values : (done : List ModelValue) (q : ℕ) (listed : List ℕ) (vs : List Value) → end_of done ≡ q → starts 0 (values_at 0 done) ≡ listed
      → Each (Formed Strict) vs → TargetsEarlier listed q vs → Bytes (region vs) → q + length (region vs) < min n LIMIT → length done + length vs ≤ m
      → Leads n m (calls_of q vs) (model done between) (model (done ++ model_values_of q vs) between)
  unfolding calls_of model_values_of region
  takes_values done q listed [] at start f a b room words = rw (append-nil done) (leads_none n m _)
  takes_values done q listed (v ∷ vs) at start f a b room words =
      let w = model_value_of q v in
      let own = bytes (tokens v) in
      let long = length-append own (region vs) in
      let first = takes_value done q v at f.0 (subst (λ l. HasTargets l q (tokens v)) (sym start) a.0)
      (bytes_front own (region vs) b) (omega arith) (omega arith) in
      let more = takes_values (done ++ (w ∷ [])) (q + length own) (listed ++ (q ∷ [])) vs (end_one done q listed v at f.0 a.0)
      (starts_one done q listed v at f.0 a.0 start) f.1 a.1 (bytes_after own (region vs) b) (omega arith)
      (omega (arith, length-append done (w ∷ []))) in
      leads_append n m (calls_at q (tokens v)) (calls_of (q + length own) vs) _ _ _ first (rw append_snoc at more)

  -- the delta byte reaches back to the entry
  takes_close : (done : List ModelValue) (vs : List Value) (entry delta : ℕ) → values_at 0 done ≡ vs → entry + delta + 1 ≡ length (region vs) → delta < 256
      → among entry (starts 0 vs) ≡ true → length (region vs) < min n LIMIT
      → Leads n m (close entry ∷ []) (model done between) (model done (closed delta))
  unfolding model_starts
  takes_close done vs entry delta same named near start room =
      let b = model done between in
      let long : length (model_bytes b) ≡ length (region vs) = ap length (bytes_between done) ∙ ap (λ l. length (region l)) same in
      let back : back_to entry b ≡ delta = omega arith in
      let reach : ltb 255 (back_to entry b) ≡ false = le-ltb 255 (back_to entry b) (omega arith) in
      let left : leb (min n LIMIT) (length (model_bytes b)) ≡ false = lt-leb (min n LIMIT) (length (model_bytes b)) (omega arith) in
      let known : among entry (model_starts b) ≡ true = ap (λ l. among entry (starts 0 l)) same ∙ start in
      let after : model_after (ends entry) b ≡ model done (closed delta) = rw (reach, back) in
      leads_cons n m (close entry) [] (ends entry) b _ refl (answer_close entry b n m (λ _ _. refl) ∙ rw (known, reach, left)) (rw after (leads_none n m _))

-- ---- that a program can make the calls

given_tokens : (q : ℕ) (ts : List Token) → Each (Sound Strict) ts → Bytes (bytes ts) → Each Given (calls_at q ts)
unfolding calls_at bytes
given_tokens q [] s b = tt
given_tokens q (t ∷ ts) s b = (
  call_given q t s.0.allowed (bytes_body t (bytes_front (emit t) (bytes ts) b)),
  given_tokens (q + length (emit t)) ts s.1 (bytes_after (emit t) (bytes ts) b),
)

given_values : (q : ℕ) (vs : List Value) → Each (Formed Strict) vs → Bytes (region vs) → Each Given (calls_of q vs)
unfolding calls_of region
given_values q [] f b = tt
given_values q (v ∷ vs) f b =
    let own = bytes (tokens v) in
    let sound : Each (Sound Strict) (tokens v) = (f.0.head, each_imp (Item Strict) (Sound Strict) (λ t i. i.sound) v.items f.0.items) in
    (each_append Given (calls_at q (tokens v)) (calls_of (q + length own) vs)).1
    (given_tokens q (tokens v) sound (bytes_front own (region vs) b), given_values (q + length own) vs f.1 (bytes_after own (region vs) b))

-- ---- the file

module _ (file : List ℕ) (vs : List Value) (entry : ℕ) (w : WellFormed Strict file vs entry) (b : Bytes file) where
  bytes_region : Bytes (region vs)
  bytes_region = bytes_front (region vs) (w.delta ∷ []) (subst Bytes w.same b)

  delta_lt : w.delta < 256
  delta_lt = (bytes_after (region vs) (w.delta ∷ []) (subst Bytes w.same b)).0

  pub calls_given : Each Given (rewriting vs entry)
  calls_given = (each_append Given (calls_of 0 vs) (close entry ∷ [])).1 (given_values 0 vs w.values.formed bytes_region, (tt, tt))

  module _ (n m : ℕ) (out : length file ≤ n) (table : length vs ≤ m) where
    -- the model's values are the file's, and its delta is the file's
    pub leads_file : Leads n m (rewriting vs entry) empty_model (model (model_values_of 0 vs) (closed w.delta))
    unfolding values_at region starts
    leads_file =
        let long : length file ≡ length (region vs) + 1 = ap length w.same ∙ length-append (region vs) (w.delta ∷ []) in
        let room : 0 + length (region vs) < min n LIMIT = omega (arith, w.short) in
        let values = takes_values n m [] 0 [] vs refl refl w.values.formed w.values.targets bytes_region room (omega arith) in
        leads_append n m (calls_of 0 vs) (close entry ∷ []) _ _ _ values
        (takes_close n m (model_values_of 0 vs) vs entry w.delta (values_models [] 0 vs w.values.formed w.values.targets) w.named delta_lt
        w.start (omega arith))

    pub model_rewrites : let k = model_run (rewriting vs entry) empty_model n m in
        AllOk k.answers × (model_bytes k.model ≡ file) × (model_starts k.model ≡ starts 0 vs)
    unfolding model_starts
    model_rewrites =
        let same = values_models [] 0 vs w.values.formed w.values.targets in (
          leads_file.oks,
          ap model_bytes leads_file.model ∙ bytes_closed (model_values_of 0 vs) w.delta ∙ rw same (sym w.same),
          ap model_starts leads_file.model ∙ ap (starts 0) same,
        )
