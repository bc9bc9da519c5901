-- The writer does what the reference model says, over every list of calls.
--
-- In order: a call of the writer is a request to the model; a writer that follows the model gives its answers; what an
-- accepted part and an accepted close leave; one call (`step_follows`), a list of calls from any writer that follows a model
-- (`history_from`), and from a new writer (`history`).
use mathlib.Core.Path.{◌≡◌, refl, sym, ap, ◌∙◌, subst}
use mathlib.Core.Bool.{Bool, true, false, not, ◌&&◌, true≢false}
use mathlib.Core.List.{List, [], ◌∷◌, ◌++◌}
use Prim.Native.Nat.{ℕ, suc, ◌+◌, ◌-◌, ◌≤◌, ◌<◌}
use native.Mathlib.Omega.{arith}
use lib.Dec.{eqb, ltb, leb}
use lib.IntN.{pos, negsuc}
use lib.ListN.{length, take, set, length-append}
use lib.Seq.{sets, length-sets, length-take-le, take-suc-set}
use borrow.Author.Tests.{eqb-true, eqb-false, leb-true, leb-false, ltb-false, le-ltb, lt-ltb, le-leb, lt-leb, eq-eqb, ne_eqb}
use Rattle.prelude.specs.Pick.{pick}
use Rattle.prelude.specs.Answer.{ok, error}
use Rattle.prelude.specs.Search.{among}
use Rattle.prelude.proofs.Tests.{pick_elim, pick_cong, split, and_implied}
use Rattle.prelude.proofs.Lists.{take_sets}
use Rattle.kind.specs.Kind.{rule, pending, due}
use Rattle.token.specs.Token.{token, emit}
use Rattle.values.specs.Values.{bytes, region, starts}
use Rattle.writer_refusal.specs.Refusal.{is_listed, limit, Verdict, refusal_of}
use Rattle.writer_refusal.specs.declared.State.{State}
use Rattle.writer_refusal.proofs.Refusals.{sound, not_bad}
use Rattle.writer.specs.Call.{Call, scalar, integer, float32, float64, text, bytes as byte_string, variant, reference, pointer, open_array, open_map, open_tag}
use Rattle.writer.specs.Call.{open_variant1, open_variant_n, close}
use Rattle.writer.specs.Step.{Move, puts, closes, move_of, fresh, opens, pending_of, token_refusal, delta_refusal, Result, start_of, write, write_delta}
use Rattle.writer.specs.Step.{write_pointer_delta, settled, put_token, close_at, move, step}
use Rattle.writer.specs.Runs.{runs}
use Rattle.writer.specs.declared.Scalar.TheVariants.{False, True, Null}
use Rattle.writer.proofs.Accepted.{Accepted, token_inv, free_word, room_after, none_pending, delta_inv, delta_fits}
use Rattle.writer.proofs.Refused.{refused_same}
use Rattle.guarantees_writer.proofs.Calls.{accepted_only}
use Rattle.guarantees_writer.proofs.Results.{write_open}
use Rattle.guarantees_writer.proofs.Errors.{fresh_not_bad}
use Rattle.guarantees_writer.specs.Model.{Part, part, Request, adds, ends, request_of, form_of, ModelValue, model_value, values_at}
use Rattle.guarantees_writer.specs.Model.{Stage, between, within, closed, Model, model, empty_model, model_bytes, model_starts}
use Rattle.guarantees_writer.specs.Model.{end_of, is_closed, pending_in, pending_at, grown, settle, model_answer, model_after, back_to}
use Rattle.guarantees_writer.specs.History.{model_run, unless_refused, Agree, Started, Follows, Alike}
use Rattle.guarantees_writer.proofs.Models.{pending_form, length_starts_of, starts_snoc, start_lt, bytes_between}
use Rattle.guarantees_writer.proofs.Models.{bytes_closed, end_le, bytes_grown, bytes_settle, answer_part, answer_close}

-- ---- a call of the writer is a request to the model

abbrev pub move_as : ℕ → Request → Move
move_as w (adds p) = puts (form_of w p) (pick (leb 14 p.kind) p.number 0)
move_as w (ends e) = closes e

pub move_request : (c : Call) (w : ℕ) → move_of c w ≡ move_as w (request_of c)
unfolding form_of
move_request (scalar False) w = refl
move_request (scalar True) w = refl
move_request (scalar Null) w = refl
move_request (integer (pos n)) w = refl
move_request (integer (negsuc n)) w = refl
move_request (float32 b) w = refl
move_request (float64 b) w = refl
move_request (text s) w = refl
move_request (byte_string s) w = refl
move_request (open_array n) w = refl
move_request (open_map n) w = refl
move_request (open_tag n) w = refl
move_request (variant i) w = refl
move_request (open_variant1 i) w = refl
move_request (open_variant_n i n) w = refl
move_request (reference x) w = refl
move_request (pointer x) w = refl
move_request (close e) w = refl

-- ---- the writer follows the model

module _ (s : State) (out table : List ℕ) (b : Model) (f : Follows s out table b) where
  listed_same : (x : ℕ) → is_listed s table x ≡ among x (model_starts b)
  unfolding model_starts
  listed_same x =
      rw f.agree.starts (and_implied (ltb x s.written) (among x (model_starts b)) (λ e.
      lt-ltb x s.written (omega (arith, start_lt b.finished x e, end_le b.finished b.stage, f.agree.written))))

  target_same : (t : Bool) (x : ℕ) → t && not (is_listed s table (pick t x 0)) ≡ t && not (among x (model_starts b))
  target_same true x = ap not (listed_same x)
  target_same false x = refl

  count_same : s.count ≡ length b.finished
  count_same = f.agree.count ∙ length_starts_of b

-- the items pending after the next part, if the model is not closed
due_same : (s : State) (vs : List ModelValue) (g : Stage) (q : ℕ) (p : Part) → Started s vs g → is_closed g ≡ false
    → due (pending_at g) (pending_of (form_of q p)) ≡ pending_in (grown g p)
due_same s vs between q p h c = omega (arith, pending_form q p)
due_same s vs (within v) q p h c = rw (ne_eqb (pending_in v) 0 (λ z. omega (arith, h.0)), length-append v.items (p ∷ [])) (omega arith)
due_same s vs (closed d) q p h c = absurd (true≢false c)

-- where the value starts that the next part belongs to
start_same : (s : State) (out table : List ℕ) (vs : List ModelValue) (g : Stage) → Follows s out table (model vs g) → is_closed g ≡ false → start_of s ≡ end_of vs
start_same s out table vs between f c = rw f.agree.pending (f.agree.written ∙ ap length (bytes_between vs))
start_same s out table vs (within v) f c = rw (f.agree.pending, ne_eqb (pending_in v) 0 (λ z. omega (arith, f.started.0))) f.started.1
start_same s out table vs (closed d) f c = absurd (true≢false c)

-- nothing is pending and there was no close: no value is open
stage_between : (s : State) (vs : List ModelValue) (g : Stage) → Started s vs g → is_closed g ≡ false → pending_at g ≡ 0 → g ≡ between
stage_between s vs between h o z = refl
stage_between s vs (within v) h o z = absurd (omega (arith, h.0))
stage_between s vs (closed d) h o z = absurd (true≢false o)

-- ---- the answers

pub settled_answer : (v : Verdict) (s : State) (out table : List ℕ) (r : Result) → r.answer ≡ ok tt → (settled v s out table r).answer ≡ v
settled_answer (ok tt) s out table r e = e
settled_answer (error g) s out table r e = refl

module _ (s : State) (out table : List ℕ) (b : Model) (f : Follows s out table b) where
  part_same : (p : Part) → let w = s.written in let t = form_of w p in
      token_refusal (opens t) t (pick (leb 14 p.kind) p.number 0) s out table ≡ model_answer (adds p) b (length out) (length table)
  unfolding token_refusal refusal_of form_of
  part_same p =
      rw (
        answer_part p b (length out) (length table),
        f.good,
        f.agree.closed,
        f.agree.pending,
        target_same s out table b f (leb 14 p.kind) p.number,
        count_same s out table b f,
        f.agree.written,
      )
      (pick_cong (is_closed b.stage) (λ _. refl) (λ c. rw (due_same s b.finished b.stage (length (model_bytes b)) p f.started c)))

  -- a close by the delta byte
  near_same : (e : ℕ) → s.written - e - 1 ≤ 255 → delta_refusal e s out table ≡ model_answer (ends e) b (length out) (length table)
  unfolding delta_refusal refusal_of
  near_same e h =
      let back : back_to e b ≤ 255 = omega (arith, f.agree.written) in
      rw (
        answer_close e b (length out) (length table) (stage_between s b.finished b.stage f.started),
        f.good,
        f.agree.closed,
        f.agree.pending,
        listed_same s out table b f e,
        f.agree.written,
        le-ltb 255 (back_to e b) back,
      )

  -- a close by a pointer
  far_same : (e : ℕ) → 255 < s.written - e - 1
      → token_refusal true (token 15 (s.written - e - 1) 0 []) e s out table ≡ model_answer (ends e) b (length out) (length table)
  unfolding token_refusal refusal_of form_of rule
  far_same e h =
      let back : 255 < back_to e b = omega (arith, f.agree.written) in
      rw (
        answer_close e b (length out) (length table) (stage_between s b.finished b.stage f.started),
        f.good,
        f.agree.closed,
        f.agree.pending,
        listed_same s out table b f e,
        count_same s out table b f,
        f.agree.written,
        lt-ltb 255 (back_to e b) back,
      )
      (pick_cong (is_closed b.stage) (λ _. refl) (λ _. pick_cong (ltb 0 (pending_at b.stage)) (λ _. refl) (λ n.
      let none : pending_at b.stage ≡ 0 = omega (arith, ltb-false 0 (pending_at b.stage) n) in
      let t = token 15 (back_to e b) 0 [] in
      let all : length (emit t) + pending_of t ≡ length (emit t) = omega arith in
      rw (none, all))))

-- ---- what an accepted part leaves

-- the start is listed if the value is finished
module _ (vs : List ModelValue) (g : Stage) (v : ModelValue) (table : List ℕ) (n : ℕ) (word : n < length table)
    (same : take n table ≡ model_starts (model vs g)) where
  starts_listed : (x : Bool) → take (pick x (n + 1) n) (pick x (set table n (end_of vs)) table)
      ≡ model_starts (pick x (model (vs ++ (v ∷ [])) between) (model vs (within v)))
  unfolding model_starts
  starts_listed true =
      let e : n + 1 ≡ suc n = omega arith in
      rw (e, take-suc-set table n (end_of vs) word, same) (sym (starts_snoc vs v))
  starts_listed false = same

  count_listed : (x : Bool) → pick x (n + 1) n ≡ length (model_starts (pick x (model (vs ++ (v ∷ [])) between) (model vs (within v))))
  unfolding model_starts
  count_listed true =
      omega (
        arith,
        ap length (starts_snoc vs v),
        length-append (model_starts (model vs between)) (end_of vs ∷ []),
        ap length same,
        length-take-le n table (omega arith),
      )
  count_listed false = omega (arith, ap length same, length-take-le n table (omega arith))

pending_settled : (k : ℕ) (vs : List ModelValue) (v : ModelValue) → k ≡ pending_in v → k ≡ pending_at (settle vs v).stage
pending_settled k vs v e = pick_elim (λ (b : Model). k ≡ pending_at b.stage) (eqb (pending_in v) 0) (λ z. e ∙ eqb-true (pending_in v) 0 z) (λ _. e)

unclosed_settled : (vs : List ModelValue) (v : ModelValue) → false ≡ is_closed (settle vs v).stage
unclosed_settled vs v = pick_elim (λ (b : Model). false ≡ is_closed b.stage) (eqb (pending_in v) 0) (λ _. refl) (λ _. refl)

started_settled : (s : State) (vs : List ModelValue) (v : ModelValue) → s.start ≡ end_of vs → Started s (settle vs v).finished (settle vs v).stage
started_settled s vs v e =
    pick_elim (λ (b : Model). Started s b.finished b.stage) (eqb (pending_in v) 0) (λ _. tt) (λ z. (omega (arith, eqb-false (pending_in v) 0 z), e))

module _ (s : State) (out table : List ℕ) (vs : List ModelValue) (g : Stage) (f : Follows s out table (model vs g)) (c : is_closed g ≡ false) (p : Part)
    (alone : Bool) (target : ℕ) (a : Accepted alone (form_of s.written p) target s out table) where
  write_agree : let r = write (form_of s.written p) s out table in Agree r.writer r.out r.table (settle vs (grown g p))
  unfolding write
  write_agree =
      let t = form_of s.written p in
      let v = grown g p in
      let left : due s.pending (pending_of t) ≡ pending_in v = rw f.agree.pending (due_same s vs g s.written p f.started c) in
      let start = start_same s out table vs g f c in
      let word = free_word alone t target s out table a in
      let more : model_bytes (settle vs v) ≡ model_bytes (model vs g) ++ emit t = bytes_settle vs v ∙ bytes_grown vs g p c ∙ rw f.agree.written in
      rw (left, start) (record {
        bytes = take_sets out (emit t) s.written (omega (arith, room_after alone t target s out table a)) ∙ rw (f.agree.bytes, more);
        written = omega (arith, ap length more, length-append (model_bytes (model vs g)) (emit t), f.agree.written);
        starts = starts_listed vs g v table s.count word f.agree.starts (eqb (pending_in v) 0);
        count = count_listed vs g v table s.count word f.agree.starts (eqb (pending_in v) 0);
        pending = pending_settled (pending_in v) vs v refl;
        closed = unclosed_settled vs v;
      })

  write_started : let r = write (form_of s.written p) s out table in Started r.writer (settle vs (grown g p)).finished (settle vs (grown g p)).stage
  unfolding write
  write_started = started_settled (write (form_of s.written p) s out table).writer vs (grown g p) (start_same s out table vs g f c)

  write_follows : let r = write (form_of s.written p) s out table in Follows r.writer r.out r.table (settle vs (grown g p))
  write_follows = record {
    agree = write_agree;
    good = (write_open alone (form_of s.written p) target s out table a).good;
    started = write_started;
  }

-- ---- what an accepted close leaves

delta_follows : (d : ℕ) (s : State) (out table : List ℕ) (vs : List ModelValue) → Follows s out table (model vs between) → s.written < limit (length out)
    → let r = write_delta d s out table in Follows r.writer r.out r.table (model vs (closed d))
unfolding write_delta model_starts
delta_follows d s out table vs f byte =
    let h = sound s (length out) (length table) f.good in
    let none = f.agree.pending in
    let same = length-sets out s.written (d ∷ []) in
    let w = f.agree.written ∙ ap length (bytes_between vs) in
    record {
      agree = record {
        bytes = take_sets out (d ∷ []) s.written (omega arith) ∙ rw (f.agree.bytes, bytes_between vs, bytes_closed vs d);
        written = omega (arith, ap length (bytes_closed vs d), length-append (region (values_at 0 vs)) (d ∷ []));
        starts = f.agree.starts;
        count = f.agree.count;
        pending = none;
        closed = refl;
      };
      good = not_bad (write_delta d s out table).writer (length (sets out s.written (d ∷ []))) (length table) (record {
        inside = omega arith;
        short = omega arith;
        listed = h.listed;
        free = λ k. absurd (omega arith);
        begun = λ k. absurd (omega arith);
      });
      started = tt;
    }

module _ (s : State) (out table : List ℕ) (vs : List ModelValue) (f : Follows s out table (model vs between)) (e : ℕ) where
  abbrev closing : Part
  closing = part 15 e 0 []

  far_follows : (a : Accepted true (form_of s.written closing) e s out table)
      → let t = form_of s.written closing in let r = write_pointer_delta t s out table in
      Follows r.writer r.out r.table (model (vs ++ (model_value closing [] ∷ [])) (closed (length (emit t) - 1)))
  unfolding write_pointer_delta write rule
  far_follows a =
      let t = form_of s.written closing in
      let r = write t s out table in
      let one : settle vs (model_value closing []) ≡ model (vs ++ (model_value closing [] ∷ [])) between =
      rw (eq-eqb (pending_in (model_value closing [])) 0 (omega arith)) in
      delta_follows (length (emit t) - 1) r.writer r.out r.table (vs ++ (model_value closing [] ∷ []))
      (subst (Follows r.writer r.out r.table) one (write_follows s out table vs between f refl closing true e a))
      (rw (length-sets out s.written (emit t)) (room_after true t e s out table a))

-- ---- one call

module _ (s : State) (out table : List ℕ) (vs : List ModelValue) (g : Stage) (f : Follows s out table (model vs g)) where
  abbrev b : Model
  b = model vs g

  request_answer : (l : Request) → (move (move_as s.written l) s out table).answer ≡ model_answer l b (length out) (length table)
  unfolding put_token close_at write write_delta write_pointer_delta
  request_answer (adds p) = settled_answer _ s out table _ refl ∙ part_same s out table b f p
  request_answer (ends e) =
      pick_elim (λ (r : Result). r.answer ≡ model_answer (ends e) b (length out) (length table)) (leb (s.written - e - 1) 255)
      (λ near. settled_answer _ s out table _ refl ∙ near_same s out table b f e (leb-true _ 255 near))
      (λ far. settled_answer _ s out table _ refl ∙ far_same s out table b f e (leb-false _ 255 far))

  closing_between : s.closed ≡ false → s.pending ≡ 0 → g ≡ between
  closing_between o z = stage_between s vs g f.started (sym f.agree.closed ∙ o) (sym f.agree.pending ∙ z)

  request_follows : (l : Request) → model_answer l b (length out) (length table) ≡ ok tt
      → let r = move (move_as s.written l) s out table in Follows r.writer r.out r.table (model_after l b)
  unfolding put_token close_at form_of
  request_follows (adds p) o =
      let j = part_same s out table b f p ∙ o in
      let a = token_inv _ _ _ s out table j in
      rw j (write_follows s out table vs g f (sym f.agree.closed ∙ a.granted.unclosed) p _ _ a)
  request_follows (ends e) o =
      split 255 (s.written - e - 1)
      (λ far.
      let j = far_same s out table b f e far ∙ o in
      let a = token_inv _ _ _ s out table j in
      let z = closing_between a.granted.unclosed (none_pending s a.granted.alike) in
      rw (lt-leb (s.written - e - 1) 255 far, j, ← f.agree.written, lt-ltb 255 (s.written - e - 1) far)
      (far_follows s out table vs (subst (λ x. Follows s out table (model vs x)) z f) e a))
      (λ near.
      let j = near_same s out table b f e near ∙ o in
      let n = delta_inv e s out table j in
      let z = closing_between n.granted.unclosed (none_pending s n.granted.alike) in
      rw (le-leb (s.written - e - 1) 255 near, j, ← f.agree.written, le-ltb 255 (s.written - e - 1) near)
      (delta_follows (s.written - e - 1) s out table vs (subst (λ x. Follows s out table (model vs x)) z f) (delta_fits e s out table n)))

module _ (c : Call) (s : State) (out table : List ℕ) (b : Model) (f : Follows s out table b) where
  step_request : step c s out table ≡ move (move_as s.written (request_of c)) s out table
  step_request = ap (λ m. move m s out table) (move_request c s.written)

  step_answer : (step c s out table).answer ≡ model_answer (request_of c) b (length out) (length table)
  step_answer = ap (λ (r : Result). r.answer) step_request ∙ request_answer s out table b.finished b.stage f (request_of c)

  step_follows : let r = step c s out table in
      Follows r.writer r.out r.table (unless_refused (model_answer (request_of c) b (length out) (length table)) b (model_after (request_of c) b))
  step_follows = by_verdict (model_answer (request_of c) b (length out) (length table)) refl
    where
      by_verdict : (v : Verdict) → model_answer (request_of c) b (length out) (length table) ≡ v
          → let r = step c s out table in Follows r.writer r.out r.table (unless_refused v b (model_after (request_of c) b))
      by_verdict (ok tt) e = rw step_request (request_follows s out table b.finished b.stage f (request_of c) e)
      by_verdict (error g) e = rw (refused_same c s out table g (step_answer ∙ e)) f

-- ---- a list of calls

-- output and table keep their lengths
module _ (c : Call) (s : State) (out table : List ℕ) where
  abbrev SameLengths : Result → Type 0
  SameLengths r = (length r.out ≡ length out) × (length r.table ≡ length table)

  step_lengths : SameLengths (step c s out table)
  step_lengths = by_answer (step c s out table).answer refl
    where
      by_answer : (v : Verdict) → (step c s out table).answer ≡ v → SameLengths (step c s out table)
      by_answer (ok tt) e = let o = accepted_only c s out table e in (o.bytes, o.words)
      by_answer (error g) e = rw (refused_same c s out table g e) (refl, refl)

pub runs_lengths : (cs : List Call) (s : State) (out table : List ℕ) → let r = runs cs s out table in
    (length r.out ≡ length out) × (length r.table ≡ length table)
unfolding runs
runs_lengths [] s out table = (refl, refl)
runs_lengths (c ∷ cs) s out table =
    let r = step c s out table in
    let one = step_lengths c s out table in
    let more = runs_lengths cs r.writer r.out r.table in
    (more.0 ∙ one.0, more.1 ∙ one.1)

-- from any writer that follows any model, with an output and a table that it follows it with: it does what the model says, over
-- every list of calls, and follows it after them
pub history_from : (cs : List Call) (s : State) (out table : List ℕ) (b : Model) → Follows s out table b → Alike cs s out table b
unfolding runs model_run
history_from [] s out table b f = record { answers = refl; follows = f }
history_from (c ∷ cs) s out table b f =
    let r = step c s out table in
    let v = model_answer (request_of c) b (length out) (length table) in
    let same = step_lengths c s out table in
    let more = history_from cs r.writer r.out r.table (unless_refused v b (model_after (request_of c) b)) (step_follows c s out table b f) in
    record {
      answers = rw (step_answer c s out table b f) (ap (λ l. v ∷ l) (rw (same.0, same.1) at more.answers));
      follows = rw (same.0, same.1) at more.follows;
    }

pub fresh_follows : (out table : List ℕ) → Follows fresh out table empty_model
unfolding model_bytes model_starts values_at region starts
fresh_follows out table = record {
  agree = record { bytes = refl; written = refl; starts = refl; count = refl; pending = refl; closed = refl };
  good = fresh_not_bad (length out) (length table);
  started = tt;
}

-- for every list of calls from a new writer, whatever output and table hold at first: each call is refused exactly when the
-- reference model refuses it, with the same number, and after them the bytes written and the starts listed are the model's
pub history : (cs : List Call) (out table : List ℕ) → let r = runs cs fresh out table in let k = model_run cs empty_model (length out) (length table) in
    (r.answers ≡ k.answers) × Agree r.writer r.out r.table k.model
history cs out table = let a = history_from cs fresh out table empty_model (fresh_follows out table) in (a.answers, a.follows.agree)
