-- Output and table may get longer between two calls, after all that the writer has written and listed.
--
-- In order: a refusal that does not depend on how long they are is the same with longer ones (`refusal_longer`); so is an accepted
-- token or close; a call (`step_longer`), and a list of calls (`runs_longer`); what follows a model goes on following it
-- (`follows_longer`), over every list of calls with memory added between them (`history_growing`). Memory that is added between calls
-- is as good as memory that was there before the first, but for the calls that were refused (`growing_ahead`).
use mathlib.Core.Path.{◌≡◌, refl, ap, ◌∙◌, subst}
use mathlib.Core.Bool.{Bool, true, false, ◌&&◌, true≢false}
use mathlib.Core.Logic.{inl, inr}
use mathlib.Core.List.{List, [], ◌∷◌, ◌++◌, append_assoc, append-nil}
use Prim.Native.Nat.{ℕ, suc, ◌+◌, ◌-◌, ◌≤◌, ◌<◌}
use native.Mathlib.Omega.{arith}
use lib.Dec.{eqb, ltb, leb}
use lib.ListN.{length, set, length-append, length-set}
use lib.Seq.{sets, length-sets, take-append-le, set-append_left}
use borrow.Author.Tests.{lt-leb, leb-false, ltb-false, le-ltb}
use Rattle.prelude.specs.Pick.{pick}
use Rattle.prelude.specs.Answer.{ok, error}
use Rattle.prelude.specs.Each.{Each}
use Rattle.prelude.proofs.Tests.{and_false, and_none}
use Rattle.prelude.proofs.Lists.{each_append}
use Rattle.error.specs.Error.{BAD_STATE, FULL, NO_ROOM}
use Rattle.kind.specs.Kind.{due}
use Rattle.token.specs.Token.{Token, emit}
use Rattle.writer_refusal.specs.Refusal.{bad_state, room, limit, is_listed, Verdict, is_ok, refusal_of}
use Rattle.writer_refusal.specs.declared.State.{State}
use Rattle.writer_refusal.specs.declared.CallFlags.{CallFlags}
use Rattle.writer_refusal.proofs.Refusals.{sound, not_bad}
use Rattle.writer.specs.Call.{Call}
use Rattle.writer.specs.Step.{Move, puts, closes, move_of, opens, pending_of, bytes_needed, token_flags, delta_flags, token_refusal, delta_refusal, Result}
use Rattle.writer.specs.Step.{fresh, start_of, write, write_delta, write_pointer_delta, settled, put_token, close_at, move, step}
use Rattle.writer.specs.Runs.{runs}
use Rattle.writer.proofs.Accepted.{Accepted, token_inv, free_word, room_after, delta_inv, delta_fits}
use Rattle.writer.proofs.Refused.{pointer_to, refused_same}
use Rattle.writer.proofs.Runs.{length_answers, runs_append}
use Rattle.guarantees_writer.specs.Model.{Model, empty_model}
use Rattle.guarantees_writer.specs.History.{Agree, Follows}
use Rattle.guarantees_writer.proofs.History.{settled_answer, runs_lengths, history_from, fresh_follows}
use Rattle.guarantees_writer.specs.Longer.{MemoryAnswer, longer, longer_all, Stretch, runs_growing, calls_in, bytes_in, words_in, accepted_of, Leaves}
use Rattle.guarantees_writer.specs.Longer.{model_growing}

-- ---- refusals

-- past a test that is the same with longer memory
past_same : (t : Bool) (f : ℕ) {v w : Verdict} → ((MemoryAnswer v → ⊥) → w ≡ v) → (MemoryAnswer (pick t (error f) v) → ⊥)
    → pick t (error f) w ≡ pick t (error f) v
past_same true f k other = refl
past_same false f k other = k other

-- past a test of the memory, which longer memory passes too
past_memory : (t u : Bool) (f : ℕ) {v w : Verdict} → MemoryAnswer (error f) → (t ≡ false → u ≡ false) → (t ≡ false → (MemoryAnswer v → ⊥) → w ≡ v)
    → (MemoryAnswer (pick t (error f) v) → ⊥) → pick u (error f) w ≡ pick t (error f) v
past_memory true u f own h k other = absurd (other own)
past_memory false u f own h k other = rw (h refl) (k refl other)

module _ (s : State) (n n' m m' : ℕ) (bytes : n ≤ n') (words : m ≤ m') where
  good_longer : bad_state s n m ≡ false → bad_state s n' m' ≡ false
  good_longer e =
      let h = sound s n m e in
      not_bad s n' m' (record {
        inside = omega (arith, h.inside);
        short = h.short;
        listed = omega (arith, h.listed);
        free = λ k. omega (arith, h.free k);
        begun = h.begun;
      })

  full_longer : (a b : Bool) → a && b && leb m s.count ≡ false → a && b && leb m' s.count ≡ false
  full_longer a b e =
      and_false (a && b) (leb m s.count) e
      (λ e. rw e)
      (λ e. rw (lt-leb m' s.count (omega (arith, leb-false m s.count e))) (and_none (a && b)))

  refusal_longer : (q q' : CallFlags) (short short' : Bool) → (bad_state s n m ≡ false → q' ≡ q) → (short ≡ false → short' ≡ false)
      → (MemoryAnswer (refusal_of q short s n m) → ⊥) → refusal_of q' short' s n' m' ≡ refusal_of q short s n m
  unfolding refusal_of
  refusal_longer q q' short short' same fits =
      past_memory (bad_state s n m) (bad_state s n' m') BAD_STATE (inl refl) good_longer (λ good. rw (same good)
      (past_same s.closed _
      (past_same (q.alone && ltb 0 s.pending) _
      (past_same q.nontext _
      (past_same q.unlisted _
      (past_memory _ _ FULL (inr (inl refl)) (full_longer q.adds (eqb s.pending 0)) (λ _.
      past_memory short short' NO_ROOM (inr (inr refl)) fits (λ _ _. refl))))))))

-- ---- longer lists

pick_append : (b : Bool) (u v y : List ℕ) → pick b (u ++ y) (v ++ y) ≡ pick b u v ++ y
pick_append true u v y = refl
pick_append false u v y = refl

sets_longer : (p d x : List ℕ) (w : ℕ) → w + length p ≤ length d → sets (d ++ x) w p ≡ sets d w p ++ x
sets_longer [] d x w h = refl
sets_longer (a ∷ p) d x w h =
    rw (set-append_left d x w a (omega arith)) (sets_longer p (set d w a) x (suc w) (omega (arith, length-set d w a)))

-- ---- refusals of a token and of a close

module _ (s : State) (out x table y : List ℕ) where
  abbrev n : ℕ
  n = length (out ++ x)

  abbrev m : ℕ
  m = length (table ++ y)

  bytes_le : length out ≤ n
  bytes_le = omega (arith, length-append out x)

  words_le : length table ≤ m
  words_le = omega (arith, length-append table y)

  -- the same words are listed
  listed_longer : (e : ℕ) → bad_state s (length out) (length table) ≡ false → is_listed s (table ++ y) e ≡ is_listed s table e
  listed_longer e good = rw (take-append-le s.count table y (sound s (length out) (length table) good).listed)

  room_longer : room s (length out) ≤ room s n
  room_longer = omega (arith, bytes_le)

  token_longer : (alone : Bool) (t : Token) (target : ℕ) → (MemoryAnswer (token_refusal alone t target s out table) → ⊥)
      → token_refusal alone t target s (out ++ x) (table ++ y) ≡ token_refusal alone t target s out table
  unfolding token_refusal
  token_longer alone t target =
      refusal_longer s (length out) n (length table) m bytes_le words_le (token_flags alone t target s table) (token_flags alone t target s (table ++ y))
      (ltb (room s (length out)) (bytes_needed t s)) (ltb (room s n) (bytes_needed t s)) (λ good. rw (listed_longer target good))
      (λ fits. le-ltb (room s n) (bytes_needed t s) (omega (arith, ltb-false (room s (length out)) (bytes_needed t s) fits, room_longer)))

  delta_longer : (e : ℕ) → (MemoryAnswer (delta_refusal e s out table) → ⊥) → delta_refusal e s (out ++ x) (table ++ y) ≡ delta_refusal e s out table
  unfolding delta_refusal
  delta_longer e =
      refusal_longer s (length out) n (length table) m bytes_le words_le (delta_flags e s table) (delta_flags e s (table ++ y))
      (leb (limit (length out)) s.written) (leb (limit n) s.written) (λ good. rw (listed_longer e good))
      (λ fits. lt-leb (limit n) s.written (omega (arith, leb-false (limit (length out)) s.written fits, bytes_le)))

  -- ---- what is written

  write_longer : (t : Token) → s.written + length (emit t) ≤ length out → s.count < length table
      → write t s (out ++ x) (table ++ y) ≡ longer (write t s out table) x y
  unfolding write
  write_longer t fits word =
      rw (sets_longer (emit t) out x s.written fits, set-append_left table y s.count (start_of s) word)
      (ap (λ l. record { answer = ok tt; writer = (write t s out table).writer; out = sets out s.written (emit t) ++ x; table = l })
      (pick_append (eqb (due s.pending (pending_of t)) 0) (set table s.count (start_of s)) table y))

  write_delta_longer : (d : ℕ) → s.written < length out → write_delta d s (out ++ x) (table ++ y) ≡ longer (write_delta d s out table) x y
  unfolding write_delta
  write_delta_longer d fits = rw (sets_longer (d ∷ []) out x s.written (omega arith))

  settled_longer : (v : Verdict) (r r' : Result) → (v ≡ ok tt → r' ≡ longer r x y)
      → settled v s (out ++ x) (table ++ y) r' ≡ longer (settled v s out table r) x y
  settled_longer (ok tt) r r' k = k refl
  settled_longer (error f) r r' k = refl

-- ---- calls

module _ (s : State) (out x table y : List ℕ) where
  -- a byte is left for the delta
  byte_left : (t : Token) → s.written + length (emit t) < limit (length out) → (write t s out table).writer.written < length (write t s out table).out
  unfolding write
  byte_left t h = omega (arith, length-sets out s.written (emit t))

  far_longer : (e : ℕ) → Accepted true (pointer_to e s) e s out table
      → write_pointer_delta (pointer_to e s) s (out ++ x) (table ++ y) ≡ longer (write_pointer_delta (pointer_to e s) s out table) x y
  unfolding write_pointer_delta
  far_longer e a =
      let t = pointer_to e s in
      let r = write t s out table in
      rw (write_longer s out x table y t (omega (arith, room_after true t e s out table a)) (free_word true t e s out table a))
      (write_delta_longer r.writer r.out x r.table y (length (emit t) - 1) (byte_left t (room_after true t e s out table a)))

  token_settled : (alone : Bool) (t : Token) (target : ℕ) (r r' : Result) → r.answer ≡ ok tt
      → (Accepted alone t target s out table → r' ≡ longer r x y) → let v = token_refusal alone t target s out table in
      (MemoryAnswer (settled v s out table r).answer → ⊥)
      → settled (token_refusal alone t target s (out ++ x) (table ++ y)) s (out ++ x) (table ++ y) r' ≡ longer (settled v s out table r) x y
  token_settled alone t target r r' o k other =
      let v = token_refusal alone t target s out table in
      rw (token_longer s out x table y alone t target (λ h. other (rw (settled_answer v s out table r o) h)))
      (settled_longer s out x table y v r r' (λ j. k (token_inv alone t target s out table j)))

  delta_settled : (e : ℕ) (r r' : Result) → r.answer ≡ ok tt → (s.written < limit (length out) → r' ≡ longer r x y)
      → let v = delta_refusal e s out table in (MemoryAnswer (settled v s out table r).answer → ⊥)
      → settled (delta_refusal e s (out ++ x) (table ++ y)) s (out ++ x) (table ++ y) r' ≡ longer (settled v s out table r) x y
  delta_settled e r r' o k other =
      let v = delta_refusal e s out table in
      rw (delta_longer s out x table y e (λ h. other (rw (settled_answer v s out table r o) h)))
      (settled_longer s out x table y v r r' (λ j. k (delta_fits e s out table (delta_inv e s out table j))))

  -- a close, by the delta byte alone or by a pointer
  close_longer : (e : ℕ) (near : Bool) → let back = s.written - e - 1 in let t = pointer_to e s in
      let r = pick near (settled (delta_refusal e s out table) s out table (write_delta back s out table))
      (settled (token_refusal true t e s out table) s out table (write_pointer_delta t s out table)) in
      (MemoryAnswer r.answer → ⊥)
      → pick near (settled (delta_refusal e s (out ++ x) (table ++ y)) s (out ++ x) (table ++ y) (write_delta back s (out ++ x) (table ++ y)))
      (settled (token_refusal true t e s (out ++ x) (table ++ y)) s (out ++ x) (table ++ y) (write_pointer_delta t s (out ++ x) (table ++ y)))
      ≡ longer r x y
  unfolding write_delta write_pointer_delta
  close_longer e true = delta_settled e _ _ refl (λ h. write_delta_longer s out x table y (s.written - e - 1) (omega arith))
  close_longer e false = token_settled true (pointer_to e s) e _ _ refl (far_longer e)

  move_longer : (v : Move) → (MemoryAnswer (move v s out table).answer → ⊥) → move v s (out ++ x) (table ++ y) ≡ longer (move v s out table) x y
  unfolding put_token close_at write write_delta write_pointer_delta
  move_longer (puts t target) =
      token_settled (opens t) t target (write t s out table) (write t s (out ++ x) (table ++ y)) refl
      (λ a. write_longer s out x table y t (omega (arith, room_after (opens t) t target s out table a)) (free_word (opens t) t target s out table a))
  move_longer (closes e) = close_longer e (leb (s.written - e - 1) 255)

-- a call that is answered otherwise than by BAD_STATE, FULL or NO_ROOM answers the same with longer memory, leaves the same state, and
-- leaves what is after its output and its table as it was
pub step_longer : (c : Call) (s : State) (out x table y : List ℕ) → (MemoryAnswer (step c s out table).answer → ⊥)
    → step c s (out ++ x) (table ++ y) ≡ longer (step c s out table) x y
step_longer c s out x table y = move_longer s out x table y (move_of c s.written)

pub runs_longer : (cs : List Call) (s : State) (out x table y : List ℕ) → Each (λ v. MemoryAnswer v → ⊥) (runs cs s out table).answers
    → runs cs s (out ++ x) (table ++ y) ≡ longer_all (runs cs s out table) x y
unfolding runs
runs_longer [] s out x table y others = refl
runs_longer (c ∷ cs) s out x table y others =
    let r = step c s out table in
    rw (step_longer c s out x table y others.0, runs_longer cs r.writer r.out x r.table y others.1)

-- ---- the model

pub follows_longer : (s : State) (out x table y : List ℕ) (b : Model) → Follows s out table b → Follows s (out ++ x) (table ++ y) b
follows_longer s out x table y b f =
    let h = sound s (length out) (length table) f.good in
    record {
      agree = record {
        bytes = take-append-le s.written out x h.inside ∙ f.agree.bytes;
        written = f.agree.written;
        starts = take-append-le s.count table y h.listed ∙ f.agree.starts;
        count = f.agree.count;
        pending = f.agree.pending;
        closed = f.agree.closed;
      };
      good = good_longer s _ _ _ _ (bytes_le s out x table y) (words_le s out x table y) f.good;
      started = f.started;
    }

-- over every list of stretches the writer does what the model says that is told the lengths of each
growing_from : (gs : List Stretch) (s : State) (out table : List ℕ) (b : Model) → Follows s out table b
    → let r = runs_growing gs s out table in let k = model_growing gs b (length out) (length table) in
    (r.answers ≡ k.answers) × Follows r.writer r.out r.table k.model
unfolding runs_growing model_growing
growing_from [] s out table b f = (refl, f)
growing_from (g ∷ gs) s out table b f =
    let x = out ++ g.bytes in
    let y = table ++ g.words in
    let r = runs g.calls s x y in
    let same = runs_lengths g.calls s x y in
    let one = history_from g.calls s x y b (follows_longer s out g.bytes table g.words b f) in
    let more = growing_from gs r.writer r.out r.table _ one.follows in
    let first = rw (length-append out g.bytes, length-append table g.words) at one.answers in
    let rest = rw (same.0, same.1, length-append out g.bytes, length-append table g.words) at more in
    (rw (first, rest.0), rest.1)

pub history_growing : (gs : List Stretch) (out table : List ℕ)
    → let r = runs_growing gs fresh out table in let k = model_growing gs empty_model (length out) (length table) in
    (r.answers ≡ k.answers) × Agree r.writer r.out r.table k.model
history_growing gs out table = let a = growing_from gs fresh out table empty_model (fresh_follows out table) in (a.0, a.1.agree)

-- ---- memory there from the beginning

-- no accepted call is among those that longer memory could change
not_accepted : MemoryAnswer (ok tt) → ⊥
not_accepted (inl e) = true≢false (ap is_ok e)
not_accepted (inr (inl e)) = true≢false (ap is_ok e)
not_accepted (inr (inr e)) = true≢false (ap is_ok e)

-- one call more in front
leaves_one : (c : Call) (cs : List Call) (s : State) (out x table y : List ℕ) (v : Verdict) → (step c s out table).answer ≡ v
    → let r = step c s out table in let q = runs cs r.writer r.out r.table in
    Leaves (accepted_of cs q.answers) r.writer (r.out ++ x) (r.table ++ y) q.writer (q.out ++ x) (q.table ++ y)
    → Leaves (accepted_of (c ∷ cs) (v ∷ q.answers)) s (out ++ x) (table ++ y) q.writer (q.out ++ x) (q.table ++ y)
unfolding runs accepted_of
leaves_one c cs s out x table y (ok tt) e more =
    let one = step_longer c s out x table y (λ h. not_accepted (subst MemoryAnswer e h)) in
    record { accepted = rw one (e, more.accepted); writer = rw one more.writer; bytes = rw one more.bytes; words = rw one more.words }
leaves_one c cs s out x table y (error f) e more = rw (refused_same c s out table f e) (rw (refused_same c s out table f e) at more)

-- the accepted ones of the calls, with longer memory, leave what they left, and the memory after it as it was
leaves_longer : (cs : List Call) (s : State) (out x table y : List ℕ) → let r = runs cs s out table in
    Leaves (accepted_of cs r.answers) s (out ++ x) (table ++ y) r.writer (r.out ++ x) (r.table ++ y)
unfolding runs accepted_of
leaves_longer [] s out x table y = record { accepted = tt; writer = refl; bytes = refl; words = refl }
leaves_longer (c ∷ cs) s out x table y =
    let r = step c s out table in leaves_one c cs s out x table y r.answer refl (leaves_longer cs r.writer r.out x r.table y)

accepted_append : (a b : List Call) (v w : List Verdict) → length v ≡ length a → accepted_of (a ++ b) (v ++ w) ≡ accepted_of a v ++ accepted_of b w
unfolding accepted_of
accepted_append [] b [] w h = refl
accepted_append [] b (x ∷ v) w h = absurd (omega arith)
accepted_append (c ∷ a) b [] w h = absurd (omega arith)
accepted_append (c ∷ a) b (ok u ∷ v) w h = ap (λ cs. c ∷ cs) (accepted_append a b v w (omega arith))
accepted_append (c ∷ a) b (error f ∷ v) w h = accepted_append a b v w (omega arith)

-- one list after another
leaves_append : (a b : List Call) (s : State) (out table : List ℕ) (s₁ : State) (out₁ table₁ : List ℕ) (s₂ : State) (out₂ table₂ : List ℕ)
    → Leaves a s out table s₁ out₁ table₁ → Leaves b s₁ out₁ table₁ s₂ out₂ table₂ → Leaves (a ++ b) s out table s₂ out₂ table₂
leaves_append a b s out table s₁ out₁ table₁ s₂ out₂ table₂ one more =
    let joined = runs_append a b s out table in
    let next = rw (← one.writer, ← one.bytes, ← one.words) at more in
    record {
      accepted = rw joined ((each_append (λ v. v ≡ ok tt) (runs a s out table).answers _).1 (one.accepted, next.accepted));
      writer = rw joined next.writer;
      bytes = rw joined next.bytes;
      words = rw joined next.words;
    }

pub growing_ahead : (gs : List Stretch) (s : State) (out table : List ℕ) → let r = runs_growing gs s out table in
    Leaves (accepted_of (calls_in gs) r.answers) s (out ++ bytes_in gs) (table ++ words_in gs) r.writer r.out r.table
unfolding runs_growing calls_in bytes_in words_in accepted_of runs
growing_ahead [] s out table = record { accepted = tt; writer = refl; bytes = append-nil out; words = append-nil table }
growing_ahead (g ∷ gs) s out table =
    let x = out ++ g.bytes in
    let y = table ++ g.words in
    let r = runs g.calls s x y in
    let q = runs_growing gs r.writer r.out r.table in
    rw (
      accepted_append g.calls (calls_in gs) r.answers q.answers (length_answers g.calls s x y),
      ← append_assoc out g.bytes (bytes_in gs),
      ← append_assoc table g.words (words_in gs),
    )
    (leaves_append _ _ s _ _ _ _ _ _ _ _ (leaves_longer g.calls s x (bytes_in gs) y (words_in gs)) (growing_ahead gs r.writer r.out r.table))
