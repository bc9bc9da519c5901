-- Theorems about `step`, for any state, output and table.
--
-- In order: what an accepted call does (`put_by`, `close_by`, `accepted_by`); what it may change (`accepted_only`).
-- That a refused one changes nothing is `refused_same` of crate writer.
use mathlib.Core.Path.{◌≡◌, refl, ap, ◌∙◌}
use mathlib.Core.Bool.{Bool, true}
use mathlib.Core.List.{List, [], ◌∷◌, ◌++◌, append_assoc}
use Prim.Native.Nat.{ℕ, ◌+◌, ◌-◌, ◌≤◌, ◌<◌}
use native.Mathlib.Omega.{arith}
use lib.Dec.{eqb, leb}
use lib.ListN.{length, take, drop, set, get_or, length-set, length-append}
use lib.Seq.{sets, sets-eq, length-sets, take_at, drop_at, length-take-le, get_or-set_other}
use borrow.Author.Tests.{leb-true, leb-false}
use Rattle.prelude.specs.Pick.{pick}
use Rattle.prelude.specs.Answer.{ok, error}
use Rattle.prelude.proofs.Tests.{pick_elim}
use Rattle.prelude.proofs.Lists.{take_earlier, drop_later}
use Rattle.token.specs.Token.{Token, emit}
use Rattle.token.proofs.Laws.{emit_pos}
use Rattle.kind.specs.Kind.{due}
use Rattle.writer_refusal.specs.Refusal.{limit, Verdict}
use Rattle.writer_refusal.specs.declared.State.{State}
use Rattle.writer.specs.Call.{Call}
use Rattle.writer.specs.Step.{Move, puts, closes, move_of, opens, pending_of, token_refusal, delta_refusal, Result, start_of, write, write_delta}
use Rattle.writer.specs.Step.{write_pointer_delta, settled, put_token, close_at, move, step}
use Rattle.writer.proofs.Accepted.{Accepted, token_inv, room_after, Near, delta_inv, delta_fits}
use Rattle.writer.proofs.Refused.{pointer_to}
use Rattle.guarantees_writer.specs.OneCall.{Only}

-- ---- what an accepted call does

module _ (s : State) (out table : List ℕ) (P : Result → Type 0) where
  settled_ok : (v : Verdict) (r : Result) → (settled v s out table r).answer ≡ ok tt → (v ≡ ok tt → P r) → P (settled v s out table r)
  settled_ok (ok tt) r e k = k refl
  settled_ok (error f) r e k = let z : ◌≡◌ {A = ℕ} 0 1 = cc in absurd (omega arith)

  -- an accepted token
  pub put_by : (t : Token) (target : ℕ) → (Accepted (opens t) t target s out table → P (write t s out table))
      → (put_token t target s out table).answer ≡ ok tt → P (put_token t target s out table)
  unfolding put_token
  put_by t target f e = settled_ok (token_refusal (opens t) t target s out table) (write t s out table) e (λ j. f (token_inv _ _ _ _ _ _ j))

  -- an accepted close, by the delta byte or by a pointer
  pub close_by : (x : ℕ) → (s.written - x - 1 ≤ 255 → Near x s out table → P (write_delta (s.written - x - 1) s out table))
      → (255 < s.written - x - 1 → Accepted true (pointer_to x s) x s out table → P (write_pointer_delta (pointer_to x s) s out table))
      → (close_at x s out table).answer ≡ ok tt → P (close_at x s out table)
  unfolding close_at
  close_by x near far =
      pick_elim (λ r. r.answer ≡ ok tt → P r) (leb (s.written - x - 1) 255)
      (λ b e. settled_ok (delta_refusal x s out table) (write_delta (s.written - x - 1) s out table) e (λ j. near (leb-true _ _ b) (delta_inv x s out table j)))
      (λ b e. settled_ok (token_refusal true (pointer_to x s) x s out table) (write_pointer_delta (pointer_to x s) s out table) e (λ j.
      far (leb-false _ _ b) (token_inv _ _ _ _ _ _ j)))

  -- an accepted call
  module _ (token-put : (t : Token) (target : ℕ) → Accepted (opens t) t target s out table → P (write t s out table))
      (near : (x : ℕ) → Near x s out table → P (write_delta (s.written - x - 1) s out table))
      (far : (x : ℕ) → Accepted true (pointer_to x s) x s out table → P (write_pointer_delta (pointer_to x s) s out table)) where
    by_move : (m : Move) → (move m s out table).answer ≡ ok tt → P (move m s out table)
    by_move (puts t target) = put_by t target (token-put t target)
    by_move (closes x) = close_by x (λ _. near x) (λ _. far x)

    pub accepted_by : (c : Call) → (step c s out table).answer ≡ ok tt → P (step c s out table)
    accepted_by c = by_move (move_of c s.written)

-- ---- what an accepted call may change

module _ (d p : List ℕ) (w : ℕ) (h : w + length p ≤ length d) where
  sets_before : take w (sets d w p) ≡ take w d
  sets_before = rw (sets-eq p d w h, append_assoc) (take_at (take w d) _ w (length-take-le w d (omega arith)))

  sets_after : drop (w + length p) (sets d w p) ≡ drop (w + length p) d
  sets_after =
      rw (sets-eq p d w h)
      (drop_at (take w d ++ p) _ (w + length p) (omega (arith, length-append (take w d) p, length-take-le w d (omega arith))))

module _ (b : Bool) (t : List ℕ) (i x : ℕ) where
  pub length_pick_set : length (pick b (set t i x) t) ≡ length t
  length_pick_set = pick_elim (λ l. length l ≡ length t) b (λ _. length-set t i x) (λ _. refl)

  pick_set_other : (k : ℕ) → (k ≡ i → ⊥) → get_or (pick b (set t i x) t) k 0 ≡ get_or t k 0
  pick_set_other k h = pick_elim (λ l. get_or l k 0 ≡ get_or t k 0) b (λ _. get_or-set_other t i k x 0 h) (λ _. refl)

module _ (s : State) (out table : List ℕ) where
  write_only : (t : Token) → s.written + length (emit t) ≤ limit (length out) → Only s out table (write t s out table)
  unfolding write
  write_only t h = record {
    grows = omega (arith, emit_pos t);
    within = h;
    bytes = length-sets out s.written (emit t);
    words = length_pick_set (eqb (due s.pending (pending_of t)) 0) table s.count (start_of s);
    before = sets_before out (emit t) s.written (omega arith);
    after = sets_after out (emit t) s.written (omega arith);
    others = pick_set_other (eqb (due s.pending (pending_of t)) 0) table s.count (start_of s);
  }

  delta_only : (d : ℕ) → s.written < limit (length out) → Only s out table (write_delta d s out table)
  unfolding write_delta
  delta_only d h = record {
    grows = omega arith;
    within = omega arith;
    bytes = length-sets out s.written (d ∷ []);
    words = refl;
    before = sets_before out (d ∷ []) s.written (omega arith);
    after = sets_after out (d ∷ []) s.written (omega arith);
    others = λ i _. refl;
  }

-- one call and then another that leaves the table as it is
then_only : (s : State) (out table : List ℕ) (r q : Result) → Only s out table r → Only r.writer r.out r.table q → q.table ≡ r.table
    → Only s out table q
then_only s out table r q one two same =
    let w = s.written in
    let v = r.writer.written in
    record {
      grows = omega (arith, one.grows, two.grows);
      within = omega (arith, two.within, one.bytes);
      bytes = two.bytes ∙ one.bytes;
      words = two.words ∙ one.words;
      before = take_earlier w v q.out r.out (omega (arith, one.grows)) two.before ∙ one.before;
      after = two.after ∙ drop_later q.writer.written v r.out out (omega (arith, two.grows)) one.after;
      others = λ i h. ap (λ l. get_or l i 0) same ∙ one.others i h;
    }

-- a pointer, and the delta byte after it
write_pointer_delta_only : (s : State) (out table : List ℕ) (t : Token) → s.written + length (emit t) < limit (length out)
    → Only s out table (write_pointer_delta t s out table)
unfolding write_pointer_delta write write_delta
write_pointer_delta_only s out table t h =
    let r = write t s out table in
    let one = write_only s out table t (omega arith) in
    then_only s out table r _ one (delta_only r.writer r.out r.table (length (emit t) - 1) (omega (arith, one.bytes))) refl

-- an accepted call changes only the bytes from the old to the new `written`, and the one word
pub accepted_only : (c : Call) (s : State) (out table : List ℕ) → (step c s out table).answer ≡ ok tt → Only s out table (step c s out table)
accepted_only c s out table =
    accepted_by s out table (Only s out table)
    (λ t x a. write_only s out table t (omega (arith, room_after _ t x s out table a)))
    (λ e n. delta_only s out table _ (delta_fits e s out table n))
    (λ e a. write_pointer_delta_only s out table (pointer_to e s) (room_after _ (pointer_to e s) e s out table a))
    c
