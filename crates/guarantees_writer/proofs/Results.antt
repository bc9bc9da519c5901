-- What an accepted call leaves, for any state, output and table.
--
-- In order: the value that it finishes (`write_more`, `write_last`, `far_last`, `near_none`); a state that is not bad (`accepted_not_bad`), with room
-- for the items pending and the delta (`accepted_open`, `accepted_room`); what a close leaves (`accepted_close`).
use mathlib.Core.Path.{◌≡◌, refl, ap, ◌∙◌}
use mathlib.Core.Bool.{Bool, true, false, true≢false}
use mathlib.Core.List.{List, [], ◌∷◌}
use Prim.Native.Nat.{ℕ, ◌+◌, ◌-◌, ◌≤◌, ◌<◌}
use native.Mathlib.Omega.{arith}
use lib.Dec.{eqb}
use lib.ListN.{length, set}
use lib.Seq.{length-sets, get_or-set_same}
use borrow.Author.Tests.{eq-eqb, ne_eqb}
use Rattle.prelude.specs.Answer.{ok, error}
use Rattle.prelude.proofs.Tests.{pick_elim}
use Rattle.error.specs.Error.{CLOSED}
use Rattle.kind.specs.Kind.{rule, due}
use Rattle.token.specs.Token.{Token, emit}
use Rattle.token.proofs.Laws.{emit_pos}
use Rattle.writer_refusal.specs.Refusal.{bad_state, limit, refusal_of}
use Rattle.writer_refusal.specs.declared.State.{State}
use Rattle.writer_refusal.proofs.Refusals.{Sound, sound, not_bad}
use Rattle.writer.specs.Call.{Call, close}
use Rattle.writer.specs.Step.{move_of, pending_of, token_refusal, delta_refusal, result, start_of, write, write_delta, write_pointer_delta, step}
use Rattle.writer.proofs.Accepted.{token_fits, none_pending, start_of_new, Accepted, free_word, room_after, start_lt, Near, delta_fits}
use Rattle.writer.proofs.Refused.{pointer_to, refused_by}
use Rattle.guarantees_writer.specs.OneCall.{FinishesNone, Finishes, Pending, Closed}
use Rattle.guarantees_writer.proofs.Calls.{close_by, accepted_by, length_pick_set, accepted_only}

-- ---- the value that it finishes

module _ (alone : Bool) (t : Token) (target : ℕ) (s : State) (out table : List ℕ) (a : Accepted alone t target s out table) where
  pub write_more : 0 < due s.pending (pending_of t) → FinishesNone s table (write t s out table)
  unfolding write
  write_more h = let z = ne_eqb (due s.pending (pending_of t)) 0 (λ e. omega arith) in record { count = rw z; words = rw z }

  pub write_last : due s.pending (pending_of t) ≡ 0 → Finishes (start_of s) s table (write t s out table)
  unfolding write
  write_last e =
      let z = eq-eqb (due s.pending (pending_of t)) 0 e in
      record {
        none = e;
        count = rw z;
        words = rw z;
        listed = rw z (get_or-set_same table s.count (start_of s) 0 (free_word alone t target s out table a));
      }

module _ (x : ℕ) (s : State) (out table : List ℕ) (a : Accepted true (pointer_to x s) x s out table) where
  pointer_last : due s.pending (pending_of (pointer_to x s)) ≡ 0
  unfolding rule
  pointer_last = rw (none_pending s a.granted.alike) (omega arith)

  pub far_last : Finishes s.written s table (write_pointer_delta (pointer_to x s) s out table)
  unfolding write write_delta write_pointer_delta
  far_last =
      let f = write_last true (pointer_to x s) x s out table a pointer_last in
      let start = start_of_new s a.granted.alike in
      record { none = f.none; count = f.count; words = f.words ∙ ap (set table s.count) start; listed = f.listed ∙ start }

pub near_none : (x : ℕ) (s : State) (out table : List ℕ) → FinishesNone s table (write_delta x s out table)
unfolding write_delta
near_none x s out table = record { count = refl; words = refl }

-- ---- the state

write_sound : (alone : Bool) (t : Token) (target : ℕ) (s : State) (out table : List ℕ) → Accepted alone t target s out table
    → let r = write t s out table in Sound r.writer (length r.out) (length r.table)
unfolding write
write_sound alone t target s out table a =
    let left = due s.pending (pending_of t) in
    let end = room_after alone t target s out table a in
    let word = free_word alone t target s out table a in
    rw (length-sets out s.written (emit t), length_pick_set (eqb left 0) table s.count (start_of s)) (record {
      inside = omega arith;
      short = omega arith;
      listed = pick_elim (λ n. n ≤ length table) (eqb left 0) (λ _. omega arith) (λ _. omega arith);
      free = λ h. rw (ne_eqb left 0 (λ e. omega arith)) word;
      begun = λ _. start_lt alone t target s out table a;
    })

delta_sound : (d : ℕ) (s : State) (out table : List ℕ) → Sound s (length out) (length table) → s.pending ≡ 0 → s.written < limit (length out)
    → let r = write_delta d s out table in Sound r.writer (length r.out) (length r.table)
unfolding write_delta
delta_sound d s out table h none byte =
    rw (length-sets out s.written (d ∷ [])) (record {
      inside = omega arith;
      short = omega arith;
      listed = h.listed;
      free = λ p. absurd (omega arith);
      begun = λ p. absurd (omega arith);
    })

near_sound : (x d : ℕ) (s : State) (out table : List ℕ) → Near x s out table
    → let r = write_delta d s out table in Sound r.writer (length r.out) (length r.table)
near_sound x d s out table n = delta_sound d s out table (sound s _ _ n.granted.good) (none_pending s n.granted.alike) (delta_fits x s out table n)

far_sound : (x : ℕ) (s : State) (out table : List ℕ) → Accepted true (pointer_to x s) x s out table
    → let r = write_pointer_delta (pointer_to x s) s out table in Sound r.writer (length r.out) (length r.table)
unfolding write write_pointer_delta
far_sound x s out table a =
    delta_sound _ _ _ _ (write_sound true (pointer_to x s) x s out table a) (pointer_last x s out table a)
    (rw (length-sets out s.written (emit (pointer_to x s))) (room_after true (pointer_to x s) x s out table a))

-- a state that is not bad, with the output and table that it leaves
pub accepted_not_bad : (c : Call) (s : State) (out table : List ℕ) → (step c s out table).answer ≡ ok tt
    → let r = step c s out table in bad_state r.writer (length r.out) (length r.table) ≡ false
accepted_not_bad c s out table =
    accepted_by s out table (λ r. bad_state r.writer (length r.out) (length r.table) ≡ false)
    (λ t x a. not_bad _ _ _ (write_sound _ t x s out table a))
    (λ x n. not_bad _ _ _ (near_sound x _ s out table n))
    (λ x a. not_bad _ _ _ (far_sound x s out table a))
    c

pub write_open : (alone : Bool) (t : Token) (target : ℕ) (s : State) (out table : List ℕ) → Accepted alone t target s out table
    → let r = write t s out table in Pending (due s.pending (pending_of t)) r.writer r.out r.table
unfolding write
write_open alone t target s out table a = record {
  good = not_bad _ _ _ (write_sound alone t target s out table a);
  unclosed = refl;
  items = refl;
  room = rw (length-sets out s.written (emit t)) (omega (arith, token_fits alone t target s out table a, emit_pos t));
}

-- a token leaves a state from which the open value, if any, can be finished
pub accepted_open : (c : Call) (s : State) (out table : List ℕ) → (step c s out table).answer ≡ ok tt
    → let r = step c s out table in r.writer.closed ≡ false → Pending r.writer.pending r.writer r.out r.table
unfolding write write_delta write_pointer_delta
accepted_open c s out table =
    accepted_by s out table (λ r. r.writer.closed ≡ false → Pending r.writer.pending r.writer r.out r.table)
    (λ t x a _. write_open _ t x s out table a)
    (λ x n z. absurd (true≢false z))
    (λ x a z. absurd (true≢false z))
    c

-- it leaves a byte for each item pending, and one for the delta
pub accepted_room : (c : Call) (s : State) (out table : List ℕ) → (step c s out table).answer ≡ ok tt
    → let r = step c s out table in r.writer.closed ≡ false → r.writer.written + r.writer.pending + 1 ≤ limit (length out)
accepted_room c s out table e z = omega (arith, (accepted_open c s out table e z).room, (accepted_only c s out table e).bytes)

-- ---- a close

-- in a closed state that is not bad each call is refused with CLOSED
closed_step : (c : Call) (s : State) (out table : List ℕ) → bad_state s (length out) (length table) ≡ false → s.closed ≡ true
    → step c s out table ≡ result (error CLOSED) s out table
unfolding refusal_of token_refusal delta_refusal
closed_step c s out table g z =
    refused_by s out table (λ r. r ≡ result (error CLOSED) s out table) (λ _ _ _ _ _. rw (g, z)) (λ _ _ _. rw (g, z)) (move_of c s.written)

pub accepted_close : (x : ℕ) (s : State) (out table : List ℕ) → (step (close x) s out table).answer ≡ ok tt
    → Closed x s table (step (close x) s out table)
unfolding write_delta write_pointer_delta
accepted_close x s out table =
    close_by s out table (Closed x s table) x
    (λ b n. let g = not_bad _ _ _ (near_sound x _ s out table n) in record {
      closed = refl;
      none = none_pending s n.granted.alike;
      near = λ _. near_none _ s out table;
      far = λ h. absurd (omega arith);
      good = g;
      later = λ c. closed_step c _ _ _ g refl;
    })
    (λ b a. let g = not_bad _ _ _ (far_sound x s out table a) in let f = far_last x s out table a in record {
      closed = refl;
      none = f.none;
      near = λ h. absurd (omega arith);
      far = λ _. f;
      good = g;
      later = λ c. closed_step c _ _ _ g refl;
    })
