-- What an accepted call writes (`accepted_writes`), and which value it finishes (`accepted_finishes`), in any state, with any output and table.
use mathlib.Core.Path.{◌≡◌, refl}
use mathlib.Core.Bool.{true}
use mathlib.Core.List.{List, [], ◌∷◌, append_assoc}
use Prim.Native.Nat.{ℕ, ◌+◌, ◌-◌, ◌≤◌, ◌<◌}
use native.Mathlib.Omega.{arith}
use lib.Dec.{eqb}
use lib.ListN.{length, take, length-append}
use lib.Seq.{sets, length-sets}
use borrow.Author.Tests.{lt-ltb, le-ltb, eqb-true, eqb-false}
use Rattle.prelude.specs.Answer.{ok}
use Rattle.prelude.proofs.Tests.{pick_elim}
use Rattle.prelude.proofs.Lists.{take_sets}
use Rattle.kind.specs.Kind.{rule}
use Rattle.token.specs.Token.{emit}
use Rattle.writer_refusal.specs.Refusal.{limit}
use Rattle.writer_refusal.specs.declared.State.{State}
use Rattle.writer.specs.Call.{Call}
use Rattle.writer.specs.Step.{start_of, write, write_delta, write_pointer_delta, move, step}
use Rattle.writer.proofs.Accepted.{none_pending, Accepted, room_after, Near, delta_fits}
use Rattle.writer.proofs.Refused.{pointer_to}
use Rattle.guarantees_writer.specs.Model.{Part, form_of, Request, adds, ends, request_of}
use Rattle.guarantees_writer.specs.OneCall.{Starts, new, begun, Writes, Finishing}
use Rattle.guarantees_writer.proofs.Calls.{put_by, close_by}
use Rattle.guarantees_writer.proofs.Results.{write_more, write_last, far_last, near_none}
use Rattle.guarantees_writer.proofs.Models.{pending_form}
use Rattle.guarantees_writer.proofs.History.{move_as, move_request}

starts_is : (s : State) → Starts s (start_of s)
starts_is s = pick_elim (Starts s) (eqb s.pending 0) (λ z. new (eqb-true _ _ z)) (λ z. let some = eqb-false s.pending 0 z in begun (omega arith))

module _ (s : State) (out table : List ℕ) where
  part_writes : (p : Part) → let t = form_of s.written p in s.written + length (emit t) < limit (length out)
      → Writes (adds p) s out (write t s out table)
  unfolding write
  part_writes p h = record {
    written = refl;
    bytes = take_sets out (emit (form_of s.written p)) s.written (omega arith);
    pending = rw (pending_form s.written p);
    start = λ _. starts_is s;
    closed = refl;
  }

  near_writes : (e : ℕ) → s.written - e - 1 ≤ 255 → Near e s out table → Writes (ends e) s out (write_delta (s.written - e - 1) s out table)
  unfolding write_delta
  near_writes e near a =
      let fits = delta_fits e s out table a in
      let reach = le-ltb 255 (s.written - e - 1) near in
      record {
        written = rw reach;
        bytes = rw reach (take_sets out ((s.written - e - 1) ∷ []) s.written (omega arith));
        pending = none_pending s a.granted.alike;
        start = λ some. absurd (omega (arith, none_pending s a.granted.alike));
        closed = refl;
      }

  far_writes : (e : ℕ) → 255 < s.written - e - 1 → Accepted true (pointer_to e s) e s out table
      → Writes (ends e) s out (write_pointer_delta (pointer_to e s) s out table)
  unfolding write_pointer_delta write_delta write form_of rule
  far_writes e far a =
      let t = emit (pointer_to e s) in
      let w = s.written in
      let d = (length t - 1) ∷ [] in
      let fits = room_after true (pointer_to e s) e s out table a in
      let reach = lt-ltb 255 (w - e - 1) far in
      record {
        written = rw reach (omega (arith, length-append t d));
        bytes = rw reach (rw (← append_assoc (take w out) t d, ← take_sets out t w (omega arith))
            (take_sets (sets out w t) d (w + length t) (omega (arith, length-sets out w t))));
        pending = rw (none_pending s a.granted.alike) (omega arith);
        start = λ _. starts_is s;
        closed = refl;
      }

  request_writes : (l : Request) → (move (move_as s.written l) s out table).answer ≡ ok tt → Writes l s out (move (move_as s.written l) s out table)
  request_writes (adds p) =
      put_by s out table (Writes (adds p) s out) (form_of s.written p) _ (λ a. part_writes p (room_after _ (form_of s.written p) _ s out table a))
  request_writes (ends e) = close_by s out table (Writes (ends e) s out) e (near_writes e) (far_writes e)

  request_finishes : (l : Request) → (move (move_as s.written l) s out table).answer ≡ ok tt → Finishing l s table (move (move_as s.written l) s out table)
  unfolding write
  request_finishes (adds p) =
      let t = form_of s.written p in
      put_by s out table (Finishing (adds p) s table) t _
      (λ a. (write_more _ t _ s out table a, λ e. (start_of s, starts_is s, write_last _ t _ s out table a e)))
  request_finishes (ends e) =
      close_by s out table (Finishing (ends e) s table) e
      (λ near n. (λ _. near_none _ s out table, λ far. absurd (omega arith)))
      (λ far a. (λ near. absurd (omega arith), λ _. far_last e s out table a))

pub accepted_writes : (c : Call) (s : State) (out table : List ℕ) → (step c s out table).answer ≡ ok tt → Writes (request_of c) s out (step c s out table)
accepted_writes c s out table = rw (move_request c s.written) (request_writes s out table (request_of c))

-- an accepted call lists the start of the value that it finishes, if any, and nothing else
pub accepted_finishes : (c : Call) (s : State) (out table : List ℕ) → (step c s out table).answer ≡ ok tt
    → Finishing (request_of c) s table (step c s out table)
accepted_finishes c s out table = rw (move_request c s.written) (request_finishes s out table (request_of c))
