-- The room, which is less than LIMIT: so a count of items that stops at LIMIT is exact whenever the items have room.
use mathlib.Core.Path.{◌≡◌, refl}
use mathlib.Core.Bool.{Bool, true, false}
use Prim.Native.Nat.{ℕ, ◌+◌, ◌≤◌, ◌<◌}
use native.Mathlib.Omega.{arith}
use lib.Dec.{ltb, eqb}
use lib.ListN.{length}
use borrow.Author.Tests.{lt-ltb, le-ltb}
use Rattle.prelude.specs.Pick.{pick}
use Rattle.prelude.proofs.Tests.{split, pick_cong}
use Rattle.error.specs.Error.{LIMIT}
use Rattle.kind.specs.Kind.{due}
use Rattle.token.specs.Token.{Token, emit}
use Rattle.writer_refusal.specs.Refusal.{limit, room}
use Rattle.writer_refusal.specs.declared.State.{State}
use Rattle.writer.specs.Step.{pending_of, bytes_needed}

room_lt : (s : State) (n : ℕ) → room s n < LIMIT
room_lt s n = omega arith

-- more items than LIMIT never have room
sum_limit : (b : Bool) (r x own y : ℕ) → r < LIMIT → ltb r (x + pick b (limit own) y) ≡ ltb r (x + pick b own y)
sum_limit true r x own y h =
    split r (x + own)
    (λ l. rw (lt-ltb r (x + own) l, lt-ltb r (x + limit own) (omega arith)))
    (λ l. rw (le-ltb r (x + own) l, le-ltb r (x + limit own) (omega arith)))
sum_limit false r x own y h = refl

pub room_limit : (s : State) (t : Token) (n : ℕ)
    → ltb (room s n) (length (emit t) + due s.pending (limit (pending_of t))) ≡ ltb (room s n) (bytes_needed t s)
room_limit s t n = sum_limit (eqb s.pending 0) _ _ _ _ (room_lt s n)

-- items that have room are counted exactly
pub left_is : (s : State) (t : Token) (n : ℕ) → due s.pending (pending_of t) ≤ room s n
    → due s.pending (limit (pending_of t)) ≡ due s.pending (pending_of t)
left_is s t n h = pick_cong (eqb s.pending 0) (λ e. let k : pending_of t ≤ room s n = rw e at h in omega (arith, room_lt s n)) (λ _. refl)
