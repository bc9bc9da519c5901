-- `writer_refusal::exceeds` meets its contract.
use mathlib.Core.Path.{◌≡◌}
use Prim.Native.Nat.{ℕ, ◌+◌, ◌-◌, ◌≤◌}
use native.Mathlib.Omega.{arith}
use lib.Dec.{ltb}
use borrow.Author.Tests.{lt-ltb, le-ltb}
use Rattle.prelude.proofs.Tests.{split}
use Rattle.writer_refusal.proofs.exceeds.Goals as goal

-- whether a sum is too large, by a difference
ltb_sub : (a b c : ℕ) → b ≤ a → ltb (a - b) c ≡ ltb a (b + c)
ltb_sub a b c h =
    split (a - b) c
    (λ l. rw (lt-ltb (a - b) c l, lt-ltb a (b + c) (omega arith)))
    (λ l. rw (le-ltb (a - b) c l, le-ltb a (b + c) (omega arith)))

pub returns-then-room-size : goal.returns-then-room-size
returns-then-room-size c = let a = c.args in rw (lt-ltb _ _ c.if-room-size.true, lt-ltb a.room (a.size + a.left) (omega arith))

pub returns-else-room-size : goal.returns-else-room-size
returns-else-room-size c = ltb_sub _ _ _ c.if-room-size.false
