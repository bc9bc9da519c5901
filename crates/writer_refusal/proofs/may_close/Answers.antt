-- `writer_refusal::may_close` meets its contract: its tests pass exactly if no reason to refuse holds, by a table of them.
use mathlib.Core.Path.{◌≡◌, refl}
use mathlib.Core.Bool.{Bool, true, false, not, ◌&&◌, ◌||◌}
use Prim.Native.Nat.{ℕ}
use lib.Dec.{ltb, leb}
use Rattle.prelude.specs.Pick.{pick}
use Rattle.prelude.specs.Answer.{ok, error}
use Rattle.error.specs.Error.{BAD_STATE, CLOSED, OWED, BAD_TEXT, BAD_TARGET, NO_ROOM}
use Rattle.writer_refusal.specs.Refusal.{limit, bad_state, is_ok, refusal_of}
use Rattle.writer_refusal.specs.declared.State.{State}
use Rattle.writer_refusal.specs.declared.CallFlags.{CallFlags}
use Rattle.writer_refusal.proofs.may_close.Goals as goal

may_close : (q : CallFlags) (s : State) (n m : ℕ) (b : Bool) (end : ℕ) → b ≡ bad_state s n m → end ≡ limit n → q.adds ≡ false
    → not b && not s.closed && not (q.alone && ltb 0 s.pending) && not (q.nontext || q.unlisted) && not (leb end s.written)
    ≡ is_ok (refusal_of q (leb (limit n) s.written) s n m)
unfolding refusal_of
may_close q s n m b end is at e =
    rw (is, at, e) (table (bad_state s n m) s.closed (q.alone && ltb 0 s.pending) q.nontext q.unlisted (leb (limit n) s.written))
  where
    table : (a b c d e f : Bool)
        → not a && not b && not c && not (d || e) && not f
        ≡ is_ok (pick a (error BAD_STATE) (pick b (error CLOSED) (pick c (error OWED) (pick d (error BAD_TEXT) (pick e (error BAD_TARGET)
        (pick f (error NO_ROOM) (ok tt)))))))
    table true b c d e f = refl
    table false true c d e f = refl
    table false false true d e f = refl
    table false false false true e f = refl
    table false false false false true f = refl
    table false false false false false true = refl
    table false false false false false false = refl

pub returns : goal.returns
returns c = search may_close
