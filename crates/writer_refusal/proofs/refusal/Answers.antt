-- `writer_refusal::refusal` meets its contract: after each test that failed comes the definition's next one.
use mathlib.Core.Path.{◌≡◌}
use mathlib.Core.Bool.{Bool, true, false, ◌&&◌}
use Prim.Native.Nat.{ℕ}
use lib.Dec.{eqb, ltb, leb}
use Rattle.prelude.specs.Answer.{error}
use Rattle.error.specs.Error.{BAD_STATE, CLOSED, OWED, BAD_TEXT, BAD_TARGET, FULL, NO_ROOM}
use Rattle.writer_refusal.specs.Refusal.{bad_state, refusal_of}
use Rattle.writer_refusal.specs.declared.State.{State}
use Rattle.writer_refusal.specs.declared.CallFlags.{CallFlags}
use Rattle.writer_refusal.proofs.refusal.Goals as goal

-- each reason, by the tests that the code made before it
module _ (q : CallFlags) (s : State) (n m : ℕ) (b : Bool) (is : b ≡ bad_state s n m) where
  refusal_bad : b ≡ true → error BAD_STATE ≡ refusal_of q true s n m
  unfolding refusal_of
  refusal_bad e = rw (← is, e)

  module _ (fits : b ≡ false) where
    refusal_closed : s.closed ≡ true → error CLOSED ≡ refusal_of q true s n m
    unfolding refusal_of
    refusal_closed e = rw (← is, fits, e)

    module _ (unclosed : s.closed ≡ false) where
      refusal_pending : q.alone && ltb 0 s.pending ≡ true → error OWED ≡ refusal_of q true s n m
      unfolding refusal_of
      refusal_pending e = rw (← is, fits, unclosed, e)

      module _ (alike : q.alone && ltb 0 s.pending ≡ false) where
        refusal_text : q.nontext ≡ true → error BAD_TEXT ≡ refusal_of q true s n m
        unfolding refusal_of
        refusal_text e = rw (← is, fits, unclosed, alike, e)

        module _ (text : q.nontext ≡ false) where
          refusal_target : q.unlisted ≡ true → error BAD_TARGET ≡ refusal_of q true s n m
          unfolding refusal_of
          refusal_target e = rw (← is, fits, unclosed, alike, text, e)

          module _ (target : q.unlisted ≡ false) where
            refusal_full : q.adds && eqb s.pending 0 && leb m s.count ≡ true → error FULL ≡ refusal_of q true s n m
            unfolding refusal_of
            refusal_full e = rw (← is, fits, unclosed, alike, text, target, e)

            refusal_room : q.adds && eqb s.pending 0 && leb m s.count ≡ false → error NO_ROOM ≡ refusal_of q true s n m
            unfolding refusal_of
            refusal_room e = rw (← is, fits, unclosed, alike, text, target, e)

ruleset ways = (refusal_bad, refusal_closed, refusal_pending, refusal_text, refusal_target, refusal_full, refusal_room)

pub returns-then-is_bad_state : goal.returns-then-is_bad_state
returns-then-is_bad_state c = search ways

pub returns-then-state : goal.returns-then-state
returns-then-state c = search ways

pub returns-then-request-state : goal.returns-then-request-state
returns-then-request-state c = search ways

pub returns-then-request : goal.returns-then-request
returns-then-request c = search ways

pub returns-then-request-2 : goal.returns-then-request-2
returns-then-request-2 c = search ways

pub returns-then-request-state-2 : goal.returns-then-request-state-2
returns-then-request-state-2 c = search ways

pub returns : goal.returns
returns c = search ways
