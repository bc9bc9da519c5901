-- Why a call is refused (document 01, "Writer"): by the writer's state s, the output's n bytes, the table's m words, and the call's flags.
--
--   limit n            n, or LIMIT if n is more: how many bytes of an output of n may be written
--   room s n           the bytes of the output that are left for tokens: one is held back for the delta
--   bad_state s n m     whether s is refused with BAD_STATE: it has more bytes written than n or than LIMIT, or lists more than m starts; or it has an
--                      open value without a free word, or one that does not start below the bytes written
--   is_listed s table x whether x is below the bytes written, and one of the table's first `count` words
--   Verdict            a call is accepted, or refused with an error's number
--   is_ok v             whether it is accepted
--   refusal_of q short s n m
--                      the first reason to refuse a call with the flags q: BAD_STATE, CLOSED, OWED, BAD_TEXT, BAD_TARGET, FULL,
--                      NO_ROOM, in this order; ok if there is none. `short`: the output has no room for the call
use Rattle.std.specs.Prelude.{ℕ, ◌-◌, min, Bool, true, false, ◌&&◌, ◌||◌, List, eqb, ltb, leb, take}
use Rattle.prelude.specs.Pick.{pick}
use Rattle.prelude.specs.Answer.{Answer, ok, error}
use Rattle.prelude.specs.Search.{among}
use Rattle.error.specs.Error.{LIMIT, BAD_STATE, CLOSED, OWED, BAD_TEXT, BAD_TARGET, FULL, NO_ROOM}
use Rattle.writer_refusal.specs.declared.State.{State}
use Rattle.writer_refusal.specs.declared.CallFlags.{CallFlags}

abbrev pub limit : ℕ → ℕ
limit n = min n LIMIT

abbrev pub room : State → ℕ → ℕ
room s n = limit n - 1 - s.written

abbrev pub bad_state : State → ℕ → ℕ → Bool
bad_state s n m =
    ltb n s.written
    || (ltb LIMIT s.written || (ltb m s.count || (ltb 0 s.pending && (leb m s.count || leb s.written s.start))))

abbrev pub is_listed : State → List ℕ → ℕ → Bool
is_listed s table x = ltb x s.written && among x (take s.count table)

abbrev pub Verdict : Type 0
Verdict = Answer ℕ (Unit {0})

abbrev pub is_ok : Verdict → Bool
is_ok (ok u) = true
is_ok (error f) = false

unfoldable pub refusal_of : CallFlags → Bool → State → ℕ → ℕ → Verdict
refusal_of q short s n m =
    pick (bad_state s n m) (error BAD_STATE)
    (pick s.closed (error CLOSED)
    (pick (q.alone && ltb 0 s.pending) (error OWED)
    (pick q.nontext (error BAD_TEXT)
    (pick q.unlisted (error BAD_TARGET)
    (pick (q.adds && eqb s.pending 0 && leb m s.count) (error FULL)
    (pick short (error NO_ROOM)
    (ok tt)))))))
