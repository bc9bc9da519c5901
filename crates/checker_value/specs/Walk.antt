-- The walk of check over a region (document 01, "Check and depths"): left to right, token by token; the first fault wins.
--
--   has_target done at h
--                      whether the reference or pointer with head h at `at` has its target among the starts `done`
--   token_fault s done at h
--                      the token with head h at `at` of the region s: BAD_TEXT, then BAD_TARGET; else the head
--   Walk               where the walk is: the offset, the start of the value it is in, the items pending there, and the
--                      starts of the values before it
--   between at done    the walk between two values, at `at`
--   next_token mode s cap done pending at
--                      the token at `at`, with that many items pending and a table of cap words: FULL for a new value,
--                      then the token's own faults in their order
--   walk_after w h      the walk after a token with head h: a value's start is listed once none of its items is pending
--   walk_turned w a     the turn at w, if `next_token` answered a
--   walk_turn mode s cap w
--                      one turn: at the region's end between two values, the starts; else a token
--   starts_from mode s cap w
--                      the starts of a region's values, or the first fault; the walk goes on from w
use Rattle.std.specs.Prelude.{ℕ, ◌-◌, Bool, not, ◌&&◌, List, [], ◌∷◌, ◌++◌, eqb, ltb, leb, length}
use Rattle.prelude.specs.Pick.{pick}
use Rattle.prelude.specs.Answer.{Answer, ok, error, bind}
use Rattle.prelude.specs.Loop.{Turn, go, stop, from}
use Rattle.prelude.specs.Search.{among}
use Rattle.error.specs.Error.{Fault, fault, BAD_TEXT, BAD_TARGET, FULL}
use Rattle.leb128.specs.declared.Mode.{Mode}
use Rattle.utf8.specs.Text.{is_text}
use Rattle.kind.specs.Kind.{due}
use Rattle.scan.specs.Answers.{scan_at, body_on}
use Rattle.scan.specs.declared.Head.{Head}

-- ---- one token

unfoldable pub has_target : List ℕ → ℕ → Head → Bool
has_target done at h = ltb h.n at && among (at - h.n - 1) done

unfoldable pub token_fault : List ℕ → List ℕ → ℕ → Head → Answer Fault Head
token_fault s done at h =
    pick (eqb h.kind 4 && not (is_text (body_on s h))) (error (fault BAD_TEXT at))
    (pick (leb 14 h.kind && not (has_target done at h)) (error (fault BAD_TARGET at))
    (ok h))

-- ---- the walk

pub record Walk : Type 0 where
  pub at : ℕ
  pub start : ℕ
  pub pending : ℕ
  pub done : List ℕ

abbrev pub between : ℕ → List ℕ → Walk
between at done = record { at = at; start = at; pending = 0; done = done }

unfoldable pub next_token : Mode → List ℕ → ℕ → List ℕ → ℕ → ℕ → Answer Fault Head
next_token mode s cap done pending at =
    pick (eqb pending 0 && leb cap (length done)) (error (fault FULL at))
    (bind (scan_at mode (ltb 0 pending) s at) (token_fault s done at))

unfoldable pub walk_after : Walk → Head → Walk
walk_after w h =
    let left = due w.pending h.items in
    pick (eqb left 0) (between h.end (w.done ++ (w.start ∷ [])))
    (record { at = h.end; start = w.start; pending = left; done = w.done })

abbrev pub walk_turned : Walk → Answer Fault Head → Turn Walk (Answer Fault (List ℕ))
walk_turned w (ok h) = go (walk_after w h)
walk_turned w (error e) = stop (error e)

unfoldable pub walk_turn : Mode → List ℕ → ℕ → Walk → Turn Walk (Answer Fault (List ℕ))
walk_turn mode s cap w =
    pick (eqb w.pending 0 && leb (length s) w.at) (stop (ok w.done))
    (walk_turned w (next_token mode s cap w.done w.pending w.at))

-- each turn goes on in the region, so the loop stops; `fault 0 0` is never the answer
unfoldable pub starts_from : Mode → List ℕ → ℕ → Walk → Answer Fault (List ℕ)
starts_from mode s cap w = from (walk_turn mode s cap) (λ v. length s - v.at) (error (fault 0 0)) w
