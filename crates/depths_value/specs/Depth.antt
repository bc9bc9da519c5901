-- The depth of a value (document 01, "Check and depths"), from the depths of the values before it.
--
--   target_depth ss ds at h     the depth of the target of the token with head h at `at`, or 0 if it has none; ss are
--                              the starts of the values, and ds the depths of those before this one
--   DepthState, depth_state at deep
--                              an offset, and the greatest depth so far
--   depth_turned ss ds w a      the turn at w, if the token there was scanned with the answer a
--   depth_turn mode s ss ds end w
--                              one turn: a token that starts before `end`; the state keeps the greatest depth of a target
--   deepest_from mode s ss ds end w
--                              the greatest depth of a target of the tokens of the region s, from the state w on up to
--                              `end`; a token that does not scan ends it, which no accepted file has
--   deepest_in mode s ss ds end at
--                              the same from the offset `at` on
--   depth_at mode s ss ds i     the depth of value number i: one more than the greatest depth of its targets
--   depths_to mode s ss k       the depths of the first k values
use Rattle.std.specs.Prelude.{ℕ, zero, suc, ◌-◌, max, false, ◌&&◌, List, [], ◌∷◌, ◌++◌, ltb, leb, length, get_or}
use Rattle.prelude.specs.Pick.{pick}
use Rattle.prelude.specs.Answer.{Answer, ok, error}
use Rattle.prelude.specs.Loop.{Turn, go, stop, from}
use Rattle.prelude.specs.Search.{rank}
use Rattle.error.specs.Error.{Fault}
use Rattle.leb128.specs.declared.Mode.{Mode}
use Rattle.scan.specs.Answers.{scan_at}
use Rattle.scan.specs.declared.Head.{Head}

abbrev pub target_depth : List ℕ → List ℕ → ℕ → Head → ℕ
target_depth ss ds at h = pick (leb 14 h.kind && ltb h.n at) (get_or ds (rank (at - h.n - 1) ss) 0) 0

pub record DepthState : Type 0 where
  pub at : ℕ
  pub deep : ℕ

abbrev pub depth_state : ℕ → ℕ → DepthState
depth_state at deep = record { at = at; deep = deep }

abbrev pub depth_turned : List ℕ → List ℕ → DepthState → Answer Fault Head → Turn DepthState ℕ
depth_turned ss ds w (ok h) = go (depth_state h.end (max w.deep (target_depth ss ds w.at h)))
depth_turned ss ds w (error e) = stop w.deep

unfoldable pub depth_turn : Mode → List ℕ → List ℕ → List ℕ → ℕ → DepthState → Turn DepthState ℕ
depth_turn mode s ss ds end w = pick (leb end w.at) (stop w.deep) (depth_turned ss ds w (scan_at mode false s w.at))

unfoldable pub deepest_from : Mode → List ℕ → List ℕ → List ℕ → ℕ → DepthState → ℕ
deepest_from mode s ss ds end w = from (depth_turn mode s ss ds end) (λ v. length s - v.at) 0 w

abbrev pub deepest_in : Mode → List ℕ → List ℕ → List ℕ → ℕ → ℕ → ℕ
deepest_in mode s ss ds end at = deepest_from mode s ss ds end (depth_state at 0)

-- value number i ends where the next one starts, and the last at the region's end
unfoldable pub depth_at : Mode → List ℕ → List ℕ → List ℕ → ℕ → ℕ
depth_at mode s ss ds i = suc (deepest_in mode s ss ds (get_or ss (suc i) (length s)) (get_or ss i 0))

unfoldable pub depths_to : Mode → List ℕ → List ℕ → ℕ → List ℕ
depths_to mode s ss zero = []
depths_to mode s ss (suc k) = let ds = depths_to mode s ss k in ds ++ (depth_at mode s ss ds k ∷ [])
