-- Depths (document 01, "Check and depths").
--
--   Deepened, deepened a t d   an answer, and the tables of starts and depths that it comes with
--   depths_refused cap room e   the error e, and zeros in both tables
--   deepen mode s cap room a   the depths of the values of the region s, for the outcome a of `check_in`
--   depths_of mode file cap room
--                              what depths answers and leaves in tables of cap and room words: check's errors first;
--                              then FULL at the first value without a word in the second table; else check's answer,
--                              with the starts and the depths, each followed by zeros
use Rattle.std.specs.Prelude.{ℕ, ◌-◌, List, ltb, length, take, get_or, replicate}
use Rattle.prelude.specs.Pick.{pick}
use Rattle.prelude.specs.Answer.{Answer, ok, error}
use Rattle.error.specs.Error.{Fault, fault, FULL}
use Rattle.leb128.specs.declared.Mode.{Mode}
use Rattle.depths_value.specs.Depth.{depths_to}
use Rattle.checker.specs.Check.{check_in, filled}

pub record Deepened : Type 0 where
  pub answer : Answer Fault (ℕ × ℕ)
  pub starts : List ℕ
  pub depths : List ℕ

abbrev pub deepened : Answer Fault (ℕ × ℕ) → List ℕ → List ℕ → Deepened
deepened a t d = record { answer = a; starts = t; depths = d }

abbrev pub depths_refused : ℕ → ℕ → Fault → Deepened
depths_refused cap room e = deepened (error e) (replicate cap 0) (replicate room 0)

abbrev pub deepen : Mode → List ℕ → ℕ → ℕ → Answer Fault ((List ℕ) × ℕ) → Deepened
deepen mode s cap room (ok r) =
    let ss = r.0 in
    pick (ltb room (length ss)) (depths_refused cap room (fault FULL (get_or ss room 0)))
    (deepened (ok (length ss, r.1)) (filled cap ss) (filled room (depths_to mode s ss (length ss))))
deepen mode s cap room (error e) = depths_refused cap room e

unfoldable pub depths_of : Mode → List ℕ → ℕ → ℕ → Deepened
depths_of mode file cap room = deepen mode (take (length file - 1) file) cap room (check_in mode file cap)
