-- Pointers followed (document 01, "Questions at an offset"), in unchecked files.
--
--   Followed, followed at hops h
--                       a value that following reached, with its offset and its head, and the pointers met
--   Position, position at hops
--                       an offset, and the pointers met before it
--   follow_turned p a    the turn at p, if the token there was looked at with the answer a
--   follow_turn mode s p
--                       one turn: a pointer leads on to its target; a value of another kind is the answer
--   follow_from mode s p
--                       from the position p, from pointer to pointer to a value of another kind
--   follow_head_of mode file at
--                       the same from any offset of a file; it begins with `in_region`: EMPTY, TOO_LONG, OUTSIDE
--   follow_in, follow_of  the same from an offset of a region, and of a file: offset and hops
use Rattle.std.specs.Prelude.{ℕ, ◌+◌, ◌-◌, false, List, eqb}
use Rattle.prelude.specs.Pick.{pick}
use Rattle.prelude.specs.Answer.{Answer, ok, error, bind}
use Rattle.prelude.specs.Loop.{Turn, go, stop, from}
use Rattle.error.specs.Error.{Fault, fault}
use Rattle.leb128.specs.declared.Mode.{Mode}
use Rattle.scan.specs.declared.Head.{Head}
use Rattle.reader_region.specs.Region.{in_region, peek_in}

pub record Followed : Type 0 where
  pub place : ℕ
  pub hops : ℕ
  pub head : Head

abbrev pub followed : ℕ → ℕ → Head → Followed
followed at hops h = record { place = at; hops = hops; head = h }

pub record Position : Type 0 where
  pub place : ℕ
  pub hops : ℕ

abbrev pub position : ℕ → ℕ → Position
position at hops = record { place = at; hops = hops }

abbrev pub follow_turned : Position → Answer Fault Head → Turn Position (Answer Fault Followed)
follow_turned p (ok h) = pick (eqb h.kind 15) (go (position (p.place - h.n - 1) (p.hops + 1))) (stop (ok (followed p.place p.hops h)))
follow_turned p (error e) = stop (error e)

unfoldable pub follow_turn : Mode → List ℕ → Position → Turn Position (Answer Fault Followed)
follow_turn mode s p = follow_turned p (peek_in mode false s p.place)

-- each pointer leads to a lower offset, so the loop stops; `fault 0 0` is never the answer
unfoldable pub follow_from : Mode → List ℕ → Position → Answer Fault Followed
follow_from mode s p = from (follow_turn mode s) (λ q. q.place) (error (fault 0 0)) p

abbrev pub follow_head_of : Mode → List ℕ → ℕ → Answer Fault Followed
follow_head_of mode file at = in_region file at (λ s. follow_from mode s (position at 0))

unfoldable pub follow_in : Mode → List ℕ → ℕ → Answer Fault (ℕ × ℕ)
follow_in mode s at = bind (follow_from mode s (position at 0)) (λ m. ok (m.place, m.hops))

abbrev pub follow_of : Mode → List ℕ → ℕ → Answer Fault (ℕ × ℕ)
follow_of mode file at = in_region file at (λ s. follow_in mode s at)
