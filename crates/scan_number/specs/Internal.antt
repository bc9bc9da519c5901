-- The number n of a header. No contract of a function for users cites this file.
--
--   inRange low most a   n from the low nibble and the number a after it, with the bytes left: RANGE if it is over `most`
--   numbered mode low most s
--                        the same, with the number read from the front of s if low is 15
use Rattle.std.specs.Prelude.{ℕ, ◌+◌, List, leb}
use Rattle.prelude.specs.Pick.{pick}
use Rattle.prelude.specs.Answer.{Answer, ok, error, measured}
use Rattle.error.specs.Error.{RANGE}
use Rattle.leb128.specs.declared.Mode.{Mode}
use Rattle.token.specs.Scan.{get_if}

abbrev pub in_range : ℕ → ℕ → Answer ℕ (ℕ × ℕ) → Answer ℕ (ℕ × ℕ)
in_range low most (ok a) = pick (leb (low + a.0) most) (ok (low + a.0, a.1)) (error RANGE)
in_range low most (error e) = error e

unfoldable pub numbered : Mode → ℕ → ℕ → List ℕ → Answer ℕ (ℕ × ℕ)
numbered mode low most s = in_range low most (measured (get_if mode (leb 15 low) s))
