-- What this crate's private functions return. No public contract cites this file.
--
--   last least b left   the answer at a last byte b, with `left` bytes after it
--   tenth least b left  the same for the tenth byte, the last allowed one
use Rattle.std.specs.Prelude.{ℕ, ltb, leb}
use Rattle.prelude.specs.Pick.{pick}
use Rattle.prelude.specs.Answer.{Answer, ok, error}
use Rattle.error.specs.Error.{OVERLONG, RANGE}

unfoldable pub last : ℕ → ℕ → ℕ → Answer ℕ (ℕ × ℕ)
last least b left = pick (leb least b) (ok (b, left)) (error OVERLONG)

abbrev pub tenth : ℕ → ℕ → ℕ → Answer ℕ (ℕ × ℕ)
tenth least b left = pick (ltb b 2) (last least b left) (error RANGE)
