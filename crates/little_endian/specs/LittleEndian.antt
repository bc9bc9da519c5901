-- Numbers as bytes, the lowest first. Float bits are stored this way (document 01, "Row of a file", the body of kind
-- 3): a float is the number that its bits are, and nothing is computed with it. Texts are read so too, eight bytes at a time (W-205).
--
--   little k n    the k lowest bytes of n, the lowest first
--   from_little s  the number that the bytes s hold, the lowest first
--   load k s      the number that the first k bytes of s hold; 0 if s has fewer
use Rattle.std.specs.Prelude.{ℕ, zero, suc, ◌+◌, ◌*◌, ◌/◌, ◌%◌, List, [], ◌∷◌, leb, length, take}
use Rattle.prelude.specs.Pick.{pick}

unfoldable pub little : ℕ → ℕ → List ℕ
little zero n = []
little (suc k) n = n % 256 ∷ little k (n / 256)

unfoldable pub from_little : List ℕ → ℕ
from_little [] = 0
from_little (b ∷ s) = b + 256 * from_little s

unfoldable pub load : ℕ → List ℕ → ℕ
load k s = pick (leb k (length s)) (from_little (take k s)) 0
