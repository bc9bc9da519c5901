-- Words in a list: whether one is there, and its rank.
--
--   among x xs    whether x is one of xs
--   rank x xs     how many of xs are less than x: its index, if xs is rising and x is one of them
--   Rising xs     each is less than those after it
use Rattle.std.specs.Prelude.{ℕ, ◌+◌, ◌<◌, Bool, false, ◌||◌, List, [], ◌∷◌, eqb, ltb, length, get_or}
use Rattle.prelude.specs.Pick.{pick}

unfoldable pub among : ℕ → List ℕ → Bool
among x [] = false
among x (y ∷ ys) = eqb x y || among x ys

unfoldable pub rank : ℕ → List ℕ → ℕ
rank x [] = 0
rank x (y ∷ ys) = pick (ltb y x) 1 0 + rank x ys

abbrev pub Rising : List ℕ → Type 0
Rising xs = (i j : ℕ) → i < j → j < length xs → get_or xs i 0 < get_or xs j 0
