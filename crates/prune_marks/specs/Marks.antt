-- A table of starts that keeps a mark and a digit with each: a word is the sum of 256 times a start, twice a digit below 128, and 1 if it is marked.
-- Offsets are below 2 ^ 24, so this fits 32 bits, and such words rise as the starts do.
--
--   starts_in t         the starts that a table keeps
--   is_marked w         whether a word is marked
--   marks_in t          the marks that a table keeps
--   kept ms            how many are marked
--   digit w            the digit of a word
--   four t i           the number that the digits of four words make, from word number i on, the lowest digit first
--   NumberedTo n t     in the first n words of t, the digits of each four make the number of marks from the table's first word to the last of the four
--   Indexed t blocks   the starts that t keeps rise, and are counted by `blocks`
--   Numbers t u        u keeps the starts and the marks of t, and is numbered
use Rattle.std.specs.Prelude.{◌≡◌, ℕ, ◌+◌, ◌*◌, ◌/◌, ◌%◌, ◌≤◌, Bool, List, [], ◌∷◌, map, eqb, length, take, get_or}
use Rattle.prelude.specs.Pick.{pick}
use Rattle.prelude.specs.Search.{Rising}
use Rattle.table.specs.Blocks.{Counted}

abbrev pub starts_in : List ℕ → List ℕ
starts_in t = map (λ w. w / 256) t

abbrev pub is_marked : ℕ → Bool
is_marked w = eqb (w % 2) 1

abbrev pub marks_in : List ℕ → List Bool
marks_in t = map is_marked t

unfoldable pub kept : List Bool → ℕ
kept [] = 0
kept (m ∷ ms) = pick m 1 0 + kept ms

abbrev pub digit : ℕ → ℕ
digit w = w / 2 % 128

unfoldable pub four : List ℕ → ℕ → ℕ
four t i = digit (get_or t i 0) + 128 * digit (get_or t (i + 1) 0) + 16384 * digit (get_or t (i + 2) 0) + 2097152 * digit (get_or t (i + 3) 0)

abbrev pub NumberedTo : ℕ → List ℕ → Type 0
NumberedTo n t = (g : ℕ) → 4 * g + 4 ≤ n → four t (4 * g) ≡ kept (take (4 * g + 4) (marks_in t))

pub record Indexed (t blocks : List ℕ) : Type 0 where
  pub rising : Rising (starts_in t)
  pub counted : Counted blocks (starts_in t)

pub record Numbers (t u : List ℕ) : Type 0 where
  pub starts : starts_in u ≡ starts_in t
  pub marks : marks_in u ≡ marks_in t
  pub numbered : NumberedTo (length u) u
