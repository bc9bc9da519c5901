-- What private functions of prune_marks ensure. No contract of a public function cites this file.
--
--   digits_of k         the four digits that keep k, the lowest first
--   Digits t u i ds    u is t with the digits ds stored from word number i on
use Rattle.std.specs.Prelude.{◌≡◌, ℕ, ◌/◌, ◌%◌, List, [], ◌∷◌, map}
use Rattle.std.proofs.lemmas.List.Edits.{sets}
use Rattle.prune_marks.specs.Marks.{starts_in, marks_in, digit}

abbrev pub digits_of : ℕ → List ℕ
digits_of k = k % 128 ∷ k / 128 % 128 ∷ k / 128 / 128 % 128 ∷ k / 128 / 128 / 128 % 128 ∷ []

pub record Digits (t u : List ℕ) (i : ℕ) (ds : List ℕ) : Type 0 where
  pub starts : starts_in u ≡ starts_in t
  pub marks : marks_in u ≡ marks_in t
  pub digits : map digit u ≡ sets (map digit t) i ds
