-- What the functions of depths_value and depths require. No contract of a function for users cites this file.
--
--   Starts s ss    ss is rising, and its words are offsets of the region s
use Rattle.std.specs.Prelude.{ℕ, ◌<◌, List, length, get_or}
use Rattle.prelude.specs.Search.{Rising}

pub record Starts (s ss : List ℕ) : Type 0 where
  pub rising : Rising ss
  pub inside : (i : ℕ) → i < length ss → get_or ss i 0 < length s
