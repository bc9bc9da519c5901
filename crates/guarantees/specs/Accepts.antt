-- What check's answers mean, in terms of values (document 01, "Row of a file", "Check and depths").
--
--   Accepted mode file cap count entry table
--                      the file is well formed, with `count` values and the entry `entry`; a table of cap words has a
--                      word for each value, and becomes `table`: their starts, and zeros after them
--   Overfull mode file cap p
--                      the first p bytes of the file are cap values that a file may begin with, and the region goes on
--                      at p: with one value more than there are words
use Rattle.std.specs.Prelude.{ℕ, ◌-◌, ◌≤◌, ◌<◌, ◌≡◌, List, length, take}
use Rattle.error.specs.Error.{LIMIT}
use Rattle.leb128.specs.declared.Mode.{Mode}
use Rattle.values.specs.Values.{Value, region, starts, Values, WellFormed}
use Rattle.checker.specs.Check.{filled}

pub record Accepted (mode : Mode) (file : List ℕ) (cap count entry : ℕ) (table : List ℕ) : Type 0 where
  pub values : List Value
  pub well_formed : WellFormed mode file values entry
  pub counted : count ≡ length values
  pub room : length values ≤ cap
  pub listed : table ≡ filled cap (starts 0 values)

pub record Overfull (mode : Mode) (file : List ℕ) (cap p : ℕ) : Type 0 where
  pub short : length file ≤ LIMIT
  pub values : List Value
  pub formed : Values mode values
  pub count : length values ≡ cap
  pub same : take p file ≡ region values
  pub place : length (region values) ≡ p
  -- the delta byte is at length file - 1
  pub more : p < length file - 1
