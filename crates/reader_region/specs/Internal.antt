-- What private functions of the crates above require of a head. No contract of a function for users cites this file.
--
--   Peeked s at h     what holds for a head that was looked at as a value at `at` of the region s
use Rattle.std.specs.Prelude.{ℕ, ◌≤◌, ◌<◌, List, length}
use Rattle.kind.specs.Kind.{rule}
use Rattle.scan.specs.declared.Head.{Head}

pub record Peeked (s : List ℕ) (at : ℕ) (h : Head) : Type 0 where
  pub body : h.first ≤ h.end
  pub end : h.end ≤ length s
  pub used : 0 < (rule h.kind).lows
  pub most : h.n ≤ (rule h.kind).most
  pub target : 14 ≤ h.kind → h.n < at
