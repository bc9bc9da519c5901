-- The writer's calls (document 01, "Writer"): each immediate, the five openings, and the close.
--
--   Call    a call with its arguments; a reference, a pointer and a close name a value by its offset
use Rattle.std.specs.Prelude.{ℕ, List, ℤ}
use Rattle.writer.specs.declared.Scalar.{Scalar}

pub data Call : Type 0 where
  scalar : Scalar → Call
  integer : ℤ → Call
  -- the bits of a float
  float32 : ℕ → Call
  float64 : ℕ → Call
  text : List ℕ → Call
  bytes : List ℕ → Call
  -- a variant's index
  variant : ℕ → Call
  reference : ℕ → Call
  pointer : ℕ → Call
  -- how many items, or pairs
  open_array : ℕ → Call
  open_map : ℕ → Call
  -- the tag
  open_tag : ℕ → Call
  -- a variant's index, and how many arguments
  open_variant1 : ℕ → Call
  open_variant_n : ℕ → ℕ → Call
  close : ℕ → Call
