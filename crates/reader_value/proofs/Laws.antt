-- The law of the value on a head: the row of its kind.
use mathlib.Core.Path.{◌≡◌}
use Prim.Native.Nat.{ℕ}
use mathlib.Core.List.{List}
use lib.ListN.{get_or}
use Rattle.scan.specs.declared.Head.{Head}
use Rattle.reader_value.specs.Value.{value_rows, value_on}
use Rattle.reader_value.specs.declared.Value.TheVariants.{Null}

pub value_kind : (s : List ℕ) (at : ℕ) (h : Head) (k : ℕ) → h.kind ≡ k → get_or (value_rows s at h) k Null ≡ value_on s at h
unfolding value_on
value_kind s at h k e = rw e
