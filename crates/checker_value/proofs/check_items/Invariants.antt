-- `checker_value::check_items` meets its contract. The invariant: the items left yield the same as all of the items.
use mathlib.Core.Path.{◌≡◌}
use Prim.Native.Nat.{ℕ, ◌-◌, ◌≤◌}
use lib.ListN.{length}
use Rattle.checker_value.specs.Walk.{starts_from}
use Rattle.checker_value.specs.Internal.{in_value}
use Rattle.checker_value.proofs.check_items.Given as goal

abbrev pub invariant-loop : goal.invariant-loop
invariant-loop l =
    ((cap start : ℕ) → starts_from l.region.mode l.region.bytes.now cap (in_value l.at start (l.items - l.counter) l.starts.words.now)
    ≡ starts_from l.region.mode l.region.bytes.now cap (in_value l.from start l.items l.starts.words.now))
    × (l.from ≤ l.at) × (l.at ≤ length l.region.bytes.now)
