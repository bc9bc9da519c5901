-- Laws of items one after the other.
use Rattle.std.proofs.Common.{◌≡◌, ℕ, suc, ◌+◌, ◌-◌, ◌≤◌, ◌<◌, true, List, arith}
use Rattle.prelude.specs.Answer.{ok, error, bind}
use Rattle.error.specs.Error.{Fault}
use Rattle.leb128.specs.declared.Mode.{Mode}
use Rattle.scan.specs.declared.Head.{Head}
use Rattle.reader_region.specs.Region.{peek_in}
use Rattle.reader_items.specs.Items.{skip_items}

module _ (mode : Mode) (s : List ℕ) (q : ℕ) where
  pub walk_none : (k : ℕ) → k ≤ 0 → ok q ≡ skip_items mode s k q
  unfolding skip_items
  walk_none k h = let none : k ≡ 0 = omega arith in rw none

  -- of `items` items, i are passed
  module _ (items i : ℕ) (more : i < items) where
    pub walk_item : (h : Head) → ok h ≡ peek_in mode true s q → skip_items mode s (items - i) q ≡ skip_items mode s (items - (i + 1)) h.end
    unfolding skip_items bind
    walk_item h e = let one : items - i ≡ suc (items - (i + 1)) = omega arith in rw (one, ← e)

    pub walk_error : (f : Fault) → error f ≡ peek_in mode true s q → skip_items mode s (items - i) q ≡ error f
    unfolding skip_items bind
    walk_error f e = let one : items - i ≡ suc (items - (i + 1)) = omega arith in rw (one, ← e)

-- for a loop over items
pub ruleset walk = (walk_none, walk_item, walk_error)
