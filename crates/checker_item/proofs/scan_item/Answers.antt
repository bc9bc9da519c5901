-- `checker_item::scan_item` meets its contract: an immediate without a fault by the laws of `scan_at`, all else by `scan`.
use mathlib.Core.Path.{◌≡◌, sym, ◌∙◌}
use mathlib.Core.Bool.{Bool, true, ◌&&◌}
use mathlib.Core.List.{List}
use Prim.Native.Nat.{ℕ, ◌+◌, ◌/◌, ◌%◌, ◌<◌}
use native.Mathlib.Omega.{arith}
use lib.Dec.{ltb}
use lib.ListN.{length, drop, get_or}
use borrow.Author.Tests.{ltb-true}
use Rattle.prelude.specs.Answer.{ok}
use Rattle.prelude.proofs.Parts.{part_from}
use Rattle.prelude.proofs.Tests.{and_l, and_r}
use Rattle.leb128.specs.declared.Mode.{Mode}
use Rattle.kind.specs.Kind.{rule, immediate}
use Rattle.kind.specs.declared.Rule.{Rule}
use Rattle.kind.proofs.Laws.{None, immediate_none}
use Rattle.scan_number.specs.Internal.{numbered}
use Rattle.scan.proofs.Steps.{Number, ruled_row, scan_number, item_bare, item_sized}
use Rattle.checker_item.proofs.scan_item.Goals as goal
use Rattle.checker_item.proofs.scan_item.Goals.{In-Ok}

-- an immediate whose low nibble is in use, as the test says
module _ (s : List ℕ) (at : ℕ) {r : Rule} (ruled : r ≡ rule (get_or s at 0 / 16)) {i : Bool} (flat : i ≡ immediate r)
    (plain : ltb (get_or s at 0 % 16) r.lows && i ≡ true) where
  used : get_or s at 0 % 16 < r.lows
  used = ltb-true _ _ (and_l _ i plain)

  none : None r
  none = rw ruled (immediate_none _ (rw ruled at (sym flat ∙ and_r (ltb (get_or s at 0 % 16) r.lows) _ plain)))

  number : (mode : Mode) → at < length s → {n left : ℕ} → ok (n, left) ≡ numbered mode (get_or s at 0 % 16) r.most (drop (at + 1) s)
      → Number mode true s at (get_or s at 0 / 16) r n left
  number mode there e = scan_number mode true s at there ruled used flat (rw (and_r (ltb (get_or s at 0 % 16) r.lows) _ plain)) e

-- the number that was read, and that the item has no items
read : (c : In-Ok) → Number c.args.mode true c.args.region.now c.args.at (get_or c.args.region.now c.args.at 0 / 16) c.rule_of-rule.result
    c.in-Ok.number.value c.in-Ok.number.left
read c =
    number c.args.region.now c.args.at c.rule_of-rule.ensures c.is_immediate-immediate.ensures c.if-not-plain.false
    _ c.if-len-at.false (rw part_from at c.in-Ok.ensures)

flat : (c : In-Ok) → None c.rule_of-rule.result
flat c = none c.args.region.now c.args.at c.rule_of-rule.ensures c.is_immediate-immediate.ensures c.if-not-plain.false

pub number-requires : goal.number-requires
number-requires c =
    let r = ruled_row _ c.rule_of-rule.ensures in
    let u = used c.args.region.now c.args.at c.rule_of-rule.ensures c.is_immediate-immediate.ensures c.if-not-plain.false in
    (omega (arith, r.lows, u), omega arith)

pub overflow_sub-first : goal.overflow_sub-first
overflow_sub-first c = (read (goal.at.overflow_sub-first c).In-Ok).short

pub returns-then-rule-eq0 : goal.returns-then-rule-eq0
returns-then-rule-eq0 c =
    let o = (goal.at.returns-then-rule-eq0 c).In-Ok in
    item_bare (read o) (flat o) c.if-rule-eq0.true

pub has_room-room-requires : goal.has_room-room-requires
has_room-room-requires c = let b = read (goal.at.has_room-room-requires c).In-Ok in (b.row, b.most, omega (arith, b.short, c.well_formed.0.1))

pub returns : goal.returns
returns c =
    let o = (goal.at.returns c).In-Ok in
    item_sized (read o) (flat o) c.has_room-room.ensures (rw c.if-not-room.false)
