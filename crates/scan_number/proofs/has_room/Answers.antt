-- `scan_number::has_room` meets its contract: if n counts anything, it is at most the bytes left, so nothing wraps.
use mathlib.Core.Path.{◌≡◌}
use mathlib.Core.Bool.{true, false, ◌&&◌}
use Prim.Native.Nat.{ℕ, ◌+◌, ◌-◌, ◌*◌, ◌^◌, ◌≤◌, ◌<◌, min}
use native.Mathlib.Nat.{add-mul, mul-le-mul_left, mul-le-mul_right, zero-mul}
use native.Mathlib.Omega.{arith}
use lib.Dec.{leb, ltb}
use borrow.Author.Tests.{lt-leb, ltb-true}
use Rattle.prelude.proofs.Tests.{facts, and_l, and_r, and_false}
use Rattle.kind.specs.Kind.{size}
use Rattle.kind.specs.declared.Rule.{Rule}
use Rattle.kind.specs.Internal.{Row}
use Rattle.scan_number.proofs.has_room.Goals as goal

module _ (r : Rule) (n left : ℕ) where
  abbrev unit : ℕ
  unit = r.scale + r.each

  abbrev need : ℕ
  need = r.fixed + unit * n

  -- body and counted items in one sum
  need_is : size r n + r.each * n ≡ need
  need_is = rw add-mul (omega arith)

  -- n bytes, items or pairs are more than the bytes left
  room_count : ltb 0 unit && ltb left n ≡ true → false ≡ leb (size r n + r.each * n) left
  room_count e =
      let u : 0 < unit = ltb-true 0 unit (and_l _ _ e) in
      let over : left < need = omega (arith, ltb-true left n (and_r (ltb 0 unit) _ e), mul-le-mul_right n u) in
      rw (need_is, lt-leb need left over)

  room_need : leb need left ≡ leb (size r n + r.each * n) left
  room_need = rw need_is

  -- if n counts anything, it is at most `left`, and no factor up to the unit wraps
  need_lt : (u : ℕ) → u ≤ unit → Row r → n ≤ r.most → left < 2 ^ 63 → ltb 0 unit && ltb left n ≡ false → r.fixed + u * n < 2 ^ 64
  need_lt u most row h l e =
      and_false (ltb 0 unit) (ltb left n) e
      (λ none. let z : u ≡ 0 = omega facts in rw z (omega (arith, zero-mul n, row.need)))
      (λ some. let m : n ≤ min r.most (2 ^ 63 - 1) = omega facts in omega (arith, mul-le-mul_left unit m, mul-le-mul_right n most, row.need))

-- what the code multiplies n with
abbrev factor : Rule → ℕ
factor r = r.scale + r.each

pub returns-then-unit-left : goal.returns-then-unit-left
returns-then-unit-left c = room_count c.args.rule _ _ c.if-unit-left.true

pub overflow_mul-result : goal.overflow_mul-result
overflow_mul-result c =
    let h = c.requires in
    omega (arith, need_lt c.args.rule _ _ (factor c.args.rule) (omega arith) h.0 h.1 h.2 c.if-unit-left.false)

pub overflow_add-result : goal.overflow_add-result
overflow_add-result c =
    let h = c.requires in
    omega (arith, need_lt c.args.rule _ _ (factor c.args.rule) (omega arith) h.0 h.1 h.2 c.if-unit-left.false)

pub returns : goal.returns
returns c = room_need c.args.rule _ _
