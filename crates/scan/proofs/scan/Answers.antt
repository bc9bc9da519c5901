-- `scan::scan` meets its contract: one law of `scan_at` for each way through the code.
use mathlib.Core.Path.{◌≡◌, refl}
use mathlib.Core.Bool.{true, false}
use Prim.Native.Nat.{ℕ, ◌/◌}
use native.Mathlib.Omega.{arith}
use lib.ListN.{get_or}
use borrow.Author.Rules.{rules}
use borrow.Author.Tests.{le-leb, lt-leb}
use Rattle.std.specs.Prelude.{Result, Ok, Err, MatchResult, is_ok}
use Rattle.prelude.proofs.Parts.{part_from}
use Rattle.prelude.proofs.Tests.{le_of_flag}
use Rattle.scan.proofs.Steps.{ruled_row, Number, Second, scan_past, scan_reserved, scan_nested}
use Rattle.scan.proofs.Steps.{scan_numbered, scan_number, scan_counted, scan_second, scan_bare, scan_full, scan_sized}
use Rattle.scan.proofs.scan.Goals as goal
use Rattle.scan.proofs.scan.Goals.{In_ok-number, In_ok-args}

-- what was read, and the error that was placed, after `map_err`
mapped_ok : {T E : Type 0} (D : Type 0) (r : Result T E) (Q : E → Type 0) {v : T} → true ≡ is_ok r
    → MatchResult r (λ x. ◌≡◌ {A = Result T D} (Ok v) (Ok x)) Q → r ≡ Ok v
mapped_ok D (Ok x) Q t m = cc
mapped_ok D (Err e) Q t m = cc

mapped_err : {T E : Type 0} (r : Result T E) (P : T → Type 0) (Q : E → Type 0) → false ≡ is_ok r → MatchResult r P Q → (e : E) × (r ≡ Err e) × Q e
mapped_err (Ok x) P Q t m = cc
mapped_err (Err e) P Q t m = (e, refl, m)

-- the numbers that were read
read : (c : In_ok-number) → Number c.args.mode c.args.inner c.args.region.now c.args.at (get_or c.args.region.now c.args.at 0 / 16) c.rule_of-rule.result
    c.in_ok-number.number.value c.in_ok-number.number.left
read c =
    let is = mapped_ok _ c.number.result _ c.in_ok-number.ensures.variant c.in_ok-number.ensures.cases in
    scan_number _ _ _ _ c.if-len-at.false c.rule_of-rule.ensures c.if-rule-low.false c.is_immediate-immediate.ensures c.if-inner-immediate.false
    (rw (part_from, is) at c.number.ensures)

second : (c : In_ok-args) {k : ℕ}
    → Number c.args.mode c.args.inner c.args.region.now c.args.at k c.rule_of-rule.result c.in_ok-number.number.value c.in_ok-number.number.left
    → Second c.args.mode c.args.inner c.args.region.now c.args.at k c.in_ok-number.number.value c.in_ok-args.args.value c.in_ok-args.args.left
second c b =
    let is = mapped_ok _ c.get.result _ c.in_ok-args.ensures.variant c.in_ok-args.ensures.cases in
    scan_second b c.if-rule.true (rw (part_from, is) at c.get.ensures)

pub returns-then-len-at : goal.returns-then-len-at
returns-then-len-at c = search (scan_past, arith)

pub returns-then-rule-low : goal.returns-then-rule-low
returns-then-rule-low c = scan_reserved _ _ _ _ c.if-len-at.false c.rule_of-rule.ensures c.if-rule-low.true

pub returns-then-inner-immediate : goal.returns-then-inner-immediate
returns-then-inner-immediate c =
    scan_nested _ _ _ _ c.if-len-at.false c.rule_of-rule.ensures c.if-rule-low.false c.is_immediate-immediate.ensures c.if-inner-immediate.true

pub number-requires : goal.number-requires
number-requires c = let r = ruled_row _ c.rule_of-rule.ensures in (omega (arith, r.lows), omega arith)

pub returns-in_err-number : goal.returns-in_err-number
returns-in_err-number c =
    let m = mapped_err c.number.result _ _ c.in_err-number.ensures.variant c.in_err-number.ensures.cases in
    let is : c.in_err-number.field-0.0 ≡ record { kind = m.0; place = c.args.at } = search (rules, m.2) in
    let step = scan_numbered _ _ _ _ c.if-len-at.false c.rule_of-rule.ensures c.if-rule-low.false c.is_immediate-immediate.ensures c.if-inner-immediate.false
    (rw (part_from, m.1) at c.number.ensures) in
    search (rules, is, step)

pub overflow_sub-first : goal.overflow_sub-first
overflow_sub-first c = (read (goal.at.overflow_sub-first c).In_ok-number).short

-- the second number
pub returns-in_err-args : goal.returns-in_err-args
returns-in_err-args c =
    let m = mapped_err c.get.result _ _ c.in_err-args.ensures.variant c.in_err-args.ensures.cases in
    let is : c.in_err-args.field-0.0 ≡ record { kind = m.0; place = c.args.at } = search (rules, m.2) in
    let step = scan_counted (read (goal.at.returns-in_err-args c).In_ok-number) c.if-rule.true (rw (part_from, m.1) at c.get.ensures) in
    search (rules, is, step)

pub overflow_sub-after : goal.overflow_sub-after
overflow_sub-after c = (second (goal.at.overflow_sub-after c).In_ok-args (read (goal.at.overflow_sub-after c).In_ok-number)).short

pub returns-then-args : goal.returns-then-args
returns-then-args c = rw (← (second (goal.at.returns-then-args c).In_ok-args (read (goal.at.returns-then-args c).In_ok-number)).whole, lt-leb _ _ c.if-args.true)

pub returns-then-rule : goal.returns-then-rule
returns-then-rule c = rw (← (second (goal.at.returns-then-rule c).In_ok-args (read (goal.at.returns-then-rule c).In_ok-number)).whole, le-leb _ _ c.if-args.false)

-- none
pub returns-then-rule-2 : goal.returns-then-rule-2
returns-then-rule-2 c = scan_bare (read (goal.at.returns-then-rule-2 c).In_ok-number) c.if-rule.false c.if-rule-2.true

pub has_room-room-requires : goal.has_room-room-requires
has_room-room-requires c = let b = read (goal.at.has_room-room-requires c).In_ok-number in (b.row, b.most, omega (arith, b.short, c.well_formed.0.1))

pub returns-then-not-room : goal.returns-then-not-room
returns-then-not-room c =
    scan_full (read (goal.at.returns-then-not-room c).In_ok-number) c.if-rule.false c.has_room-room.ensures (rw c.if-not-room.true) c.shortage.ensures

pub overflow_add-result : goal.overflow_add-result
overflow_add-result c =
    let b = read (goal.at.overflow_add-result c).In_ok-number in
    omega (arith, le_of_flag _ _ c.has_room-room.ensures c.if-not-room.false, b.short, b.row.single, c.well_formed.0.1)

pub returns : goal.returns
returns c = scan_sized (read (goal.at.returns c).In_ok-number) c.if-rule.false c.has_room-room.ensures (rw c.if-not-room.false)
