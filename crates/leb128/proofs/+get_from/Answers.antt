-- `leb128::get_from` meets its contract: each call reads one byte, and the bytes allowed after it fall.
use mathlib.Core.Path.{◌≡◌}
use Prim.Native.Nat.{ℕ, suc, ◌-◌}
use native.Mathlib.Omega.{arith}
use borrow.Author.Rules.{rules}
use Rattle.leb128.specs.Leb.{least_of}
use Rattle.leb128.proofs.Steps.{get_none, first_rest, get_tenth, get_last, get_more, get_small}
use Rattle.leb128.proofs.+get_from.Goals as goal

above : {k : ℕ} → (k ≡ 0 → ⊥) → k ≡ suc (k - 1)
above h = omega arith

pub returns-in_err-b : goal.returns-in_err-b
returns-in_err-b t c =
    search (rules, get_none c.args.tail.now c.split_first.ensures.cases c.args.mode c.args.k (least_of c.args.mode) c.in_err-b.ensures.ok_part c.in_err-b.ensures.value)

pub returns-then-k-eq0 : goal.returns-then-k-eq0
returns-then-k-eq0 t c =
    rw c.tenth_byte.ensures (get_tenth _ _ _ (first_rest _ c.split_first.ensures.cases c.in_ok-b.ensures.ok_part) c.if-k-eq0.true)

pub returns-then-b-lt128 : goal.returns-then-b-lt128
returns-then-b-lt128 t c =
    let is = first_rest _ c.split_first.ensures.cases c.in_ok-b.ensures.ok_part in
    rw c.last_byte.ensures (get_last _ _ _ is (above c.if-k-eq0.false) c.if-b-lt128.true)

pub with_low-requires : goal.with_low-requires
with_low-requires t c = omega (arith, get_small _ _ _ _ c.in_ok-get_from.ensures 8 (omega arith))

pub returns-in_err-get_from : goal.returns-in_err-get_from
returns-in_err-get_from t c =
    let is = first_rest _ c.split_first.ensures.cases c.in_ok-b.ensures.ok_part in
    search (rules, get_more _ _ (least_of c.args.mode) is (above c.if-k-eq0.false) c.if-b-lt128.false c.in_err-get_from.ensures)

pub returns : goal.returns
returns t c =
    let is = first_rest _ c.split_first.ensures.cases c.in_ok-b.ensures.ok_part in
    rw c.with_low.ensures (get_more _ _ _ is (above c.if-k-eq0.false) c.if-b-lt128.false c.in_ok-get_from.ensures)
