-- `leb128::get` meets its contract: the first byte, and after a continuation byte the rest by `get_from`.
use mathlib.Core.Path.{refl, ◌∙◌}
use native.Mathlib.Omega.{arith}
use borrow.Author.Rules.{rules}
use Rattle.leb128.proofs.Steps.{get_none, first_rest, last_first, get_last, get_more, get_small}
use Rattle.leb128.proofs.get.Goals as goal

pub returns-in_err-b : goal.returns-in_err-b
returns-in_err-b c = search (rules, get_none c.args.s.now c.split_first.ensures.cases c.args.mode 9 0 c.in_err-b.ensures.ok_part c.in_err-b.ensures.value)

pub returns-then-b-lt128 : goal.returns-then-b-lt128
returns-then-b-lt128 c =
    let is = first_rest _ c.split_first.ensures.cases c.in_ok-b.ensures.ok_part in
    rw (c.from.ensures) (last_first _ _ ∙ get_last _ _ _ is refl c.if-b-lt128.true)

pub with_low-requires : goal.with_low-requires
with_low-requires c = omega (arith, get_small _ _ _ _ c.in_ok-get_from.ensures 8 (omega arith))

pub returns-in_err-get_from : goal.returns-in_err-get_from
returns-in_err-get_from c =
    let is = first_rest _ c.split_first.ensures.cases c.in_ok-b.ensures.ok_part in
    search (rules, get_more _ _ 0 is refl c.if-b-lt128.false c.in_err-get_from.ensures)

pub returns : goal.returns
returns c =
    let is = first_rest _ c.split_first.ensures.cases c.in_ok-b.ensures.ok_part in
    rw c.with_low.ensures (get_more _ _ _ is refl c.if-b-lt128.false c.in_ok-get_from.ensures)
