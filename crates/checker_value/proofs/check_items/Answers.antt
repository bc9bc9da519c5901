-- `checker_value::check_items` meets its contract. The invariant: the items left yield the same as all of the items.
use mathlib.Core.Path.{◌≡◌, ◌∙◌}
use Prim.Native.Nat.{◌-◌}
use Rattle.std.proofs.Common.{arith, rules}
use Rattle.std.specs.Prelude.{Err}
use Rattle.scan.proofs.Places.{scan_within}
use Rattle.checker_value.proofs.Walks.{token_unscanned, token_bad_text, token_bad_target, token_taken, item_error, item_further, items_end}
use Rattle.checker_value.proofs.check_items.Goals as goal

pub returns-in_err-h : goal.returns-in_err-h
returns-in_err-h c =
    let e = token_unscanned _ _ _ c.args.starts.words.now _ _ c.in_err-h.ensures in
    let refused : c.from_residual.result ≡ Err c.in_err-h.field-0.0 = search rules in
    rw refused (λ cap start. item_error _ _ _ _ _ (omega arith) cap start _ e ∙ c.loop.invariant.0 cap start, tt)

pub is_bad_text-requires : goal.is_bad_text-requires
is_bad_text-requires c = let w = scan_within _ _ _ _ _ c.in_ok-h.ensures in (w.body, w.end)

pub returns-then-is_bad_text : goal.returns-then-is_bad_text
returns-then-is_bad_text c =
    let e = token_bad_text _ _ _ c.args.starts.words.now _ _ c.in_ok-h.ensures _ c.is_bad_text.ensures c.if-is_bad_text.true in
    (λ cap start. item_error _ _ _ _ _ (omega arith) cap start _ e ∙ c.loop.invariant.0 cap start, tt)

pub returns-then-is_bad_target : goal.returns-then-is_bad_target
returns-then-is_bad_target c =
    let e = token_bad_target _ _ _ _ _ _ c.in_ok-h.ensures _ c.is_bad_text.ensures
    c.if-is_bad_text.false _ c.is_bad_target.ensures c.if-is_bad_target.true in
    (λ cap start. item_error _ _ _ _ _ (omega arith) cap start _ e ∙ c.loop.invariant.0 cap start, tt)

pub loop-preserved : goal.loop-preserved
loop-preserved c =
    let i = c.loop.invariant in
    let e = token_taken _ _ _ _ _ _ c.in_ok-h.ensures _ c.is_bad_text.ensures
    c.if-is_bad_text.false _ c.is_bad_target.ensures c.if-is_bad_target.false in
    let w = scan_within _ _ _ _ _ c.in_ok-h.ensures in
    (λ cap start. item_further _ _ _ _ _ (omega arith) cap start _ e _ (omega arith) ∙ i.0 cap start, omega (arith, i.1, w.numbers, w.body), w.end)

pub returns : goal.returns
returns c =
    let i = c.loop.invariant in
    (λ cap start. items_end _ _ c.args.starts.words.now _ (c.args.items - c.loop.counter) (omega arith) cap start ∙ i.0 cap start, (i.1, i.2))
