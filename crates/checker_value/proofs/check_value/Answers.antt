-- `checker_value::check_value` meets its contract.
use mathlib.Core.Path.{◌≡◌}
use Rattle.std.specs.Prelude.{Err}
use Rattle.std.proofs.Common.{rules}
use Rattle.scan.proofs.Places.{scan_within}
use Rattle.checker_value.proofs.Walks.{token_unscanned, token_bad_text, token_bad_target, token_taken, value_error, value_further, ends_after}
use Rattle.checker_value.proofs.check_value.Goals as goal

pub returns-in_err-h : goal.returns-in_err-h
returns-in_err-h c =
    let e = token_unscanned _ _ _ c.args.starts.words.now _ _ c.in_err-h.ensures in
    let refused : c.from_residual.result ≡ Err c.in_err-h.field-0.0 = search rules in
    rw refused (λ cap word. value_error _ _ _ _ c.requires cap word _ e, tt)

pub is_bad_text-requires : goal.is_bad_text-requires
is_bad_text-requires c = let w = scan_within _ _ _ _ _ c.in_ok-h.ensures in (w.body, w.end)

pub returns-then-is_bad_text : goal.returns-then-is_bad_text
returns-then-is_bad_text c =
    let e = token_bad_text _ _ _ c.args.starts.words.now _ _ c.in_ok-h.ensures _ c.is_bad_text.ensures c.if-is_bad_text.true in
    (λ cap word. value_error _ _ _ _ c.requires cap word _ e, tt)

pub returns-then-is_bad_target : goal.returns-then-is_bad_target
returns-then-is_bad_target c =
    let e = token_bad_target _ _ _ _ _ _ c.in_ok-h.ensures _ c.is_bad_text.ensures c.if-is_bad_text.false
    _ c.is_bad_target.ensures c.if-is_bad_target.true in
    (λ cap word. value_error _ _ _ _ c.requires cap word _ e, tt)

pub check_items-requires : goal.check_items-requires
check_items-requires c = (scan_within _ _ _ _ _ c.in_ok-h.ensures).end

pub returns : goal.returns
returns c =
    let e = token_taken _ _ _ _ _ _ c.in_ok-h.ensures _ c.is_bad_text.ensures c.if-is_bad_text.false
    _ c.is_bad_target.ensures c.if-is_bad_target.false in
    let w = scan_within _ _ _ _ _ c.in_ok-h.ensures in
    let p = c.check_items.ensures in
    (λ cap word. value_further _ _ _ _ c.requires cap word _ e (p.0 cap _), ends_after c.check_items.result _ _ _ w p.1)
