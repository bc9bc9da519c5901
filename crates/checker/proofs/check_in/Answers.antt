-- `checker::check_in` meets its contract.
use mathlib.Core.Path.{◌≡◌}
use Rattle.std.specs.Prelude.{Err}
use Rattle.std.proofs.Common.{arith, rules}
use Rattle.prelude.proofs.Tests.{ladder}
use Rattle.checker.specs.Check.{check_in}
use Rattle.checker.proofs.Checks.{listed_rising, check_error, check_walk}
use Rattle.checker.proofs.check_in.Goals as goal

pub returns-then-len-eq0 : goal.returns-then-len-eq0
unfolding check_in
returns-then-len-eq0 c = (search ladder, omega arith)

pub returns-then-len-gt-LIMIT : goal.returns-then-len-gt-LIMIT
unfolding check_in
returns-then-len-gt-LIMIT c = (search ladder, omega arith)

pub returns-in_err-count : goal.returns-in_err-count
returns-in_err-count c =
    let refused : c.from_residual.result ≡ Err c.in_err-count.field-0.0 = search rules in
    rw refused (check_error _ _ c.list_starts.new.starts _ c.if-len-eq0.false c.if-len-gt-LIMIT.false _ c.in_err-count.ensures.0, omega arith)

pub entry_at-requires : goal.entry_at-requires
entry_at-requires c = (listed_rising _ _ _ _ _ c.in_ok-count.ensures.0, omega arith)

pub returns : goal.returns
returns c =
    check_walk _ _ _ _ c.if-len-eq0.false c.if-len-gt-LIMIT.false _ c.in_ok-count.ensures.0 c.in_ok-count.ensures.1 _ c.entry_at.ensures
