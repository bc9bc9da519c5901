-- `leb128::size` meets its contract: by the leading zeros, or 1 for the number 0.
use native.Mathlib.Omega.{arith}
use lib.Count.{leading_le}
use Rattle.leb128.proofs.Sizes.{length_put_zero, length_put_zeros}
use Rattle.leb128.proofs.size.Goals as goal

pub returns-then-n-eq0 : goal.returns-then-n-eq0
returns-then-n-eq0 c = length_put_zero _ c.if-n-eq0.true

pub overflow_sub-result : goal.overflow_sub-result
overflow_sub-result c = omega (arith, leading_le 64 c.args.n)

pub returns : goal.returns
returns c = length_put_zeros _ (omega arith) c.ranges.n.fits
