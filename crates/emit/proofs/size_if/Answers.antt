-- `emit::size_if` meets its contract.
use native.Mathlib.Omega.{arith}
use Rattle.leb128.proofs.Sizes.{length_put_le}
use Rattle.emit.proofs.size_if.Goals as goal

pub returns-in-Some : goal.returns-in-Some
returns-in-Some c = rw c.in-Some.is (c.size.ensures, omega (arith, c.size.ensures, length_put_le 9 c.in-Some.n))
