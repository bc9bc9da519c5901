-- `emit::copy` meets its contract. The invariant: what is still to be stored from i on makes the whole of it.
use mathlib.Core.Path.{refl}
use native.Mathlib.Numerals.{add-one}
use native.Mathlib.Omega.{arith}
use lib.ListN.{length-set, drop_of_length-le}
use lib.Seq.{drop-cons}
use Rattle.emit.proofs.copy.Goals as goal

pub loop-i-init : goal.loop-i-init
loop-i-init c = (refl, omega arith, refl)

pub loop-i-preserved : goal.loop-i-preserved
loop-i-preserved c =
    let l = c.loop-i in (
      rw add-one (rw (drop-cons c.args.body.now l.i 0 c.loop-i-test.true) at l.invariant.0),
      omega arith,
      simp length-set (omega arith),
    )

pub returns : goal.returns
returns c =
    let l = c.loop-i in
    record { size = omega arith; bytes = rw (drop_of_length-le c.args.body.now {i = l.i} c.loop-i-test.false) at l.invariant.0 }
