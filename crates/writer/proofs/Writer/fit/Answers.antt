-- `writer::Writer::fit` meets its contract.
use native.Mathlib.Omega.{arith}
use Rattle.kind.proofs.Laws.{rule_row}
use Rattle.writer.proofs.Fits.{fits, refused}
use Rattle.writer.proofs.Writer.fit.Goals as goal

pub left-left-requires : goal.left-left-requires
left-left-requires c =
    let r = rule_row c.args.kind in
    rw c.rule_of-row.ensures (r.single, omega (arith, r.unit))

pub returns-then-may_write : goal.returns-then-may_write
returns-then-may_write c = search fits

pub returns : goal.returns
returns c = search refused
