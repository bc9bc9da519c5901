-- `writer_refusal::items` meets its contract.
use native.Mathlib.Omega.{arith}
use Rattle.writer_refusal.proofs.Count.{each_le, items_limit}
use Rattle.writer_refusal.proofs.items.Goals as goal

pub overflow_mul-rule : goal.overflow_mul-rule
overflow_mul-rule c = rw c.limit.ensures (omega (arith, each_le _ c.args.n c.requires.1))

pub overflow_add-rule : goal.overflow_add-rule
overflow_add-rule c = rw c.limit.ensures (omega (arith, c.requires.0, each_le _ c.args.n c.requires.1))

pub overflow_add-rule-2 : goal.overflow_add-rule-2
overflow_add-rule-2 c = rw c.limit.ensures (omega (arith, c.requires.0, each_le _ c.args.n c.requires.1))

pub returns : goal.returns
returns c =
    rw (c.limit-3.ensures, c.limit-2.ensures, c.limit.ensures)
    (items_limit c.args.rule c.args.n c.args.args)
