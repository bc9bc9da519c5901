-- `utf8::is_long_text` meets its contract. The invariant: whether the bytes from i on are a text is the answer.
use mathlib.Core.Path.{◌∙◌}
use native.Mathlib.Omega.{arith}
use Rattle.utf8_plain.proofs.Laws.{skip_plain}
use Rattle.utf8.proofs.Steps.{text_after_plain, plain_next, plain_last}
use Rattle.utf8.proofs.is_long_text.Goals as goal

-- the plain bytes in front
pub loop-i-init : goal.loop-i-init
loop-i-init c = let front = skip_plain _ c.skip_plain-i.ensures in (front.0, text_after_plain _ c.skip_plain-i.result front.1)

-- a plain word
pub loop-i-preserved-then-is_plain_at : goal.loop-i-preserved-then-is_plain_at
loop-i-preserved-then-is_plain_at c =
    (omega arith, plain_next c.args.s.now c.loop-i.i c.loop-i.invariant.1 8 (c.is_plain_at.ensures.plain.0 c.if-is_plain_at.true))

-- the last word is plain
pub returns-then-is_plain_at-2 : goal.returns-then-is_plain_at-2
returns-then-is_plain_at-2 c =
    c.if-is_plain_at-2.true
    ∙ plain_last c.args.s.now c.loop-i.i c.loop-i.invariant.1 (omega arith) (omega arith)
    (c.is_plain_at-2.ensures.plain.0 c.if-is_plain_at-2.true)
