-- `utf8::pass_characters` meets its contract. The invariant: whether the bytes from i on are a text is the answer.
use native.Mathlib.Omega.{arith}
use Rattle.utf8.proofs.Steps.{plain_byte, front_within, front_next}
use Rattle.utf8.proofs.pass_characters.Goals as goal

pub overflow_add-i : goal.overflow_add-i
overflow_add-i c =
    let few = front_within c.args.s.now c.args.from c.plain_before.result c.plain_before.ensures c.requires in
    record { fits = omega arith }

-- the plain bytes of the word
pub loop-i-init : goal.loop-i-init
loop-i-init c =
    let few = front_within c.args.s.now c.args.from c.plain_before.result c.plain_before.ensures c.requires in
    (omega arith, few, front_next c.args.s.now c.args.from c.plain_before.result c.plain_before.ensures c.requires)

-- a plain byte
pub loop-i-preserved-else-is_some_and : goal.loop-i-preserved-else-is_some_and
loop-i-preserved-else-is_some_and c =
    (omega arith, omega arith, plain_byte c.args.s.now c.loop-i.i c.loop-i.invariant.2 c.loop-i-test.true c.if-s-i-lt128.true)

pub returns-then-is_some_and-clause-rest : goal.returns-then-is_some_and-clause-rest
returns-then-is_some_and-clause-rest c = plain_byte c.args.s.now c.loop-i.i c.loop-i.invariant.2 c.loop-i-test.true c.if-s-i-lt128.true
