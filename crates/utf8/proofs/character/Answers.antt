-- `utf8::character` meets its contract. The invariant: the bytes from i on, if they fill what is due and then are a text, give the answer.
use native.Mathlib.Omega.{arith}
use Rattle.utf8.proofs.Steps.{text_first, text_never, text_bad, text_next, two_next, two_bad, allowed_lt}
use Rattle.utf8.proofs.character.Goals as goal

-- no character begins with the first byte
pub returns-in_err-due-clause-rest : goal.returns-in_err-due-clause-rest
returns-in_err-due-clause-rest c = rw c.from_residual.ensures (text_never _ c.requires c.in_err-due.ensures)

-- two bytes
pub returns-then-is_allowed : goal.returns-then-is_allowed
returns-then-is_allowed c = record {
  within = (omega arith, omega (arith, allowed_lt _ _ _ c.if-is_allowed.ensures));
  rest = two_next _ _ c.requires c.in_ok-due.ensures c.if-due-eq1.true c.if-is_allowed.ensures;
}

pub returns-then-due-eq1-clause-rest : goal.returns-then-due-eq1-clause-rest
returns-then-due-eq1-clause-rest c = two_bad _ _ c.requires c.in_ok-due.ensures c.if-due-eq1.true c.if-is_allowed.ensures

pub loop-i-init : goal.loop-i-init
loop-i-init c = (omega arith, omega arith, text_first _ c.requires c.in_ok-due.ensures)

-- the character is incomplete, or a byte is not allowed there
pub returns-then-not-is_allowed-clause-rest : goal.returns-then-not-is_allowed-clause-rest
returns-then-not-is_allowed-clause-rest c = text_bad _ _ _ c.loop-i.invariant.2 (omega arith) c.if-not-is_allowed.ensures

pub loop-i-preserved : goal.loop-i-preserved
loop-i-preserved c =
    let yes = c.if-not-is_allowed.ensures in
    rw c.new-due.ensures (omega arith, omega (arith, allowed_lt _ _ _ yes), text_next _ _ _ c.loop-i.invariant.2 (omega arith) yes)
