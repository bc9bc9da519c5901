-- `writer::Writer::close_far` meets its contract.
use native.Mathlib.Omega.{arith}
use borrow.Author.Rules.{rules}
use Rattle.writer.proofs.Closes.{far_refused, far_error, far_room, far_ok}
use Rattle.writer.proofs.Writer.close_far.Goals as goal

pub returns-then-self-gt0 : goal.returns-then-self-gt0
returns-then-self-gt0 c = search far_refused

pub returns-in_err-fit : goal.returns-in_err-fit
returns-in_err-fit c = search (rules, far_error)

pub overflow_sub-fit : goal.overflow_sub-fit
overflow_sub-fit c =
    let room = far_room _ _ _ _ _ c.if-self-gt0.false _ c.in_ok-fit.ensures _ _ _ c.write.ensures in
    omega arith

pub overflow_cast-fit : goal.overflow_cast-fit
overflow_cast-fit c =
    let room = far_room _ _ _ _ _ c.if-self-gt0.false _ c.in_ok-fit.ensures _ _ _ c.write.ensures in
    omega arith

pub write_delta-requires : goal.write_delta-requires
write_delta-requires c =
    let room = far_room _ _ _ _ _ c.if-self-gt0.false _ c.in_ok-fit.ensures _ _ _ c.write.ensures in
    room.room

pub returns : goal.returns
returns c =
    far_ok _ _ _ _ _ c.if-self-gt0.false _ c.in_ok-fit.ensures _ _ _ c.write.ensures _ _ c.write_delta.ensures
