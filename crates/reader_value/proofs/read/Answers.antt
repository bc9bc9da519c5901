-- `reader_value::read` meets its contract: the value on the head, in the region; and its row.
use Rattle.std.proofs.Common.{◌≡◌, refl, ap, Err, arith}
use Rattle.prelude.specs.Answer.{ok}
use Rattle.reader_region.proofs.Laws.{in_region_same, in_region_then, in_region_failed, peek_peeked}
use Rattle.reader_value.specs.Value.{read_in}
use Rattle.reader_value.proofs.Rows.{rows_read}
use Rattle.reader_value.proofs.read.Goals as goal

pub value_on-requires : goal.value_on-requires
value_on-requires c = rw c.region.ensures (peek_peeked _ _ _ _ _ (in_region_same _ _ _ c.in_ok-h.ensures))

pub returns : goal.returns
unfolding read_in
returns c =
    let e = in_region_then _ _ _ _ c.in_ok-h.ensures c.region.ensures (ap ok c.value_on.ensures) in
    (e, rows_read _ _ _ e)

pub returns-in_err-h : goal.returns-in_err-h
unfolding read_in
returns-in_err-h c =
    let out : c.from_residual.result ≡ Err c.in_err-h.field-0.0 = grind arith in
    let e = in_region_failed _ _ _ _ c.in_err-h.ensures refl in
    rw out (e, rows_read _ _ _ e)
