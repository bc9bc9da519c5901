-- `prune_marks::set_four` meets its contract.
use Rattle.prune_marks.proofs.Numbering.{digits_on}
use Rattle.prune_marks.proofs.set_four.Goals as goal

pub returns : goal.returns
returns c =
    let two = digits_on _ _ _ _ _ _ c.set_digit.ensures c.set_digit-2.ensures in
    digits_on _ _ _ _ _ _ (digits_on _ _ _ _ _ _ two c.set_digit-3.ensures) c.set_digit-4.ensures
