-- `reader_items::skip` meets its contract: by the head, in the region.
use Rattle.std.proofs.Common.{arith}
use Rattle.reader_region.proofs.Laws.{in_region_then, in_region_failed}
use Rattle.reader_items.specs.Items.{skip_in}
use Rattle.reader_items.proofs.skip.Goals as goal

pub returns : goal.returns
unfolding skip_in
returns c = in_region_then _ _ _ _ c.in_ok-h.ensures c.region.ensures c.skip_items.ensures

pub returns-in_err-h : goal.returns-in_err-h
unfolding skip_in
returns-in_err-h c = in_region_failed _ _ _ _ c.in_err-h.ensures (grind arith)
