-- `reader_lookup::lookup` meets its contract: by the head, in the region.
use Rattle.std.proofs.Common.{arith}
use Rattle.reader_region.proofs.Laws.{in_region_then, in_region_failed}
use Rattle.reader_lookup.specs.Lookup.{lookup_in}
use Rattle.reader_lookup.proofs.lookup.Goals as goal

pub returns : goal.returns
unfolding lookup_in
returns c = in_region_then _ _ _ _ c.in_ok-h.ensures c.region.ensures c.lookup_on.ensures

pub returns-in_err-h : goal.returns-in_err-h
unfolding lookup_in
returns-in_err-h c = in_region_failed _ _ _ _ c.in_err-h.ensures (grind arith)
