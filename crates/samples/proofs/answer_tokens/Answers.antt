-- Each token ends after its header, and within the region.
use Rattle.std.proofs.Common.{arith}
use Rattle.scan.proofs.Places.{scan_within}
use Rattle.samples.proofs.answer_tokens.Goals as goal

pub loop-at-smaller : goal.loop-at-smaller
loop-at-smaller g c = omega (arith, scan_within _ _ _ _ _ c.in-Ok.ensures)

pub loop-at-preserved : goal.loop-at-preserved
loop-at-preserved g c = omega (arith, scan_within _ _ _ _ _ c.in-Ok.ensures)
