-- `depths::depths_to` meets its contract.
use native.Mathlib.Omega.{arith}
use Rattle.depths.proofs.Laws.{starts_below}
use Rattle.depths.proofs.depths_to.Goals as goal

pub depths_to_by-requires : goal.depths_to_by-requires
depths_to_by-requires c = let p = c.requires in (p.0, p.1, starts_below _ _ _ p.1 (omega arith))

pub depths_to_by-requires-2 : goal.depths_to_by-requires-2
depths_to_by-requires-2 c = let p = c.requires in (p.0, p.1, starts_below _ _ _ p.1 (omega arith))
