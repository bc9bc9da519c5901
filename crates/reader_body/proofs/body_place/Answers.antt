-- `reader_body::body_place` meets its contract: the body of the value that following reaches.
use Rattle.std.proofs.Common.{refl, arith}
use Rattle.reader_region.proofs.Laws.{in_region_same, in_region_then, in_region_failed}
use Rattle.reader_follow.proofs.Laws.{followed_within}
use Rattle.reader_body.specs.Body.{body_place_in}
use Rattle.reader_body.proofs.body_place.Goals as goal

pub body_place_on-requires : goal.body_place_on-requires
body_place_on-requires c = (followed_within _ _ _ _ (in_region_same _ _ _ c.in_ok-value.ensures)).body

pub returns : goal.returns
unfolding body_place_in
returns c = in_region_then _ _ _ _ c.in_ok-value.ensures refl c.body_place_on.ensures

pub returns-in_err-value : goal.returns-in_err-value
unfolding body_place_in
returns-in_err-value c = in_region_failed _ _ _ _ c.in_err-value.ensures (grind arith)
