-- `reader_lookup::pair` meets its contract: the key, followed, is in the region.
use Rattle.reader_follow.proofs.Laws.{followed_within}
use Rattle.reader_lookup.proofs.pair.Goals as goal

pub match_key-requires : goal.match_key-requires
match_key-requires c = let w = followed_within _ _ _ _ c.in_ok-head.ensures in (w.body, w.end)
