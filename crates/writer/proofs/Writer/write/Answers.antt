-- `writer::Writer::write` meets its contract: a token that fits has room.
use borrow.Author.Rules.{rules}
use Rattle.writer.proofs.Writes.{inside, within_room, may_advance, within_ok}
use Rattle.writer.proofs.Writer.write.Goals as goal

pub slice_bounds-put_within-count : goal.slice_bounds-put_within-count
slice_bounds-put_within-count c = search (inside, rules)

pub slice_bounds-put_within-start : goal.slice_bounds-put_within-start
slice_bounds-put_within-start c = search (inside, rules)

pub put_within-requires : goal.put_within-requires
put_within-requires c = within_room _ _ _ _ _ _ _ _ _ c.requires _ (search rules)

pub advance-requires : goal.advance-requires
advance-requires c = search may_advance

pub returns : goal.returns
returns c = search within_ok
