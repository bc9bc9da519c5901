-- `writer_listing::is_listed` meets its contract.
use mathlib.Core.Path.{sym}
use native.Mathlib.Omega.{arith}
use lib.Seq.{length-take-le}
use borrow.Author.Tests.{lt-ltb, le-ltb}
use Rattle.writer_listing.proofs.is_listed.Goals as goal

pub returns-then-written-at : goal.returns-then-written-at
returns-then-written-at c = λ w h. rw (le-ltb c.args.at c.args.written (omega arith))

pub slice_bounds-is_among-end : goal.slice_bounds-is_among-end
slice_bounds-is_among-end c = sym (length-take-le _ _ (omega arith))

pub returns : goal.returns
returns c = λ w h. rw (lt-ltb _ _ c.if-written-at.false) c.is_among.ensures
