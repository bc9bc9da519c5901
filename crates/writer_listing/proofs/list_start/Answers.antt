-- `writer_listing::list_start` meets its contract.
use mathlib.Core.Path.{refl}
use borrow.Author.Tests.{eq-eqb, ne_eqb}
use Rattle.writer_listing.proofs.list_start.Goals as goal

pub returns-then-left-eq0 : goal.returns-then-left-eq0
returns-then-left-eq0 c = rw (eq-eqb _ _ c.if-left-eq0.true) (refl, refl)

pub returns : goal.returns
returns c = rw (ne_eqb _ _ c.if-left-eq0.false) (refl, refl)
