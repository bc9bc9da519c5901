-- `writer_target::moved_number` meets its contract.
use borrow.Author.Tests.{le-leb, lt-leb}
use Rattle.writer_target.proofs.moved_number.Goals as goal

pub returns-then-kind-lt-KIND_REFERENCE : goal.returns-then-kind-lt-KIND_REFERENCE
returns-then-kind-lt-KIND_REFERENCE c = rw (lt-leb 14 _ c.if-kind-lt-KIND_REFERENCE.true)

pub returns-else-kind-lt-KIND_REFERENCE : goal.returns-else-kind-lt-KIND_REFERENCE
returns-else-kind-lt-KIND_REFERENCE c = rw (le-leb 14 _ c.if-kind-lt-KIND_REFERENCE.false) c.distance.ensures
