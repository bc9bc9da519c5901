-- `writer::Writer::write_delta` meets its contract.
use mathlib.Core.Path.{refl}
use Rattle.writer.specs.Step.{write_delta}
use Rattle.writer.proofs.Writer.write_delta.Goals as goal

pub returns : goal.returns
unfolding write_delta
returns c = record { same = λ table. refl }
