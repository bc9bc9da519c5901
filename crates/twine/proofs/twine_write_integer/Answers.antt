-- `twine::twine_write_integer` meets its contract: an integer is passed on by its 64 bits.
use mir.Syntax.{w64}
use mir.ValLaws.{to_z-of_z}
use Rattle.abi_writer.proofs.Calls.{step_called}
use Rattle.twine.proofs.twine_write_integer.Goals as goal

pub returns : goal.returns
returns c = search (step_called, to_z-of_z w64)
