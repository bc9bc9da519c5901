-- `twine::twine_write_pointer` meets its contract.
use Rattle.abi_writer.proofs.Calls.{step_called}
use Rattle.twine.proofs.twine_write_pointer.Goals as goal

pub returns : goal.returns
returns c = search step_called
