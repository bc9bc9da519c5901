-- `twine::twine_write_null` meets its contract.
use Rattle.abi_writer.proofs.Calls.{step_called}
use Rattle.twine.proofs.twine_write_null.Goals as goal

pub returns : goal.returns
returns c = search step_called
