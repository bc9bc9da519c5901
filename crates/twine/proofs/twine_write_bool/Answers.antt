-- `twine::twine_write_bool` meets its contract: `truth` is the scalar that is put.
use Rattle.abi_writer.proofs.Calls.{step_called}
use Rattle.twine.proofs.twine_write_bool.Goals as goal

pub returns : goal.returns
returns c = search step_called
