-- `twine::twine_open_variant1` meets its contract.
use Rattle.abi_writer.proofs.Calls.{step_called}
use Rattle.twine.proofs.twine_open_variant1.Goals as goal

pub returns : goal.returns
returns c = search step_called
