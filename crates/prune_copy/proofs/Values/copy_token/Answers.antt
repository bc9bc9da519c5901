-- `prune_copy::Values::copy_token` meets its contract.
use native.Mathlib.Omega.{arith}
use Rattle.prune_copy.proofs.Laws.{token_copied}
use Rattle.prune_copy.proofs.Values.copy_token.Goals as goal

pub returns : goal.returns
returns c = search (token_copied, arith)
