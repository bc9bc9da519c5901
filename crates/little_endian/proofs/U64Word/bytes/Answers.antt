-- `u64::bytes` meets its contract.
use mathlib.Core.Path.{◌∙◌}
use Rattle.std.specs.Int.{w64}
use Rattle.little_endian.proofs.Laws.{to_le_little}
use Rattle.little_endian.proofs.U64Word.bytes.Goals as goal

pub returns : goal.returns
returns c = c.to_le_bytes.ensures ∙ to_le_little w64 _
