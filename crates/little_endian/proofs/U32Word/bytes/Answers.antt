-- `u32::bytes` meets its contract.
use mathlib.Core.Path.{◌∙◌}
use Rattle.std.specs.Int.{w32}
use Rattle.little_endian.proofs.Laws.{to_le_little}
use Rattle.little_endian.proofs.U32Word.bytes.Goals as goal

pub returns : goal.returns
returns c = c.to_le_bytes.ensures ∙ to_le_little w32 _
