-- `u64::load` meets its contract: eight bytes, and a slice that is too short.
use native.Mathlib.Omega.{arith}
use Rattle.little_endian.proofs.Laws.{load_chunk8, load_short, little_of}
use Rattle.little_endian.proofs.U64Word.load.Goals as goal

pub returns-in-Some : goal.returns-in-Some
returns-in-Some c =
    let number = load_chunk8 c.in-Some.ensures.cases c.from_le_bytes.ensures in
    record { value = number; bytes = little_of 8 _ c.type_inv.s number }

pub returns-in-None-clause-value : goal.returns-in-None-clause-value
returns-in-None-clause-value c = search (load_short, arith)
