-- `utf8_plain::is_short_plain` meets its contract: by the law of the test, of the word that is joined.
use native.Mathlib.Omega.{arith}
use Rattle.prelude.proofs.Parts.{part_from}
use Rattle.utf8_plain.proofs.Laws.{plain_short}
use Rattle.utf8_plain.proofs.is_short_plain.Goals as goal

pub returns : goal.returns
returns c =
    let front = c.load-first.ensures in
    let back = c.load-last.ensures in record {
      value = rw (c.is_plain.ensures, front.value, back.value, part_from);
      plain = plain_short c.args.s.now _ _ c.requires.0 c.requires.1 (omega arith) front.bytes back.bytes c.is_plain.ensures;
    }
