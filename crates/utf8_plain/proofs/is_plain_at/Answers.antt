-- `utf8_plain::is_plain_at` meets its contract: by the law of the test, of the word that is read.
use Rattle.prelude.proofs.Parts.{part_from}
use Rattle.utf8_plain.proofs.Laws.{plain_at}
use Rattle.utf8_plain.proofs.is_plain_at.Goals as goal

pub returns : goal.returns
returns c =
    let word = c.load.ensures in
    record {
      value = rw (c.is_plain.ensures, word.value, part_from);
      plain = plain_at _ _ _ c.requires word.bytes c.is_plain.ensures;
    }
