-- `writer::Writer::put` meets its contract.
use borrow.Author.Rules.{rules}
use Rattle.writer.proofs.Writes.{put_refused}
use Rattle.writer.proofs.Writer.put.Goals as goal

pub returns-in_err-fit : goal.returns-in_err-fit
returns-in_err-fit c = search (rules, put_refused)
