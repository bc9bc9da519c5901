-- `reader_items::skip_items` meets its contract. The invariant: the items left give the answer.
use Rattle.std.proofs.Common.{◌≡◌, ◌-◌}
use Rattle.reader_items.specs.Items.{skip_items}
use Rattle.reader_items.proofs.skip_items.Given as goal

abbrev pub invariant-loop : goal.invariant-loop
invariant-loop l = skip_items l.mode l.region (l.items - l.counter) l.q ≡ skip_items l.mode l.region l.items l.at
