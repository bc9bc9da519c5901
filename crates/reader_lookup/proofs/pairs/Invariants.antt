-- `reader_lookup::pairs` meets its contract. The invariant: the pairs left give the answer.
use Rattle.std.proofs.Common.{◌≡◌, ◌-◌}
use Rattle.reader_lookup.specs.Lookup.{pairs}
use Rattle.reader_lookup.proofs.pairs.Given as goal

abbrev pub invariant-loop : goal.invariant-loop
invariant-loop l = pairs l.mode l.region l.at l.key (l.count - l.counter) l.q ≡ pairs l.mode l.region l.at l.key l.count l.first
