-- `checker_starts::walk` meets its contract.
use mathlib.Core.Path.{refl}
use Rattle.std.proofs.Common.{arith, rules}
use Rattle.checker_starts.proofs.Invariant.{table_start, indexed_start, indexed_on, opened_rising, opened_counted, along}
use Rattle.checker_starts.proofs.Invariant.{table_end, table_full, table_finished}
use Rattle.checker_starts.proofs.walk.Goals as goal

pub loop-at-init : goal.loop-at-init
loop-at-init c = let h = c.requires in (table_start _ _ _, indexed_start _ _ _ h.0 h.1, refl)

pub returns-then-starts-count : goal.returns-then-starts-count
returns-then-starts-count c = (table_full _ _ _ _ _ _ c.loop-at.invariant.0 c.loop-at-test.true (omega arith), tt)

-- by these laws, since the edit start_listed_at_opening changes them
pub invariant_of-before : goal.invariant_of-before
invariant_of-before c = record {
  rising = opened_rising _ _ _ _ _ _ c.loop-at.invariant.0 c.if-starts-count.false;
  counted = opened_counted _ _ _ _ _ _ c.loop-at.invariant.0 c.if-starts-count.false _ c.loop-at.invariant.1;
}

pub count_blocks-requires : goal.count_blocks-requires
count_blocks-requires c =
    along _ _ _ _ _ _ c.loop-at.invariant.0 c.if-starts-count.false _ c.in_ok-end.ensures _ c.args.region.short c.loop-at.invariant.1

pub loop-at-preserved : goal.loop-at-preserved
loop-at-preserved c = (table_finished _ _ _ _ _ _ c.loop-at.invariant.0 c.if-starts-count.false _ c.in_ok-end.ensures, search indexed_on, omega arith)

pub returns : goal.returns
returns c = (table_end _ _ _ _ _ _ c.loop-at.invariant.0 c.loop-at-test.false, search rules)
