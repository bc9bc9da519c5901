-- `scan_number::number` meets its contract: the low nibble alone, and with a number after it.
use mathlib.Core.Path.{◌≡◌}
use mathlib.Core.List.{List}
use Prim.Native.Nat.{ℕ, ◌+◌, ◌-◌, ◌≤◌, ◌<◌}
use native.Mathlib.Nat.{add-zero}
use native.Mathlib.Omega.{arith}
use lib.ListN.{length}
use borrow.Author.Rules.{rules}
use borrow.Author.Tests.{le-leb, lt-leb}
use Rattle.prelude.specs.Answer.{Answer, ok, error, measured}
use Rattle.error.specs.Error.{RANGE}
use Rattle.leb128.specs.Leb.{get}
use Rattle.leb128.specs.declared.Mode.{Mode}
use Rattle.token.specs.Scan.{get_if}
use Rattle.scan_number.specs.Internal.{in_range, numbered}
use Rattle.scan_number.proofs.number.Goals as goal

module _ (mode : Mode) (low most : ℕ) (s : List ℕ) where
  numbered_low : low < 15 → low ≤ most → ok (low, length s) ≡ numbered mode low most s
  unfolding numbered get_if measured
  numbered_low h l = rw (lt-leb 15 low h, add-zero low, le-leb low most l)

  module _ (h : 15 ≤ low) (l : low < 16) where
    numbered_by : {a : Answer ℕ (ℕ × ℕ)} → a ≡ measured (get mode 9 0 s) → in_range 15 most a ≡ numbered mode low most s
    unfolding numbered get_if
    numbered_by e = let same : low ≡ 15 = omega arith in rw (same, e)

    module _ {n left : ℕ} (e : ok (n, left) ≡ measured (get mode 9 0 s)) where
      numbered_over : most - 15 < n → error RANGE ≡ numbered mode low most s
      numbered_over o = rw (← numbered_by e, lt-leb (15 + n) most (omega arith))

      numbered_in : low ≤ most → n ≤ most - 15 → ok (15 + n, left) ≡ numbered mode low most s
      numbered_in fits i = rw (← numbered_by e, le-leb (15 + n) most (omega arith))

pub returns-then-low : goal.returns-then-low
returns-then-low c = rw c.from.ensures (numbered_low _ _ _ _ (omega arith) (omega arith))

pub returns-in_err-above : goal.returns-in_err-above
returns-in_err-above c =
    search (rules, numbered_by c.args.mode c.args.low c.args.most c.args.s.now (omega arith) (omega arith) c.in_err-above.ensures)

pub returns-then-most-above : goal.returns-then-most-above
returns-then-most-above c = numbered_over _ _ _ _ (omega arith) (omega arith) c.in_ok-above.ensures (omega arith)

pub returns : goal.returns
returns c = numbered_in _ _ _ _ (omega arith) (omega arith) c.in_ok-above.ensures (omega arith) (omega arith)
