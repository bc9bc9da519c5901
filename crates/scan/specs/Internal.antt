-- What remains to be read of a token, stage by stage. No public contract cites this file.
--
--   fitted .. left       after its numbers, with `left` bytes left: the head, or the token's shortage
--   and_then at f a       f applied to a number and the bytes left, or the number's error, placed at `at`
--   ranged .. n left     after n, with `left` bytes left: the second number, and so on
use Rattle.std.specs.Prelude.{ℕ, ◌+◌, ◌-◌, List, leb, length, drop}
use Rattle.prelude.specs.Pick.{pick}
use Rattle.prelude.specs.Answer.{Answer, ok, error, measured}
use Rattle.error.specs.Error.{Fault, fault}
use Rattle.leb128.specs.declared.Mode.{Mode}
use Rattle.kind.specs.Kind.{size, counted, pending}
use Rattle.kind.specs.declared.Rule.{Rule}
use Rattle.token.specs.Scan.{get_if, shortage}
use Rattle.scan.specs.declared.Head.{Head}

abbrev pub fitted : ℕ → ℕ → ℕ → Rule → ℕ → ℕ → ℕ → Answer Fault Head
fitted len at k r n a left =
    pick (leb (size r n + counted r n a) left)
    (ok (record { kind = k; n = n; items = pending r n a; first = len - left; end = len - left + size r n }))
    (error (shortage at (len - left) r))

abbrev pub and_then : ℕ → (ℕ → ℕ → Answer Fault Head) → Answer ℕ (ℕ × ℕ) → Answer Fault Head
and_then at f (ok a) = f a.0 a.1
and_then at f (error e) = error (fault e at)

abbrev pub ranged : Mode → List ℕ → ℕ → ℕ → Rule → ℕ → ℕ → Answer Fault Head
ranged mode s at k r n left = and_then at (fitted (length s) at k r n) (measured (get_if mode r.args (drop (length s - left) s)))
