-- The end of a value, and its items (document 01, "Questions at an offset"), in unchecked files. Each query begins with
-- `in_region`: EMPTY, TOO_LONG, OUTSIDE.
--
--   skip_items mode s k at
--                       the offset after k items from `at` on, each looked at
--   skip_in, skip_of      where the value at an offset of a region, and of a file, ends; its items are looked at
--   starts_in len q      the offset q, where an item is to start in a region of len bytes; TRUNC if that is the region's end
--   item_on mode s at i h
--                       the offset of item i of the value at `at` with head h: WRONG_KIND for a kind without items,
--                       NO_ITEM, the faults of the items before it, and TRUNC if it would start at the region's end
--   item_in, item_of      the same for the value at an offset of a region, and of a file
use Rattle.std.specs.Prelude.{ℕ, zero, suc, true, false, List, ltb, leb, length}
use Rattle.prelude.specs.Pick.{pick}
use Rattle.prelude.specs.Answer.{Answer, ok, error, bind}
use Rattle.error.specs.Error.{Fault, fault, TRUNC, NO_ITEM, WRONG_KIND}
use Rattle.leb128.specs.declared.Mode.{Mode}
use Rattle.kind.specs.Kind.{rule, immediate}
use Rattle.scan.specs.declared.Head.{Head}
use Rattle.reader_region.specs.Region.{in_region, peek_in}

unfoldable pub skip_items : Mode → List ℕ → ℕ → ℕ → Answer Fault ℕ
skip_items mode s zero at = ok at
skip_items mode s (suc k) at = bind (peek_in mode true s at) (λ h. skip_items mode s k h.end)

unfoldable pub skip_in : Mode → List ℕ → ℕ → Answer Fault ℕ
skip_in mode s at = bind (peek_in mode false s at) (λ h. skip_items mode s h.items h.end)

abbrev pub skip_of : Mode → List ℕ → ℕ → Answer Fault ℕ
skip_of mode file at = in_region file at (λ s. skip_in mode s at)

unfoldable pub starts_in : ℕ → ℕ → Answer Fault ℕ
starts_in len q = pick (ltb q len) (ok q) (error (fault TRUNC len))

unfoldable pub item_on : Mode → List ℕ → ℕ → ℕ → Head → Answer Fault ℕ
item_on mode s at i h =
    pick (immediate (rule h.kind)) (error (fault WRONG_KIND at))
    (pick (leb h.items i) (error (fault NO_ITEM at))
    (bind (skip_items mode s i h.end) (starts_in (length s))))

unfoldable pub item_in : Mode → List ℕ → ℕ → ℕ → Answer Fault ℕ
item_in mode s at i = bind (peek_in mode false s at) (item_on mode s at i)

abbrev pub item_of : Mode → List ℕ → ℕ → ℕ → Answer Fault ℕ
item_of mode file at i = in_region file at (λ s. item_in mode s at i)
