-- The walk of check as the code makes it, with the starts in the first words of a table, counted by blocks.
--
-- In order: what holds between two values; the ways on from there, and out.
use mathlib.Core.Path.{◌≡◌, refl, ◌∙◌}
use Prim.Native.Nat.{ℕ, ◌+◌, ◌-◌, ◌*◌, ◌/◌, ◌≤◌, ◌<◌, ◌^◌}
use mathlib.Core.List.{List, [], ◌∷◌, ◌++◌}
use native.Mathlib.Numerals.{add-one}
use native.Mathlib.Omega.{arith}
use borrow.Author.Tests.{le-leb}
use lib.ListN.{length, take, get_or, set, length-set, length-take, length-append}
use lib.Seq.{length-take-le, take-set-le, take-suc-set}
use Rattle.std.specs.Prelude.{Ok}
use Rattle.prelude.specs.Answer.{ok, error}
use Rattle.prelude.specs.Search.{Rising}
use Rattle.prelude.proofs.Tests.{split}
use Rattle.prelude.proofs.Lists.{below_snoc}
use Rattle.prelude.proofs.Searches.{rising_ge}
use Rattle.error.specs.Error.{fault, LIMIT, FULL}
use Rattle.leb128.specs.declared.Mode.{Mode}
use Rattle.table.specs.Blocks.{BLOCK, Counted, Below}
use Rattle.table.proofs.Blocks.{counted_first, counted_snoc}
use Rattle.checker_value.specs.Walk.{between, starts_from}
use Rattle.checker_value.specs.Internal.{ChecksValue}
use Rattle.checker_value.proofs.Walks.{WalkInvariant, invariant_begun, invariant_finished, walk_end, value_full}

-- between two values at `at`, with the starts in the first `count` words of the table t
pub record TableInvariant (mode : Mode) (s t : List ℕ) (cap at count : ℕ) : Type 0 where
  pub long : length t ≡ cap
  pub fits : count ≤ length t
  pub going : WalkInvariant s cap (between at (take count t))
  pub leads : starts_from mode s cap (between at (take count t)) ≡ starts_from mode s cap (between 0 [])

-- the starts are counted for the blocks that begin at `at` or before; each block of the region has a word
pub record Indexed (s t blocks : List ℕ) (at count : ℕ) : Type 0 where
  pub long : length s < length blocks * BLOCK
  pub counted : Counted (take (at / BLOCK + 1) blocks) (take count t)

pub indexed_start : (s t blocks : List ℕ) → length s < length blocks * BLOCK → get_or blocks 0 0 ≡ 0 → Indexed s t blocks 0 0
indexed_start s t blocks h e = record { long = h; counted = counted_first blocks e }

pub indexed_on : (s t u blocks after : List ℕ) (at end count n : ℕ) → Indexed s t blocks at count → length after ≡ length blocks
    → Counted (take (end / BLOCK + 1) after) (take n u) → Indexed s u after end n
indexed_on s t u blocks after at end count n i same counted = record { long = rw same i.long; counted = counted }

pub table_start : (mode : Mode) (s t : List ℕ) → TableInvariant mode s t (length t) 0 0
table_start mode s t = record { long = refl; fits = omega arith; going = invariant_begun s (length t); leads = refl }

module _ (mode : Mode) (s t : List ℕ) (cap at count : ℕ) (a : TableInvariant mode s t cap at count) where
  pub table_end : length s ≤ at → ok (take count t) ≡ starts_from mode s cap (between 0 [])
  table_end h = walk_end mode s cap (between at (take count t)) (rw (le-leb (length s) at h)) ∙ a.leads

  pub table_full : at < length s → length t ≤ count → error (fault FULL at) ≡ starts_from mode s cap (between 0 [])
  table_full more full = value_full mode s (take count t) at more cap (omega (arith, a.long, length-take-le count t a.fits)) ∙ a.leads

  module _ (free : count < length t) where
    word : length (take count t) < cap
    word = omega (arith, a.long, length-take-le count t a.fits)

    -- the value at `at` is checked with the starts of those before it: its own is in the next word
    opened : take count (set t count at) ≡ take count t
    opened = take-set-le count t count at (omega arith)

    -- the starts, with its own, once it is finished
    finished : take (count + 1) (set t count at) ≡ take count t ++ (at ∷ [])
    finished = rw add-one (take-suc-set t count at free)

    pub opened_rising : Rising (take count (set t count at))
    opened_rising = rw opened a.going.rising

    pub opened_counted : (blocks : List ℕ) → Indexed s t blocks at count → Counted (take (at / BLOCK + 1) blocks) (take count (set t count at))
    opened_counted blocks i = rw opened i.counted

    module _ (end : ℕ) (reported : ChecksValue mode (Ok end) s (take count (set t count at)) at) where
      table_ends : (at < end) × (end ≤ length s)
      table_ends = (omega (arith, reported.1.0), reported.1.1)

      pub table_finished : TableInvariant mode s (set t count at) cap end (count + 1)
      table_finished = let h = table_ends in let e = (rw opened at reported).0 cap word in record {
        long = length-set t count at ∙ a.long;
        fits = rw length-set (omega (arith, free));
        going = rw finished (invariant_finished s cap (between at (take count t)) a.going word end h.0 h.1);
        leads = rw finished (e ∙ a.leads);
      }

      module _ (blocks : List ℕ) (short : length s ≤ LIMIT) (i : Indexed s t blocks at count) where
        along_next : at / BLOCK + 1 ≤ end / BLOCK + 1
        along_next = omega (arith, table_ends.0)

        along_last : end / BLOCK < length blocks
        along_last = omega (arith, table_ends.1, i.long)

        along_few : length (take (count + 1) (set t count at)) < 2 ^ 32
        along_few =
            let g = a.going in
            let n = length-take-le count t a.fits in
            let few : count ≤ at =
            split 0 count (λ p. omega (arith, rising_ge (take count t) g.rising (count - 1) (omega arith), g.below (count - 1) (omega arith)))
            (λ z. omega arith) in
            rw (finished, length-append) (omega (arith, g.inside))

        along_below : Below ((at / BLOCK + 1) * BLOCK) (take (count + 1) (set t count at))
        along_below = rw finished (below_snoc (take count t) at _ (λ k b. omega (arith, a.going.below k b)) (omega arith))

        along_counted : Counted (take (at / BLOCK + 1) blocks) (take (count + 1) (set t count at))
        along_counted =
            rw finished (counted_snoc (take (at / BLOCK + 1) blocks) (take count t) at (omega (arith, length-take (at / BLOCK + 1) blocks)) i.counted)

        -- what `table::count_blocks` asks for
        pub along : (at / BLOCK + 1 ≤ end / BLOCK + 1) × (end / BLOCK < length blocks) × (length (take (count + 1) (set t count at)) < 2 ^ 32)
            × Below ((at / BLOCK + 1) * BLOCK) (take (count + 1) (set t count at))
            × Counted (take (at / BLOCK + 1) blocks) (take (count + 1) (set t count at))
        along = (along_next, along_last, along_few, along_below, along_counted)
