-- Two lists compared from index i on: where they agree at i, the rest decides.
use mathlib.Core.Path.{◌≡◌}
use mathlib.Core.Bool.{◌&&◌}
use mathlib.Core.List.{List}
use Prim.Native.Nat.{ℕ, ◌+◌, ◌<◌}
use native.Mathlib.Numerals.{add-one}
use borrow.Author.Tests.{eq-eqb}
use lib.Dec.{eqb}
use lib.ListN.{length, get_or, drop}
use lib.Seq.{drop-cons}
use Rattle.reader_lookup.specs.Lookup.{same}

module _ (a b : List ℕ) (i : ℕ) (ia : i < length a) (ib : i < length b) where
  same_at : same (drop i a) (drop i b) ≡ (eqb (get_or a i 0) (get_or b i 0) && same (drop (i + 1) a) (drop (i + 1) b))
  unfolding same
  same_at = rw (drop-cons a i 0 ia, drop-cons b i 0 ib, add-one)

  pub same_on : get_or a i 0 ≡ get_or b i 0 → same (drop (i + 1) a) (drop (i + 1) b) ≡ same (drop i a) (drop i b)
  same_on e = rw (same_at, eq-eqb _ _ e)
