-- Tables of words with a start, a digit and a mark.
--
-- In order: every word changed, from the first on; starts packed; a word's start and mark, and a mark set; the rank of a start, by the blocks and by a
-- part of the words.
use mathlib.Core.Path.{◌≡◌, refl, ap, ◌∙◌}
use mathlib.Core.Bool.{true, false}
use mathlib.Core.List.{List, [], ◌∷◌, ◌++◌, map, append-nil}
use Prim.Native.Nat.{ℕ, zero, suc, ◌+◌, ◌-◌, ◌*◌, ◌/◌, ◌%◌, ◌^◌, ◌≤◌, ◌<◌}
use native.Mathlib.Nat.{mul-le-mul}
use native.Mathlib.Omega.{arith}
use borrow.Author.Tests.{eq-eqb, ne_eqb}
use lib.ListN.{length, take, drop, get_or, set, replicate, length-drop, length-map, drop_of_length-le, get_or-map}
use lib.Seq.{map-set_same, length-take-le, take_all, get_or-take, get_or-drop}
use Rattle.std.proofs.lemmas.List.{get_or_default}
use Rattle.std.proofs.lemmas.List.Edits.{map_over_more}
use Rattle.prelude.specs.Search.{rank, Rising}
use Rattle.prelude.proofs.Searches.{rank_le, rank_is, rank_below, rank_above}
use Rattle.table.specs.Blocks.{Below}
use Rattle.table.proofs.Blocks.{low_block, high_block}
use Rattle.prune_marks.specs.Marks.{starts_in, is_marked, marks_in, Indexed}

-- ---- every word changed

-- t is d with its first i words changed by f
module _ (f : ℕ → ℕ) (d t : List ℕ) (i : ℕ) (e : t ≡ map f (take i d) ++ drop i d) where
  pub changed_on : i < length d → length t ≡ length d → set t i (f (get_or t i 0)) ≡ map f (take (i + 1) d) ++ drop (i + 1) d
  changed_on h long = map_over_more f d t i (get_or t i 0) h e (get_or_default t i 0 (get_or t i 0) (omega arith))

  pub changed_all : length d ≤ i → t ≡ map f d
  changed_all h = e ∙ rw (take_all i d h, drop_of_length-le d h, append-nil)

-- ---- starts packed; a mark set

pub packed_starts : (d : List ℕ) → starts_in (map (λ w. w * 256) d) ≡ d
packed_starts [] = refl
packed_starts (x ∷ d) = let e : x * 256 / 256 ≡ x = omega arith in rw (e, packed_starts d)

pub packed_marks : (d : List ℕ) → marks_in (map (λ w. w * 256) d) ≡ replicate (length d) false
packed_marks [] = refl
packed_marks (x ∷ d) = rw (ne_eqb (x * 256 % 2) 1 (λ e. omega arith), packed_marks d)

pub map_set : {B : Type 0} (f : ℕ → B) (t : List ℕ) (i x : ℕ) → map f (set t i x) ≡ set (map f t) i (f x)
map_set f [] i x = refl
map_set f (y ∷ t) zero x = refl
map_set f (y ∷ t) (suc i) x = ap (λ l. f y ∷ l) (map_set f t i x)

module _ (t : List ℕ) (i : ℕ) where
  pub start_at : get_or (starts_in t) i 0 ≡ get_or t i 0 / 256
  start_at = get_or-map (λ w. w / 256) t i 0

  pub mark_at : get_or (marks_in t) i false ≡ is_marked (get_or t i 0)
  mark_at = get_or-map is_marked t i 0

  pub same_starts : (x : ℕ) → x / 256 ≡ get_or t i 0 / 256 → starts_in (set t i x) ≡ starts_in t
  same_starts x e = map-set_same (λ w. w / 256) t i x 0 e

  pub set_marks : (x : ℕ) → x % 2 ≡ 1 → marks_in (set t i x) ≡ set (marks_in t) i true
  set_marks x e = map_set is_marked t i x ∙ ap (set (marks_in t) i) (eq-eqb (x % 2) 1 e)

-- ---- the rank of a start

-- a start below m
pub start_le : (m : ℕ) (t : List ℕ) (i r : ℕ) → r ≡ get_or (starts_in t) i 0 → Below m (starts_in t) → i < length t → r ≤ m
start_le m t i r e below h = omega (arith, below i (omega (arith, length-map t (λ w. w / 256))))

pub rank_fits : (x : ℕ) (t : List ℕ) → rank x (starts_in t) ≤ length t
rank_fits x t = rw (← length-map t (λ w. w / 256)) (rank_le x (starts_in t))

-- the rank is one of lo to hi
pub record Between (blocks t : List ℕ) (x lo hi : ℕ) : Type 0 where
  pub rising : Rising (starts_in t)
  pub low : lo ≤ rank x (starts_in t)
  pub high : rank x (starts_in t) ≤ hi
  pub order : lo ≤ hi
  pub fits : hi ≤ length t

-- by the blocks that count the starts
pub between : (blocks t : List ℕ) (x lo hi : ℕ) → Indexed t blocks → lo ≡ get_or blocks (x / 4096) 0 → hi ≡ get_or blocks (x / 4096 + 1) (length t)
    → Between blocks t x lo hi
between blocks t x lo hi i e g =
    let n = length-map t (λ w. w / 256) in
    let l = low_block blocks (starts_in t) x i.rising i.counted in
    let h = high_block blocks (starts_in t) x i.rising i.counted in
    let top : hi ≡ get_or blocks (x / 4096 + 1) (length (starts_in t)) = rw n g in
    record { rising = i.rising; low = omega arith; high = omega arith; order = omega arith; fits = omega arith }

-- by the words from lo to hi
module _ (blocks t : List ℕ) (x lo hi : ℕ) (b : Between blocks t x lo hi) where
  abbrev pub part : List ℕ
  part = take (hi - lo) (drop lo t)

  part_long : length part ≡ hi - lo
  part_long = length-take-le (hi - lo) (drop lo t) (omega (arith, length-drop lo t))

  part_at : (k : ℕ) → k < hi - lo → get_or part k 0 ≡ get_or t (lo + k) 0
  part_at k h = get_or-take (hi - lo) (drop lo t) k 0 h ∙ get_or-drop lo t k 0

  pub part_rising : Rising part
  part_rising i j l m =
      let n = part_long in
      let order = b.order in
      let r = b.rising (lo + i) (lo + j) (omega arith) (omega (arith, length-map t (λ w. w / 256))) in
      omega (arith, part_at i (omega arith), part_at j (omega arith), start_at t (lo + i), start_at t (lo + j))

  pub rank_part : (r : ℕ) → r ≡ rank (256 * x) part → lo + r ≡ rank x (starts_in t)
  rank_part r e =
      let n = part_long in
      let same = length-map t (λ w. w / 256) in
      let is = rank_is (256 * x) part (rank x (starts_in t) - lo) (omega arith)
      (λ k m. omega (arith, part_at k (omega arith), start_at t (lo + k), rank_below x (starts_in t) b.rising (lo + k) (omega arith)))
      (λ k m q. omega (arith, part_at k (omega arith), start_at t (lo + k), rank_above x (starts_in t) b.rising (lo + k) (omega arith) (omega arith))) in
      omega (arith, is)

-- an offset in a block, times the starts in it
pub guess_fits : (x n : ℕ) → n ≤ 4096 → x % 4096 * n < 2 ^ 64
guess_fits x n h =
    let most : x % 4096 ≤ 4096 = omega arith in
    let all : x % 4096 * n ≤ 4096 * 4096 = mul-le-mul {n₂ = 4096} {m₂ = 4096} most h in
    omega arith
