-- Words counted by blocks.
--
-- In order: the rank of a greater word, of a word past all others, and with one more word; what a count says about the
-- rank; more blocks counted, and one more word; a whole table.
use mathlib.Core.Path.{◌≡◌, refl, sym, ◌∙◌}
use mathlib.Core.List.{List, [], ◌∷◌, ◌++◌}
use Prim.Native.Nat.{ℕ, zero, suc, ◌+◌, ◌-◌, ◌*◌, ◌/◌, ◌^◌, ◌≤◌, ◌<◌}
use native.Mathlib.Numerals.{add-one}
use native.Mathlib.Omega.{arith}
use borrow.Author.Tests.{le-ltb}
use mir.Syntax.{w32}
use mir.Val.{Fits}
use borrow.Rule.Slice.PartMut.{put_mid}
use lib.ListN.{length, get_or, take, replicate, length-append, length-take, get_or-append}
use lib.Seq.{length-take-le, take-suc, get_or-take, get_or-append_right}
use Rattle.std.proofs.lemmas.Grind.{get_or_default_zero}
use Rattle.std.proofs.lemmas.List.{length-replicate, get_or-replicate, get_or_past}
use Rattle.std.proofs.lemmas.Slice.{take-put_mid}
use Rattle.prelude.specs.Search.{rank, Rising}
use Rattle.prelude.proofs.Tests.{split}
use Rattle.prelude.proofs.Searches.{rising_ge, rank_le, rank_is, rank_below, rank_above}
use Rattle.table.specs.Blocks.{BLOCK, Counted, Below}

rank_mono : (x y : ℕ) (t : List ℕ) → Rising t → x ≤ y → rank x t ≤ rank y t
rank_mono x y t up h =
    split (rank y t) (rank x t)
    (λ l. absurd (omega (arith, rank_le x t, rank_below x t up (rank y t) l, rank_above y t up (rank y t) (omega arith) (omega (arith, rank_le x t)))))
    (λ l. l)

rank_all : (x : ℕ) (t : List ℕ) → Below x t → rank x t ≡ length t
rank_all x t h = rank_is x t (length t) (omega arith) h (λ k l m. absurd (omega arith))

rank_snoc : (x y : ℕ) (t : List ℕ) → x ≤ y → rank x (t ++ (y ∷ [])) ≡ rank x t
unfolding rank
rank_snoc x y [] h = rw (le-ltb y x h)
rank_snoc x y (z ∷ t) h = rw (rank_snoc x y t h)

-- ---- what a count says about the rank

module _ (blocks t : List ℕ) (x : ℕ) (up : Rising t) (counted : Counted blocks t) where
  -- the rank of x is not below the count of x's block
  pub low_block : get_or blocks (x / 4096) 0 ≤ rank x t
  low_block =
      split (x / 4096) (length blocks) (λ h. rw (counted (x / 4096) h) (rank_mono (x / 4096 * BLOCK) x t up (omega arith)))
      (λ h. rw (get_or_past blocks (x / 4096) 0 h) (omega arith))

  -- .. and not above that of the next block, which is not above the number of words
  pub high_block : (rank x t ≤ get_or blocks (x / 4096 + 1) (length t)) × (get_or blocks (x / 4096 + 1) (length t) ≤ length t)
  high_block =
      split (x / 4096 + 1) (length blocks)
      (λ h. rw (get_or_default_zero blocks (x / 4096 + 1) (length t) h, counted (x / 4096 + 1) h)
      (rank_mono x ((x / 4096 + 1) * BLOCK) t up (omega arith), rank_le ((x / 4096 + 1) * BLOCK) t))
      (λ h. rw (get_or_past blocks (x / 4096 + 1) (length t) h) (rank_le x t, omega arith))

-- ---- more blocks, and one more word

pub counted_none : (t : List ℕ) → Counted [] t
counted_none t b h = absurd (omega arith)

-- the first block, before any word
pub counted_first : (blocks : List ℕ) → get_or blocks 0 0 ≡ 0 → Counted (take 1 blocks) []
unfolding rank
counted_first [] e b h = absurd (omega arith)
counted_first (x ∷ blocks) e zero h = e
counted_first (x ∷ blocks) e (suc b) h = absurd (omega arith)

-- blocks past all words
counted_append : (blocks t : List ℕ) (n : ℕ) → Below (length blocks * BLOCK) t → Counted blocks t → Counted (blocks ++ replicate n (length t)) t
counted_append blocks t n below counted b h =
    let long = length-append blocks (replicate n (length t)) in
    let more = length-replicate n (length t) in
    split b (length blocks)
    (λ l. rw (get_or-append blocks (replicate n (length t)) 0 b l) (counted b l))
    (λ l. rw (get_or-append_right blocks (replicate n (length t)) b 0 l, get_or-replicate n (b - length blocks) (length t) 0 (omega arith))
    (sym (rank_all _ t (λ j i. omega (arith, below j i)))))

-- those from number b on, up to the one before number e, each given the number of all words
pub counted_fill : (blocks t filled : List ℕ) (b e : ℕ) → b ≤ e → e ≤ length blocks → Below (b * BLOCK) t → Counted (take b blocks) t
    → filled ≡ replicate (e - b) (length t) → Counted (take e (put_mid b (e - b) blocks filled)) t
counted_fill blocks t filled b e l h below counted all =
    let n = length-take-le b blocks (omega arith) in
    rw (all, take-put_mid b (e - b) blocks (replicate (e - b) (length t)) e (omega (arith, length-replicate (e - b) (length t))) (omega arith))
    (counted_append (take b blocks) t (e - b) (rw n below) counted)

-- a word not before the blocks
pub counted_snoc : (blocks t : List ℕ) (x : ℕ) → length blocks ≤ x / BLOCK + 1 → Counted blocks t → Counted blocks (t ++ (x ∷ []))
counted_snoc blocks t x h counted b l = counted b l ∙ sym (rank_snoc (b * BLOCK) x t (omega arith))

-- ---- a whole table

-- the first i words are counted, in `known` of n blocks: those that begin at the last of these words or before
pub record Counting (t blocks : List ℕ) (n known i : ℕ) : Type 0 where
  pub fits : i ≤ length t
  pub long : length blocks ≡ n
  pub known_fits : known ≤ n
  pub below : Below (known * BLOCK) (take i t)
  pub counted : Counted (take known blocks) (take i t)
  pub ahead : (k : ℕ) → i ≤ k → k < length t → known ≤ get_or t k 0 / BLOCK + 1

pub counting_start : (t blocks : List ℕ) → Counting t blocks (length blocks) 0 0
counting_start t blocks = record {
  fits = omega arith;
  long = refl;
  known_fits = omega arith;
  below = λ k h. absurd (omega arith);
  counted = counted_none [];
  ahead = λ k h g. omega arith;
}

module _ (t blocks : List ℕ) (n known i : ℕ) (up : Rising t) (below : Below (n * BLOCK) t) (c : Counting t blocks n known i) (more : i < length t) where
  pub next_le : known ≤ get_or t i 0 / BLOCK + 1
  next_le = c.ahead i (omega arith) more

  pub last_lt : get_or t i 0 / BLOCK < length blocks
  last_lt = omega (arith, c.long, below i more)

  pub few_words : Fits w32 (get_or t i 0) → length (take i t) < 2 ^ 32
  few_words h = rw length-take (omega (arith, rising_ge t up i more))

  pub counting_on : (after : List ℕ) → length after ≡ length blocks → Counted (take (get_or t i 0 / BLOCK + 1) after) (take i t)
      → Counting t after n (get_or t i 0 / BLOCK + 1) (i + 1)
  counting_on after same counted =
      let words : take (i + 1) t ≡ take i t ++ (get_or t i 0 ∷ []) = rw add-one (take-suc t i 0 more) in
      let few = length-take-le (i + 1) t (omega arith) in
      record {
        fits = omega arith;
        long = same ∙ c.long;
        known_fits = omega (arith, below i more);
        below = λ k h. rw (get_or-take (i + 1) t k 0 (omega arith))
            (split k i (λ l. omega (arith, up k i l more)) (λ l. let e : k ≡ i = omega arith in rw e (omega arith)));
        counted = rw words
            (counted_snoc (take (get_or t i 0 / BLOCK + 1) after) (take i t) (get_or t i 0) (omega (arith, length-take (get_or t i 0 / BLOCK + 1) after)) counted);
        ahead = λ k h g. omega (arith, up i k (omega arith) g);
      }
