-- A search by quarters: where the rank r of a word may be, in a table of n words; and the words of a part counted.
use mathlib.Core.Path.{◌≡◌, refl, sym, ap, ◌∙◌}
use Prim.Native.Nat.{ℕ, ◌+◌, ◌-◌, ◌*◌, ◌/◌, ◌≤◌, ◌<◌}
use mathlib.Core.List.{List}
use native.Mathlib.Omega.{arith}
use borrow.Author.Tests.{lt-ltb, le-ltb}
use mathlib.Core.Bool.{Bool, false, cond}
use denote.Ref.{Bor}
use Rattle.std.specs.Prelude.{Option, None, Some, MatchOption}
use lib.Dec.{eqb, ltb}
use lib.ListN.{length, get_or, take, drop, length-drop}
use lib.Seq.{length-take-le, take_all, get_or-take, get_or-drop}
use mir.Val.{bool_byte}
use Rattle.std.specs.List.{HoldsAt, count_by}
use Rattle.std.proofs.lemmas.List.Recursion.{is_count_by}
use Rattle.prelude.specs.Pick.{pick}
use Rattle.prelude.specs.Search.{among, rank, Rising}
use Rattle.prelude.proofs.Tests.{split, pick_elim}
use Rattle.table.specs.Blocks.{Counted}
use Rattle.table.proofs.Blocks.{low_block, high_block}
use Rattle.prelude.proofs.Searches.{rank_is, rank_below, rank_after, rank_above, rank_until, among_rank, among_past}

-- what the test of one word says about the rank
pub past_test : (x : ℕ) (t : List ℕ) (i d : ℕ) → Rising t → i < length t → d ≡ bool_byte (ltb (get_or t i 0) x)
    → (d ≡ pick (ltb i (rank x t)) 1 0) × (d ≤ 1)
past_test x t i d up h e =
    split (get_or t i 0) x
    (λ l. let past = rank_after x t up i h l in rw (e, lt-ltb _ _ l, lt-ltb i (rank x t) (omega arith)) (refl, omega arith))
    (λ l. rw (e, le-ltb _ _ l, le-ltb i (rank x t) (rank_until x t up i l)) (refl, omega arith))

-- what a word that is at most x says about the rank of x
rank_from : (x : ℕ) (t : List ℕ) (i : ℕ) → Rising t → i < length t → get_or t i 0 ≤ x → i ≤ rank x t
rank_from x t i up h l =
    split (rank x t) i (λ less. absurd (omega (arith, up (rank x t) i less h, rank_above x t up (rank x t) (omega arith) (omega arith)))) (λ most. most)

-- the rank is at one of 16 words, by the first and the last of them
pub rank_window : (x : ℕ) (t : List ℕ) (i : ℕ) → Rising t → i + 16 ≤ length t → get_or t i 0 ≤ x → x ≤ get_or t (i + 15) 0
    → Rising t × (i ≤ rank x t) × (rank x t ≤ i + 16) × (i + 16 ≤ length t)
rank_window x t i up h first last = (up, rank_from x t i up (omega arith) first, omega (arith, rank_until x t up (i + 15) last), h)

-- the rank is one of lo to lo + size
pub record Between (r n lo size : ℕ) : Type 0 where
  pub low : lo ≤ r
  pub high : r ≤ lo + size
  pub fits : lo + size ≤ n

-- by the blocks that count the words
pub between_blocks : (blocks t : List ℕ) (x lo hi : ℕ) → Rising t → Counted blocks t → lo ≡ get_or blocks (x / 4096) 0
    → hi ≡ get_or blocks (x / 4096 + 1) (length t) → (lo ≤ hi) × Between (rank x t) (length t) lo (hi - lo)
between_blocks blocks t x lo hi up counted e g =
    let l = low_block blocks t x up counted in
    let h = high_block blocks t x up counted in
    (omega arith, record { low = omega arith; high = omega arith; fits = omega arith })

module _ (r n lo size : ℕ) (b : Between r n lo size) where
  -- by the words at the ends of three quarters
  pub quartered : 4 ≤ size → (i j k : ℕ) → i ≡ pick (ltb (lo + size / 4) r) 1 0 → j ≡ pick (ltb (lo + 2 * (size / 4)) r) 1 0
      → k ≡ pick (ltb (lo + 3 * (size / 4)) r) 1 0 → Between r n (lo + size / 4 * (i + j + k)) (size - 3 * (size / 4))
  quartered more i j k ei ej ek =
      let low = b.low in
      let high = b.high in
      let fits = b.fits in
      split (lo + size / 4) r
      (λ p. split (lo + 2 * (size / 4)) r
      (λ q. split (lo + 3 * (size / 4)) r
      (λ s. rw (ei, ej, ek, lt-ltb _ _ p, lt-ltb _ _ q, lt-ltb _ _ s) (record { low = omega arith; high = omega arith; fits = omega arith }))
      (λ s. rw (ei, ej, ek, lt-ltb _ _ p, lt-ltb _ _ q, le-ltb _ _ s) (record { low = omega arith; high = omega arith; fits = omega arith })))
      (λ q. rw (ei, ej, ek, lt-ltb _ _ p, le-ltb _ _ q, le-ltb (lo + 3 * (size / 4)) r (omega arith))
      (record { low = omega arith; high = omega arith; fits = omega arith })))
      (λ p. rw (ei, ej, ek, le-ltb _ _ p, le-ltb (lo + 2 * (size / 4)) r (omega arith), le-ltb (lo + 3 * (size / 4)) r (omega arith))
      (record { low = omega arith; high = omega arith; fits = omega arith }))

-- ---- words counted one by one

count_rank : (x : ℕ) (t : List ℕ) → rank x t ≡ count_by (λ y. ltb y x) t
unfolding rank
count_rank x = is_count_by (rank x) (λ y. ltb y x) refl (λ y ys. pick_elim (λ n. n + rank x ys ≡ cond (ltb y x) (1 + rank x ys) (rank x ys)) (ltb y x)
    (λ e. rw e refl) (λ e. rw e (omega arith)))

-- all words counted, one by one
pub count_all : (x : ℕ) (t : List ℕ) (i r : ℕ) → length t ≤ i → r ≡ count_by (λ y. ltb y x) (take i t) → r ≡ rank x t
count_all x t i r h e = e ∙ ap (count_by (λ y. ltb y x)) (take_all i t h) ∙ sym (count_rank x t)

-- from the word at lo on, up to the one before hi
pub rank_part : (x : ℕ) (t : List ℕ) (lo hi : ℕ) → Rising t → lo ≤ rank x t → rank x t ≤ hi → hi ≤ length t
    → lo + rank x (take (hi - lo) (drop lo t)) ≡ rank x t
rank_part x t lo hi up l h f =
    let n = length-take-le (hi - lo) (drop lo t) (omega (arith, length-drop lo t)) in
    let same : (k : ℕ) → k < hi - lo → get_or (take (hi - lo) (drop lo t)) k 0 ≡ get_or t (lo + k) 0
    = λ k m. get_or-take (hi - lo) (drop lo t) k 0 m ∙ get_or-drop lo t k 0 in
    omega (
      arith,
      rank_is x (take (hi - lo) (drop lo t)) (rank x t - lo) (omega arith)
          (λ k m. omega (arith, same k (omega arith), rank_below x t up (lo + k) (omega arith)))
          (λ k m b. omega (arith, same k (omega arith), rank_above x t up (lo + k) (omega arith) (omega arith))),
    )

-- ---- the word at the rank

pub among_found : (x : ℕ) (t : List ℕ) (i : ℕ) (o : Option (Bor ℕ)) (r : Bool) → Rising t → i ≡ rank x t
    → MatchOption o (length t ≤ i) (λ y. (i < length t) × HoldsAt (λ z. y.now ≡ z) t i) → MatchOption o (r ≡ false) (λ y. r ≡ eqb y.now x)
    → r ≡ among x t
among_found x t i None r up e h g = g ∙ among_past x t i up e h
among_found x t i (Some y) r up e h g = g ∙ ap (λ w. eqb w x) (h.1 0) ∙ among_rank x t i up e h.0
