-- How many bytes `put` yields.
--
-- In order: by the highest bit, and so by the leading zeros; at most as many as are allowed; no bytes of the same value
-- are fewer (`put_shortest`); `put` byte by byte.
use mathlib.Core.Path.{◌≡◌, refl}
use mathlib.Core.List.{List, [], ◌∷◌}
use Prim.Native.Nat.{ℕ, zero, suc, ◌+◌, ◌-◌, ◌*◌, ◌/◌, ◌%◌, ◌^◌, ◌<◌, ◌≤◌}
use native.Mathlib.Nat.{two-pow-succ}
use native.Mathlib.Omega.{arith}
use lib.Count.{count_leading_zeros, leading_top}
use lib.ListN.{length}
use lib.Pow.{pow_mono, pow-add}
use borrow.Author.Tests.{lt-ltb, le-ltb}
use Rattle.prelude.proofs.Tests.{split}
use Rattle.leb128.specs.Leb.{put, value, top}

scale : (i j : ℕ) → j ≡ 7 + i → 2 ^ j ≡ 128 * 2 ^ i
scale i j e = rw e (pow-add 2 7 i)

pow_lt : (i j : ℕ) → 2 ^ i < 2 ^ j → i < j
pow_lt i j h = split i j (λ l. l) (λ l. absurd (omega (arith, pow_mono l)))

-- for a number whose highest bit is j
length_put_bit : (k j n : ℕ) → 2 ^ j ≤ n → n < 2 ^ suc j → j < 7 * suc k → length (put k n) ≡ j / 7 + 1
unfolding put
length_put_bit zero j n lo hi h = omega arith
length_put_bit (suc k) j n lo hi h =
    split n 128
    (λ small. rw lt-ltb (omega (arith, pow_lt j 7 (omega arith))))
    (λ large.
    let l : 7 < suc j = pow_lt 7 (suc j) (omega arith) in
    let p = scale (j - 7) j (omega arith) in
    rw le-ltb (omega (arith, length_put_bit k (j - 7) (n / 128) (omega arith) (omega (arith, two-pow-succ j, two-pow-succ (j - 7))) (omega arith))))

pub length_put_zeros : (n : ℕ) → 0 < n → n < 2 ^ 64 → (70 - count_leading_zeros 64 n) / 7 ≡ length (put 9 n)
length_put_zeros n pos fits =
    let t = leading_top 64 n pos fits in
    omega (arith, t.1, length_put_bit 9 t.0 n t.2 t.3 (omega (arith, t.1)))

pub length_put_zero : (n : ℕ) → n ≡ 0 → 1 ≡ length (put 9 n)
unfolding put
length_put_zero n e = rw e

pub length_put_le : (k n : ℕ) → length (put k n) ≤ suc k
unfolding put
length_put_le zero n = omega arith
length_put_le (suc k) n = split n 128 (λ small. rw lt-ltb (omega arith)) (λ large. rw le-ltb (omega (arith, length_put_le k (n / 128))))

-- ---- the shortest form

pub value_put : (k n : ℕ) → n < top k → value (put k n) ≡ n
unfolding put value
value_put zero n h = omega arith
value_put (suc k) n h =
    split n 128 (λ small. rw lt-ltb (omega arith)) (λ large. rw le-ltb (omega (arith, value_put k (n / 128) (omega arith))))

pub put_shortest : (k : ℕ) (s : List ℕ) → 0 < length s → value s < top k → length (put k (value s)) ≤ length s
unfolding put value
put_shortest k [] pos h = absurd (omega arith)
put_shortest zero (b ∷ s) pos h = omega arith
put_shortest (suc k) (b ∷ s) pos h =
    split (b % 128 + 128 * value s) 128
    (λ small. rw lt-ltb (omega arith))
    (λ large.
    let high : (b % 128 + 128 * value s) / 128 ≡ value s = omega arith in
    rw (le-ltb, high) (omega (arith, put_shortest k s (value_pos s (omega arith)) (omega arith))))
  where
    value_pos : (s : List ℕ) → 0 < value s → 0 < length s
    value_pos [] v = v
    value_pos (b ∷ s) v = omega arith

-- ---- `put` byte by byte, the i-th byte first

pub put_last : (k n : ℕ) → n < 128 → put k n ≡ n ∷ []
unfolding put
put_last zero n h = refl
put_last (suc k) n h = rw lt-ltb

pub put_suc : (k n : ℕ) → 128 ≤ n → put (suc k) n ≡ (n % 128 + 128) ∷ put k (n / 128)
unfolding put
put_suc k n h = rw le-ltb

-- the i-th byte and those after it, if more than one is left
pub record More (i n : ℕ) : Type 0 where
  pub bytes : put (9 - i) n ≡ (n % 128 + 128) ∷ put (9 - suc i) (n / 128)
  pub below : n / 128 < top (9 - suc i)

pub put_more : (i n : ℕ) → 128 ≤ n → n < top (9 - i) → More i n
put_more i n h l =
    split i 9
    (λ lt.
    let e : 9 - i ≡ suc (9 - suc i) = omega arith in
    record { bytes = rw e (put_suc (9 - suc i) n h); below = omega (arith, rw e at l) })
    (λ ge. let e : 9 - i ≡ 0 = omega arith in absurd (omega (arith, rw e at l)))
