-- Padded numbers: the bytes of a number in the tolerant mode are its shortest bytes, padded (`padded_exactly`).
--
-- In order: padding keeps the form of a number and its value; a byte before padded bytes; the bytes of a number, both ways.
use mathlib.Core.Path.{◌≡◌, refl, ap}
use mathlib.Core.Logic.{◌↔◌}
use Prim.Native.Nat.{ℕ, zero, suc, ◌+◌, ◌*◌, ◌/◌, ◌%◌, ◌^◌, ◌≤◌, ◌<◌}
use mathlib.Core.List.{List, [], ◌∷◌, ◌++◌}
use native.Mathlib.Omega.{arith}
use lib.ListN.{length, replicate}
use Rattle.prelude.specs.Bytes.{Bytes}
use Rattle.prelude.proofs.Tests.{split}
use Rattle.leb128.specs.Leb.{put, value, top, least_of, continued, pad, Groups, Spells}
use Rattle.leb128.specs.declared.Mode.TheVariants.{Tolerant}
use Rattle.leb128.proofs.Sizes.{value_put, put_last, put_suc}
use Rattle.leb128.proofs.Spellings.{groups_cons, groups_put}

-- ---- padding keeps a number

-- what padding appends
abbrev zeros : ℕ → List ℕ
zeros k = replicate k 0x80 ++ (0x00 ∷ [])

groups_zeros : (k : ℕ) → Groups (zeros k)
groups_zeros zero = omega arith
groups_zeros (suc k) = groups_cons 0x80 (zeros k) (omega arith) (groups_zeros k)

groups_continued : (s t : List ℕ) → Groups s → Groups t → Groups (continued s ++ t)
unfolding continued
groups_continued [] t g h = h
groups_continued (b ∷ []) t g h = groups_cons (b + 128) t (omega arith) h
groups_continued (b ∷ (c ∷ s)) t g h = groups_cons b (continued (c ∷ s) ++ t) g.0 (groups_continued (c ∷ s) t g.1 h)

groups_pad : (k : ℕ) (s : List ℕ) → Groups s → Groups (pad k s)
unfolding pad
groups_pad zero s g = g
groups_pad (suc k) s g = groups_continued s (zeros k) g (groups_zeros k)

value_zeros : (k : ℕ) → value (zeros k) ≡ 0
unfolding value
value_zeros zero = refl
value_zeros (suc k) = omega (arith, value_zeros k)

value_continued : (s t : List ℕ) → value t ≡ 0 → value (continued s ++ t) ≡ value s
unfolding continued value
value_continued [] t e = e
value_continued (b ∷ []) t e = omega arith
value_continued (b ∷ (c ∷ s)) t e = omega (arith, value_continued (c ∷ s) t e)

value_pad : (k : ℕ) (s : List ℕ) → value (pad k s) ≡ value s
unfolding pad
value_pad zero s = refl
value_pad (suc k) s = value_continued s (zeros k) (value_zeros k)

-- ---- a byte before padded bytes

pad_cons : (k b : ℕ) (s : List ℕ) → Groups s → pad k (b ∷ s) ≡ b ∷ pad k s
unfolding continued pad
pad_cons k b [] g = absurd g
pad_cons zero b (c ∷ s) g = refl
pad_cons (suc k) b (c ∷ s) g = refl

pad_last : (k b : ℕ) → pad (suc k) (b ∷ []) ≡ (b + 128) ∷ pad k (0 ∷ [])
unfolding continued pad
pad_last zero b = refl
pad_last (suc k) b = refl

-- s is the shortest bytes of n, padded
abbrev Padded : ℕ → ℕ → List ℕ → Type 0
Padded k n s = (j : ℕ) × (s ≡ pad j (put k n))

padded_cons : (k b n : ℕ) (s : List ℕ) → 128 ≤ b → b < 256 → n < top k → Padded k n s → Padded (suc k) (b % 128 + 128 * n) (b ∷ s)
padded_cons k b n s lo hi h p =
    split n 1
    (λ none.
    let nought : n ≡ 0 = omega arith in
    let low : b % 128 + 128 * 0 ≡ b % 128 = omega arith in
    let own : b % 128 + 128 ≡ b = omega arith in
    (suc p.0, rw (nought, low, put_last (suc k) (b % 128) (omega arith), pad_last, own, p.1, nought, put_last k 0 (omega arith))))
    (λ some.
    let large : 128 ≤ b % 128 + 128 * n = omega arith in
    let own : (b % 128 + 128 * n) % 128 + 128 ≡ b = omega arith in
    let high : (b % 128 + 128 * n) / 128 ≡ n = omega arith in
    (p.0, rw (put_suc, own, high, pad_cons p.0 b (put k n) (groups_put k n h)) (ap (λ x. b ∷ x) p.1)))

-- ---- the bytes of a number

padded_groups : (k : ℕ) (s : List ℕ) → Groups s → Bytes s → length s ≤ suc k → value s < top k → Padded k (value s) s
unfolding value pad
padded_groups k [] g h l v = absurd g
padded_groups k (b ∷ []) g h l v = let own : b % 128 + 128 * 0 ≡ b = omega arith in (0, rw (own, put_last k b g))
padded_groups zero (b ∷ (c ∷ s)) g h l v = absurd (omega arith)
padded_groups (suc k) (b ∷ (c ∷ s)) g h l v =
    let less : value (c ∷ s) < top k = omega arith in
    padded_cons k b (value (c ∷ s)) (c ∷ s) g.0 h.0 less (padded_groups k (c ∷ s) g.1 h.1 (omega arith) less)

pub padded_exactly : (n : ℕ) (s : List ℕ) → Bytes s → Spells Tolerant n s ↔ ((n < 2 ^ 64) × (length s ≤ 10) × ((k : ℕ) × (s ≡ pad k (put 9 n))))
padded_exactly n s b = (
  λ p. (p.below, p.ten, rw p.same at (padded_groups 9 s p.groups b (omega (arith, p.ten)) (omega (arith, p.same, p.below)))),
  λ (below, ten, (k, e)).
      record {
        groups = rw e (groups_pad k (put 9 n) (groups_put 9 n below));
        same = rw (e, value_pad, value_put 9 n below);
        below = below;
        ten = ten;
        shortest = λ q. absurd (omega (arith, ap least_of q));
      },
)
