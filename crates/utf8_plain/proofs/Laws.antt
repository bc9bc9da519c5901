-- The test of eight bytes says yes exactly if all of them are plain, and what that says of parts of bytes.
--
-- In order: the test, for a word of any width and for its bytes; the plain bytes in front, by the digits 0 below the lowest bit; parts of plain
-- bytes; the word that the code reads; two words at a time; four to eight bytes joined to one word.
use mathlib.Core.Path.{◌≡◌, refl, sym, ap, ◌∙◌}
use mathlib.Core.Logic.{◌↔◌}
use mathlib.Core.Bool.{Bool, true, ◌&&◌, cond, false≢true}
use mathlib.Core.List.{List, [], ◌∷◌, ◌++◌}
use Prim.Native.Nat.{ℕ, zero, suc, ◌+◌, ◌*◌, ◌-◌, ◌/◌, ◌%◌, ◌^◌, ◌≤◌, ◌<◌}
use native.Mathlib.Nat.{not-suc-le-zero, zero-add, suc-add, pow-suc, div-le_self}
use native.Mathlib.Omega.{arith}
use lib.Bits.{bit_and, and_block, and_high, and_zero_r}
use lib.Count.{count_trailing_zeros, trailing_le}
use lib.Dec.{ltb}
use lib.ListN.{length, get_or, take, drop, length-drop, take-append-drop}
use lib.Seq.{drop-drop, take-nil, take_all, take-take, length-take-le}
use borrow.Author.Tests.{eqb-true, eq-eqb, ltb-true, ltb-false, lt-ltb, le-ltb}
use Rattle.prelude.specs.Bytes.{Bytes}
use Rattle.prelude.proofs.Tests.{pick_elim, split, and_l, and_r}
use Rattle.prelude.proofs.Lists.{each_append}
use Rattle.prelude.proofs.Parts.{bytes_drop, part_from, length_part}
use Rattle.std.specs.List.{position, position_or_len}
use Rattle.std.specs.Option.{unwrap_or}
use Rattle.std.specs.Simd.{first_chunks}
use Rattle.std.proofs.lemmas.List.Sums.{prefix_len-le-length}
use Rattle.std.proofs.Common.{Some, None, not, Fits, w8}
use Rattle.little_endian.specs.LittleEndian.{little, from_little, load}
use Rattle.little_endian.proofs.Laws.{little_from, little_append, little_load, bytes_of, bytes_take}
use Rattle.utf8_plain.specs.Plain.{Plain, plain_front, high_bits, are_plain}

-- ---- the test

and_byte : (k w : ℕ) → bit_and w (high_bits (suc k)) ≡ bit_and (w / 256) (high_bits k) * 256 + w % 256 / 128 * 128
and_byte k w =
    let parts : w / 256 * 2 ^ 8 + w % 256 ≡ w = omega arith in
    let bits : high_bits k * 2 ^ 8 + 128 ≡ high_bits (suc k) = omega arith in
    let high : bit_and (w % 256) 128 ≡ w % 256 / 128 * 128 = and_high (w % 256) 1 7 ∙ omega arith in
    ap (λ x. bit_and x (high_bits (suc k))) (sym parts) ∙ ap (bit_and (w / 256 * 2 ^ 8 + w % 256)) (sym bits)
    ∙ and_block 8 (w / 256) (high_bits k) (w % 256) 128 (omega arith) (omega arith) ∙ ap (λ x. bit_and (w / 256) (high_bits k) * 256 + x) high

word_plain : (k w : ℕ) → (bit_and w (high_bits k) ≡ 0) ↔ Plain (little k w)
unfolding little
word_plain zero w = (λ e. tt, λ p. and_zero_r w)
word_plain (suc k) w =
    let same = and_byte k w in
    let rest = word_plain k (w / 256) in
    (λ e. (omega arith, rest.0 (omega arith)), λ p. same ∙ rw (rest.1 p.1) (omega (arith, p.0)))

pub plain_word : (w : ℕ) → (are_plain w ≡ true) ↔ Plain (little 8 w)
unfolding are_plain
plain_word w = (λ e. (word_plain 8 w).0 (eqb-true _ _ e), λ p. eq-eqb _ _ ((word_plain 8 w).1 p))

pub plain_exactly : (s : List ℕ) → Bytes s → length s ≡ 8 → (are_plain (from_little s) ≡ true) ↔ Plain s
plain_exactly s b e =
    let own : little 8 (from_little s) ≡ s = rw e at (little_from s b) in
    rw own at (plain_word (from_little s))

-- ---- the bytes in front

trailing_even : (n y : ℕ) → count_trailing_zeros (suc n) (2 * y) ≡ suc (count_trailing_zeros n y)
unfolding count_trailing_zeros
trailing_even n y =
    let low : 2 * y % 2 ≡ 0 = omega arith in
    let high : 2 * y / 2 ≡ y = omega arith in
    rw (low, high)

trailing_odd : (n y : ℕ) → count_trailing_zeros (suc n) (2 * y + 1) ≡ 0
unfolding count_trailing_zeros
trailing_odd n y = let low : (2 * y + 1) % 2 ≡ 1 = omega arith in rw low

-- j digits 0 below those of y
trailing_above : (j n y : ℕ) → count_trailing_zeros (j + n) (2 ^ j * y) ≡ j + count_trailing_zeros n y
trailing_above zero n y = let same : 2 ^ 0 * y ≡ y = omega arith in rw (zero-add n, same, zero-add)
trailing_above (suc j) n y =
    let twice : 2 ^ suc j * y ≡ 2 * (2 ^ j * y) = rw (pow-suc 2 j) (omega arith) in
    rw (suc-add j n, twice, trailing_even, trailing_above j n y, suc-add)

front_word : (k w : ℕ) → count_trailing_zeros (8 * k) (bit_and w (high_bits k)) / 8 ≡ plain_front (little k w)
unfolding little plain_front count_trailing_zeros
front_word zero w = refl
front_word (suc k) w =
    let q : ℕ = bit_and (w / 256) (high_bits k) in
    let bits : 8 * suc k ≡ 7 + suc (8 * k) = omega arith in
    pick_elim (λ n. count_trailing_zeros (8 * suc k) (bit_and w (high_bits (suc k))) / 8 ≡ n) (ltb (w % 256) 0x80)
    (λ e.
    let plain = ltb-true (w % 256) 0x80 e in
    let word : bit_and w (high_bits (suc k)) ≡ 2 ^ 7 * (2 * q) = and_byte k w ∙ omega arith in
    let zeros = trailing_above 7 (suc (8 * k)) (2 * q) in
    rw (← front_word k (w / 256), bits, word) (omega (arith, zeros, trailing_even (8 * k) q)))
    (λ e.
    let other = ltb-false (w % 256) 0x80 e in
    let word : bit_and w (high_bits (suc k)) ≡ 2 ^ 7 * (2 * q + 1) = and_byte k w ∙ omega arith in
    let zeros = trailing_above 7 (suc (8 * k)) (2 * q + 1) in
    rw (bits, word) (omega (arith, zeros, trailing_odd (8 * k) q)))

-- ---- parts

plain_parts : (k : ℕ) (s : List ℕ) → Plain s ↔ (Plain (take k s) × Plain (drop k s))
plain_parts k s = rw (take-append-drop k s) at (each_append (λ b. b < 0x80) (take k s) (drop k s))

pub plain_later : (s : List ℕ) (j i : ℕ) → j ≤ i → Plain (drop j s) → Plain (drop i s)
plain_later s j i h p =
    let sum : j + (i - j) ≡ i = omega arith in
    let same : drop (i - j) (drop j s) ≡ drop i s = drop-drop (i - j) j s ∙ rw sum in
    rw same at ((plain_parts (i - j) (drop j s)).0 p).1

pub front_plain : (s : List ℕ) → Plain (take (plain_front s) s)
unfolding plain_front
front_plain [] = tt
front_plain (b ∷ s) = pick_elim (λ n. Plain (take n (b ∷ s))) (ltb b 0x80) (λ e. (ltb-true b 0x80 e, front_plain s)) (λ e. tt)

pub front_le : (s : List ℕ) → plain_front s ≤ length s
unfolding plain_front
front_le [] = omega arith
front_le (b ∷ s) = pick_elim (λ n. n ≤ suc (length s)) (ltb b 0x80) (λ e. omega (arith, front_le s)) (λ e. omega arith)

front_stop : (s : List ℕ) → plain_front s < length s → 0x80 ≤ get_or s (plain_front s) 0
unfolding plain_front
front_stop [] h = absurd (not-suc-le-zero h)
front_stop (b ∷ s) h =
    pick_elim (λ n. n < suc (length s) → 0x80 ≤ get_or (b ∷ s) n 0) (ltb b 0x80) (λ e l. front_stop s (omega arith)) (λ e l. ltb-false b 0x80 e) h

-- no fewer: n bytes in front are plain
front_ge : (n : ℕ) (s : List ℕ) → n ≤ length s → Plain (take n s) → n ≤ plain_front s
unfolding plain_front
front_ge zero s h p = omega arith
front_ge (suc n) [] h p = absurd (not-suc-le-zero h)
front_ge (suc n) (b ∷ s) h p = rw (lt-ltb b 0x80 p.0) (omega (arith, front_ge n s (omega arith) p.1))

-- no more: the byte after n is not plain
front_until : (n : ℕ) (s : List ℕ) → n < length s → 0x80 ≤ get_or s n 0 → plain_front s ≤ n
unfolding plain_front
front_until n [] h l = absurd (not-suc-le-zero h)
front_until zero (b ∷ s) h l = rw (le-ltb b 0x80 l) (omega arith)
front_until (suc n) (b ∷ s) h l = pick_elim (λ k. k ≤ suc n) (ltb b 0x80) (λ e. omega (arith, front_until n s (omega arith) l)) (λ e. omega arith)

pub front_exactly : (s : List ℕ) (n : ℕ)
    → (n ≡ plain_front s) ↔ ((n ≤ length s) × Plain (take n s) × (n < length s → 0x80 ≤ get_or s n 0))
front_exactly s n = (
  λ e. rw e (front_le s, front_plain s, front_stop s),
  λ h.
      split n (length s) (λ less. omega (arith, front_ge n s h.0 h.1, front_until n s less (h.2 less)))
      (λ all. omega (arith, front_ge n s h.0 h.1, front_le s)),
)

-- ---- as the code has it

-- the word w, read from the part at i
module _ (s : List ℕ) (i w : ℕ) (h : i + 8 ≤ length s)
    (bytes : 8 ≤ length (take (length s - i) (drop i s)) → little 8 w ≡ take 8 (take (length s - i) (drop i s))) where
  word_at : little 8 w ≡ take 8 (drop i s)
  word_at = rw (part_from i s) at (bytes (rw length_part (omega arith)))

  pub plain_at : {r : Bool} → r ≡ are_plain w → (r ≡ true) ↔ Plain (take 8 (drop i s))
  plain_at e = rw (e, ← word_at) (plain_word w)

  pub front_at : count_trailing_zeros 64 (bit_and w (high_bits 8)) / 8 ≡ plain_front (take 8 (drop i s))
  front_at = front_word 8 w ∙ rw word_at

pub zeros_lt : (x d : ℕ) → count_trailing_zeros 64 x / d < 2 ^ 64
zeros_lt x d = omega (arith, trailing_le 64 x, div-le_self (count_trailing_zeros 64 x) d)

plain_inside : (n j k : ℕ) (s : List ℕ) → j + k ≤ n → Plain (take n s) → Plain (take k (drop j s))
plain_inside n zero k s h p =
    let less : k ≤ n = omega arith in
    rw (take-take k n s less) at ((plain_parts k (take n s)).0 p).0
plain_inside zero (suc j) k s h p = absurd (omega arith)
plain_inside (suc n) (suc j) k [] h p = rw take-nil tt
plain_inside (suc n) (suc j) k (b ∷ s) h p = plain_inside n j k s (omega arith) p.1

pub skip_plain : (s : List ℕ) {r : ℕ} → r ≡ plain_front s / 16 * 16 → (r ≤ length s) × Plain (take r s)
skip_plain s {r} e =
    let less : 0 + r ≤ plain_front s = omega arith in
    (omega (arith, front_le s), plain_inside (plain_front s) 0 r s less (front_plain s))

-- ---- two words at a time

front_after : (n : ℕ) (s : List ℕ) → n ≤ length s → Plain (take n s) → plain_front s ≡ n + plain_front (drop n s)
unfolding plain_front
front_after zero s h p = omega arith
front_after (suc n) [] h p = absurd (not-suc-le-zero h)
front_after (suc n) (b ∷ s) h p = rw (lt-ltb b 0x80 p.0) (omega (arith, front_after n s (omega arith) p.1))

plain_load : (w : List ℕ) → Bytes w → 8 ≤ length w → (are_plain (load 8 w) ≡ true) ↔ Plain (take 8 w)
plain_load w b h = rw (← little_load 8 w b h) (plain_word (load 8 w))

-- a pair of words
abbrev pub plain_pair : List ℕ → Bool
plain_pair w = are_plain (load 8 w) && are_plain (load 8 (drop 8 w))

plain_pair_exactly : (w : List ℕ) → Bytes w → length w ≡ 16 → (plain_pair w ≡ true) ↔ Plain w
plain_pair_exactly w b e =
    let own : length (drop 8 w) ≤ 8 = rw length-drop (omega arith) in
    let more : 8 ≤ length (drop 8 w) = rw length-drop (omega arith) in
    let first = plain_load w b (omega arith) in
    let second = rw (take_all 8 (drop 8 w) own) at (plain_load (drop 8 w) (bytes_drop 8 w b) more) in
    let parts = plain_parts 8 w in (
      λ t. parts.1 (first.0 (and_l (are_plain (load 8 w)) _ t), second.0 (and_r (are_plain (load 8 w)) _ t)),
      λ p. rw (first.1 (parts.0 p).0, second.1 (parts.0 p).1),
    )

chunks_front : (k : ℕ) (s : List ℕ) → Bytes s → length s / 16 ≡ k
    → 16 * position_or_len (λ w. not (plain_pair w)) (first_chunks 16 k s) ≡ plain_front s / 16 * 16
chunks_front zero s b e = omega (arith, front_le s)
chunks_front (suc k) s b e =
    let enough : 16 ≤ length s = omega arith in
    let pair = plain_pair_exactly (take 16 s) (bytes_take 16 s b) (length-take-le 16 s enough) in
    let rest : length (drop 16 s) / 16 ≡ k = rw length-drop (omega arith) in
    let Goal : Type 0 = 16 * position_or_len (λ w. not (plain_pair w)) (first_chunks 16 (suc k) s) ≡ plain_front s / 16 * 16 in
    pick_elim (λ (x : ℕ). Goal) (plain_pair (take 16 s)) {x = 0} {y = 0}
    (λ t. rw t (omega (arith, front_after 16 s enough (pair.0 t), chunks_front k (drop 16 s) (bytes_drop 16 s b) rest)))
    (λ t. rw t (split (plain_front s) 16 (λ less. omega arith)
    (λ more. absurd (false≢true (sym t ∙ pair.1 (plain_inside (plain_front s) 0 16 s more (front_plain s)))))))

first_or_all : (i n : ℕ) → i ≤ n → unwrap_or (cond (ltb i n) (Some i) None) n ≡ i
first_or_all i n h = split i n (λ less. rw (lt-ltb i n less)) (λ more. rw (le-ltb i n more) (omega arith))

pub pairs_front : (s : List ℕ) (xs : List (List ℕ)) {n : ℕ} → ((i : ℕ) → Fits w8 (get_or s i 0)) → xs ≡ first_chunks 16 (length s / 16) s
    → n ≡ unwrap_or (position (λ w. not (plain_pair w)) xs) (length xs) → 16 * n ≡ plain_front s / 16 * 16
pairs_front s xs b e f =
    let p : List ℕ → Bool = λ w. not (plain_pair w) in
    rw (f, first_or_all (position_or_len p xs) (length xs) (prefix_len-le-length _ xs), e) (chunks_front (length s / 16) s (bytes_of s b) refl)

-- the first four bytes and the last four, in one word
module _ (s : List ℕ) (a b : ℕ) (l : 4 ≤ length s) (m : length s ≤ 8) (h : a < 2 ^ 32) (front : 4 ≤ length s → little 4 a ≡ take 4 s)
    (back : let p = take (length s - (length s - 4)) (drop (length s - 4) s) in 4 ≤ length p → little 4 b ≡ take 4 p) where
  last_four : little 4 b ≡ drop (length s - 4) s
  last_four =
      let own : length (drop (length s - 4) s) ≤ 4 = rw length-drop (omega arith) in
      (rw (part_from (length s - 4) s) at (back (rw length_part (omega arith)))) ∙ take_all 4 (drop (length s - 4) s) own

  word_short : little 8 (a + 2 ^ 32 * b) ≡ take 4 s ++ drop (length s - 4) s
  word_short = little_append 4 4 a b h ∙ rw (front l, last_four)

  pub plain_short : {r : Bool} → r ≡ are_plain (a + 2 ^ 32 * b) → (r ≡ true) ↔ Plain s
  plain_short {r} e =
      let both = each_append (λ b. b < 0x80) (take 4 s) (drop (length s - 4) s) in
      let test : (r ≡ true) ↔ Plain (take 4 s ++ drop (length s - 4) s) = rw (e, ← word_short) (plain_word (a + 2 ^ 32 * b)) in (
        λ t. let q = both.0 (test.0 t) in (plain_parts 4 s).1 (q.0, plain_later s (length s - 4) 4 (omega arith) q.1),
        λ p. test.1 (both.1 (((plain_parts 4 s).0 p).0, ((plain_parts (length s - 4) s).0 p).1)),
      )
