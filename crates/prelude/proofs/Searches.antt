-- Words in a list: the laws of `rank`, `among` and `Rising`.
--
-- In order: the rank, by the words before it and after it; rising lists; the rank in them; whether a word is among a
-- list: by an index, and by the rank.
use mathlib.Core.Path.{◌≡◌, refl, sym, ap, ◌∙◌}
use mathlib.Core.Bool.{true, false, false≢true, or_comm}
use mathlib.Core.List.{List, [], ◌∷◌, ◌++◌}
use Prim.Native.Nat.{ℕ, zero, suc, ◌+◌, ◌≤◌, ◌<◌}
use native.Mathlib.Nat.{zero-add}
use native.Mathlib.Omega.{arith}
use lib.Dec.{eqb, ltb}
use lib.ListN.{length, get_or, length-append, get_or-append}
use lib.Seq.{get_or-append_seam}
use borrow.Author.Tests.{lt-ltb, le-ltb, eq-eqb, ne_eqb, eqb-true}
use Rattle.prelude.specs.Search.{among, rank, Rising}
use Rattle.prelude.proofs.Tests.{pick_elim, split, or_true}

pub rank_le : (x : ℕ) (xs : List ℕ) → rank x xs ≤ length xs
unfolding rank
rank_le x [] = omega arith
rank_le x (y ∷ ys) = let h = rank_le x ys in pick_elim (λ n. n + rank x ys ≤ suc (length ys)) (ltb y x) (λ _. omega arith) (λ _. omega arith)

-- it is i if the words before i are less than x and the others are not
pub rank_is : (x : ℕ) (xs : List ℕ) (i : ℕ) → i ≤ length xs → ((k : ℕ) → k < i → get_or xs k 0 < x)
    → ((k : ℕ) → i ≤ k → k < length xs → x ≤ get_or xs k 0) → rank x xs ≡ i
unfolding rank
rank_is x [] i h f g = omega arith
rank_is x (y ∷ ys) zero h f g =
    rw (le-ltb y x (g 0 (omega arith) (omega arith)), zero-add)
    (rank_is x ys zero (omega arith) (λ k l. absurd (omega arith)) (λ k l m. g (suc k) (omega arith) (omega arith)))
rank_is x (y ∷ ys) (suc i) h f g =
    let e = rank_is x ys i (omega arith) (λ k l. f (suc k) (omega arith)) (λ k l m. g (suc k) (omega arith) (omega arith)) in
    rw (lt-ltb y x (f 0 (omega arith))) (omega arith)

-- ---- rising lists

rising_tail : (y : ℕ) (ys : List ℕ) → Rising (y ∷ ys) → Rising ys
rising_tail y ys r i j h g = r (suc i) (suc j) (omega arith) (omega arith)

pub rising_nil : Rising []
rising_nil i j h g = absurd (omega arith)

pub rising_snoc : (xs : List ℕ) (x : ℕ) → Rising xs → ((k : ℕ) → k < length xs → get_or xs k 0 < x) → Rising (xs ++ (x ∷ []))
rising_snoc xs x r f i j h g =
    let l = length-append xs (x ∷ []) in
    split j (length xs)
    (λ m. rw (get_or-append xs (x ∷ []) 0 i (omega arith), get_or-append xs (x ∷ []) 0 j m) (r i j h m))
    (λ m. let e : j ≡ length xs = omega arith in
    rw (e, get_or-append_seam xs x [] 0, get_or-append xs (x ∷ []) 0 i (omega arith)) (f i (omega arith)))

pub rising_ge : (xs : List ℕ) → Rising xs → (i : ℕ) → i < length xs → i ≤ get_or xs i 0
rising_ge xs r zero h = omega arith
rising_ge xs r (suc i) h = omega (arith, rising_ge xs r i (omega arith), r i (suc i) (omega arith) h)

-- ---- the rank in a rising list

-- the first is not less than x, so none is
rising_from : (x y : ℕ) (ys : List ℕ) → Rising (y ∷ ys) → x ≤ y → (k : ℕ) → k < length (y ∷ ys) → x ≤ get_or (y ∷ ys) k 0
rising_from x y ys r h zero g = h
rising_from x y ys r h (suc k) g = omega (arith, r 0 (suc k) (omega arith) g)

rank_none : (x y : ℕ) (ys : List ℕ) → Rising (y ∷ ys) → x ≤ y → rank x (y ∷ ys) ≡ 0
rank_none x y ys r h = rank_is x (y ∷ ys) 0 (omega arith) (λ k l. absurd (omega arith)) (λ k l m. rising_from x y ys r h k m)

rank_more : (x y : ℕ) (ys : List ℕ) → y < x → rank x (y ∷ ys) ≡ suc (rank x ys)
unfolding rank
rank_more x y ys h = rw (lt-ltb y x h) (omega arith)

pub rank_below : (x : ℕ) (xs : List ℕ) → Rising xs → (k : ℕ) → k < rank x xs → get_or xs k 0 < x
rank_below x [] r k h = absurd (omega (arith, rank_le x []))
rank_below x (y ∷ ys) r zero h = split y x (λ l. l) (λ l. absurd (omega (arith, rank_none x y ys r l)))
rank_below x (y ∷ ys) r (suc k) h =
    split y x (λ l. rank_below x ys (rising_tail y ys r) k (omega (arith, rank_more x y ys l))) (λ l. absurd (omega (arith, rank_none x y ys r l)))

pub rank_above : (x : ℕ) (xs : List ℕ) → Rising xs → (k : ℕ) → rank x xs ≤ k → k < length xs → x ≤ get_or xs k 0
rank_above x [] r k h g = absurd (omega arith)
rank_above x (y ∷ ys) r zero h g = split y x (λ l. absurd (omega (arith, rank_more x y ys l))) (λ l. l)
rank_above x (y ∷ ys) r (suc k) h g =
    split y x (λ l. rank_above x ys (rising_tail y ys r) k (omega (arith, rank_more x y ys l)) (omega arith))
    (λ l. rising_from x y ys r l (suc k) g)

-- what one word says about the rank
pub rank_after : (x : ℕ) (xs : List ℕ) → Rising xs → (k : ℕ) → k < length xs → get_or xs k 0 < x → k + 1 ≤ rank x xs
rank_after x xs r k h g = split k (rank x xs) (λ l. omega arith) (λ l. omega (arith, rank_above x xs r k l h))

pub rank_until : (x : ℕ) (xs : List ℕ) → Rising xs → (k : ℕ) → x ≤ get_or xs k 0 → rank x xs ≤ k
rank_until x xs r k g = split k (rank x xs) (λ l. omega (arith, rank_below x xs r k l)) (λ l. l)

-- the rank of the word at i
pub rank_at : (x : ℕ) (xs : List ℕ) → Rising xs → (i : ℕ) → i < length xs → get_or xs i 0 ≡ x → rank x xs ≡ i
rank_at x xs r i h e =
    rank_is x xs i (omega arith) (λ k l. omega (arith, r k i l h))
    (λ k l m. split i k (λ l'. omega (arith, r i k l' m)) (λ l'. let q : k ≡ i = omega arith in rw (q, e) (omega arith)))

pub rank_get_d : (xs : List ℕ) → Rising xs → (i : ℕ) → i < length xs → rank (get_or xs i 0) xs ≡ i
rank_get_d xs r i h = rank_at (get_or xs i 0) xs r i h refl

-- ---- whether a word is among a list

pub among_at : (x : ℕ) (xs : List ℕ) (i : ℕ) → i < length xs → get_or xs i 0 ≡ x → among x xs ≡ true
unfolding among
among_at x [] i h e = absurd (omega arith)
among_at x (y ∷ ys) zero h e = rw (eq-eqb x y (sym e))
among_at x (y ∷ ys) (suc i) h e = rw (among_at x ys i (omega arith) e, or_comm (eqb x y) true)

-- its index
pub among_by : (x : ℕ) (xs : List ℕ) → among x xs ≡ true → (i : ℕ) × (i < length xs) × (get_or xs i 0 ≡ x)
unfolding among
among_by x [] e = absurd (false≢true e)
among_by x (y ∷ ys) e =
    or_true (eqb x y) (among x ys) e (λ q. (0, omega arith, sym (eqb-true x y q)))
    (λ q. let s = among_by x ys q in (suc s.0, omega (arith, s.1), s.2))

-- it is nowhere
pub among_none : (x : ℕ) (xs : List ℕ) → ((k : ℕ) → k < length xs → get_or xs k 0 ≡ x → ⊥) → among x xs ≡ false
unfolding among
among_none x [] f = refl
among_none x (y ∷ ys) f =
    rw (ne_eqb x y (λ e. f 0 (omega arith) (sym e))) (among_none x ys (λ k h. f (suc k) (omega arith)))

-- by the word at the rank
pub among_rank : (x : ℕ) (xs : List ℕ) (i : ℕ) → Rising xs → i ≡ rank x xs → i < length xs → eqb (get_or xs i 0) x ≡ among x xs
among_rank x xs i r e h =
    split x (get_or xs i 0)
    (λ l. rw (ne_eqb (get_or xs i 0) x (λ q. omega arith))
    (sym (among_none x xs (λ k m q. omega (arith, ap (λ j. get_or xs j 0) (e ∙ rank_at x xs r k m q))))))
    (λ l. let q : get_or xs i 0 ≡ x = omega (arith, rank_above x xs r i (omega arith) h) in rw (eq-eqb _ _ q) (sym (among_at x xs i h q)))

-- no word is at the rank
pub among_past : (x : ℕ) (xs : List ℕ) (i : ℕ) → Rising xs → i ≡ rank x xs → length xs ≤ i → false ≡ among x xs
among_past x xs i r e h = sym (among_none x xs (λ k l q. omega (arith, rank_below x xs r k (omega arith))))
