-- The marks of a table, counted and numbered.
--
-- In order: marks counted; digits stored, and the number that four of them make; the marks numbered, four words at a time; the number of a word.
use mathlib.Core.Path.{◌≡◌, refl, sym, ap, ◌∙◌}
use mathlib.Core.Bool.{Bool, true, false}
use mathlib.Core.List.{List, [], ◌∷◌, ◌++◌, map, append_assoc}
use Prim.Native.Nat.{ℕ, zero, suc, ◌+◌, ◌-◌, ◌*◌, ◌/◌, ◌%◌, ◌^◌, ◌≤◌, ◌<◌}
use native.Mathlib.Nat.{add-zero, add-suc, suc-add}
use native.Mathlib.Numerals.{add-one}
use native.Mathlib.Omega.{arith}
use borrow.Author.Tests.{eq-eqb, ne_eqb}
use lib.Dec.{eqb, leb}
use lib.ListN.{length, take, drop, get_or, set, length-map, length-take, get_or-map}
use Rattle.std.specs.Prelude.{cond}
use Rattle.std.specs.List.{count_by}
use Rattle.std.proofs.lemmas.List.{take-map}
use Rattle.std.proofs.lemmas.List.Recursion.{is_count_by}
use Rattle.std.proofs.lemmas.List.Sums.{sum_by-append, count_by-le-length}
use lib.Seq.{map-set_same, take-suc, take-add, length-take-le, get_or-drop, drop_at, get_or-set_other, sets, sets-eq}
use Rattle.prelude.specs.Pick.{pick}
use Rattle.prelude.proofs.Tests.{split}
use Rattle.prune_marks.specs.Marks.{starts_in, is_marked, marks_in, kept, digit, four, NumberedTo, Numbers}
use Rattle.prune_marks.specs.Internal.{digits_of, Digits}
use Rattle.prune_marks.proofs.Words.{map_set, mark_at, same_starts}

-- ---- marks counted

kept_snoc : (ms : List Bool) (m : Bool) → kept (ms ++ (m ∷ [])) ≡ kept ms + pick m 1 0
unfolding kept
kept_snoc [] m = omega arith
kept_snoc (x ∷ ms) m = omega (arith, kept_snoc ms m)

mark_bit : (w : ℕ) → pick (is_marked w) 1 0 ≡ w % 2
mark_bit w =
    split (w % 2) 1 (λ l. rw (ne_eqb (w % 2) 1 (λ e. omega arith)) (omega arith)) (λ l. rw (eq-eqb (w % 2) 1 (omega arith)) (omega arith))

pub kept_none : (ms : List Bool) → kept (take 0 ms) ≡ 0
unfolding kept
kept_none ms = refl

pub kept_on : (t : List ℕ) (i : ℕ) → i < length t → kept (take (i + 1) (marks_in t)) ≡ kept (take i (marks_in t)) + get_or t i 0 % 2
kept_on t i h =
    rw (add-one i, take-suc (marks_in t) i false (rw (length-map t is_marked) h), mark_at t i)
    (kept_snoc (take i (marks_in t)) (is_marked (get_or t i 0)) ∙ ap (λ n. kept (take i (marks_in t)) + n) (mark_bit (get_or t i 0)))

kept_by : (b : Bool) (n : ℕ) → pick b 1 0 + n ≡ cond b (1 + n) n
kept_by true n = refl
kept_by false n = omega arith

kept_is : (t : List ℕ) → kept (marks_in t) ≡ count_by is_marked t
unfolding kept
kept_is t = is_count_by (λ u. kept (marks_in u)) is_marked refl (λ w u. kept_by (is_marked w) (kept (marks_in u))) t

pub kept_first : (t : List ℕ) (i n : ℕ) → n ≡ count_by is_marked (take i t) → n ≡ kept (take i (marks_in t))
kept_first t i n e = e ∙ rw take-map (sym (kept_is (take i t)))

-- n of the words from number i on, before number j, are marked
module _ (t : List ℕ) (i j n : ℕ) (between : i ≤ j) (e : n ≡ count_by is_marked (take (j - i) (drop i t))) where
  pub kept_to : kept (take i (marks_in t)) + n ≡ kept (take j (marks_in t))
  kept_to =
      let all : i + (j - i) ≡ j = omega arith in
      let words : take j t ≡ take i t ++ take (j - i) (drop i t) = rw all at (take-add i (j - i) t) in
      rw (take-map is_marked i t, take-map is_marked j t, kept_is (take i t), kept_is (take j t), words, e)
      (sym (sum_by-append (λ w. cond (is_marked w) 1 0) (take i t) (take (j - i) (drop i t))))

  pub count_le : n ≤ j - i
  count_le = rw e (omega (arith, count_by-le-length is_marked (take (j - i) (drop i t)), length-take {A = ℕ}))

-- ---- digits stored

digit_at : (t : List ℕ) (i : ℕ) → get_or (map digit t) i 0 ≡ digit (get_or t i 0)
digit_at t i = get_or-map digit t i 0

digit_of : (w d : ℕ) → d < 128 → digit (w / 256 * 256 + 2 * d + w % 2) ≡ d
digit_of w d h = omega arith

pub digits_one : (t : List ℕ) (i d : ℕ) → d < 128 → Digits t (set t i (get_or t i 0 / 256 * 256 + 2 * d + get_or t i 0 % 2)) i (d ∷ [])
digits_one t i d h =
    let w = get_or t i 0 in
    let x = w / 256 * 256 + 2 * d + w % 2 in
    let mark : x % 2 ≡ w % 2 = omega arith in
    record {
      starts = same_starts t i x (omega arith);
      marks = map-set_same is_marked t i x 0 (ap (λ n. eqb n 1) mark);
      digits = map_set digit t i x ∙ ap (set (map digit t) i) (digit_of w d h);
    }

sets_snoc : (ds l : List ℕ) (i d : ℕ) → sets l i (ds ++ (d ∷ [])) ≡ set (sets l i ds) (i + length ds) d
sets_snoc [] l i d = rw add-zero
sets_snoc (a ∷ ds) l i d = sets_snoc ds (set l i a) (suc i) d ∙ simp (add-suc, suc-add)

sets_before : (ds l : List ℕ) (i j : ℕ) → j < i → get_or (sets l i ds) j 0 ≡ get_or l j 0
sets_before [] l i j h = refl
sets_before (a ∷ ds) l i j h = sets_before ds (set l i a) (suc i) j (omega arith) ∙ get_or-set_other l i j a 0 (λ e. omega arith)

pub digits_on : (t u v : List ℕ) (i : ℕ) (ds : List ℕ) (d : ℕ) → Digits t u i ds → Digits u v (i + length ds) (d ∷ [])
    → Digits t v i (ds ++ (d ∷ []))
digits_on t u v i ds d a b = record {
  starts = b.starts ∙ a.starts;
  marks = b.marks ∙ a.marks;
  digits = b.digits ∙ rw a.digits (sym (sets_snoc ds (map digit t) i d));
}

module _ (t u : List ℕ) (i : ℕ) (ds : List ℕ) (s : Digits t u i ds) where
  digit_in : (j : ℕ) → i + length ds ≤ length t → digit (get_or u (i + j) 0) ≡ get_or (ds ++ drop (i + length ds) (map digit t)) j 0
  digit_in j h =
      let n = length-map t digit in
      let words = s.digits ∙ sets-eq ds (map digit t) i (omega arith) ∙ append_assoc (take i (map digit t)) ds _ in
      let rest = ap (drop i) words ∙ drop_at (take i (map digit t)) _ i (length-take-le i (map digit t) (omega arith)) in
      sym (digit_at u (i + j)) ∙ sym (get_or-drop i (map digit u) j 0) ∙ ap (λ l. get_or l j 0) rest

  digit_before : (j : ℕ) → j < i → digit (get_or u j 0) ≡ digit (get_or t j 0)
  digit_before j h = sym (digit_at u j) ∙ rw s.digits (sets_before ds (map digit t) i j h) ∙ digit_at t j

  four_before : (j : ℕ) → j + 4 ≤ i → four u j ≡ four t j
  unfolding four
  four_before j h =
      rw (digit_before j (omega arith), digit_before (j + 1) (omega arith), digit_before (j + 2) (omega arith), digit_before (j + 3) (omega arith))

four_in : (t u : List ℕ) (i k : ℕ) → Digits t u i (digits_of k) → i + 4 ≤ length t → k < 2 ^ 28 → four u i ≡ k
unfolding four
four_in t u i k s h l =
    let is = digit_in t u i (digits_of k) s in
    omega (arith, ap (λ n. digit (get_or u n 0)) (add-zero i), is 0 h, is 1 h, is 2 h, is 3 h)

-- ---- the marks numbered

-- u is t with the first g fours numbered; k of their words are marked
pub record Going (t u : List ℕ) (g k : ℕ) : Type 0 where
  pub starts : starts_in u ≡ starts_in t
  pub marks : marks_in u ≡ marks_in t
  pub few : k ≤ 4 * g
  pub counted : kept (take (4 * g) (marks_in u)) ≡ k
  pub numbered : NumberedTo (4 * g) u

pub going_start : (t : List ℕ) → Going t t 0 0
going_start t = record { starts = refl; marks = refl; few = omega arith; counted = kept_none (marks_in t); numbered = λ g h. absurd (omega arith) }

pub going_on : (t u v : List ℕ) (g k n : ℕ) → Going t u g k → 4 * g + 4 ≤ length u → length u < 2 ^ 28
    → kept (take (4 * g) (marks_in u)) + n ≡ kept (take (4 * g + 4) (marks_in u)) → n ≤ 4 → Digits u v (4 * g) (digits_of (k + n))
    → Going t v (g + 1) (k + n)
going_on t u v g k n w more short e few s =
    let all : 4 * (g + 1) ≡ 4 * g + 4 = omega arith in
    let counts : k + n ≡ kept (take (4 * g + 4) (marks_in u)) = omega (arith, w.counted) in
    record {
      starts = s.starts ∙ w.starts;
      marks = s.marks ∙ w.marks;
      few = omega (arith, w.few);
      counted = rw (all, s.marks) (sym counts);
      numbered = λ j h. rw s.marks (split j g
          (λ l. four_before u v (4 * g) _ s (4 * j) (omega arith) ∙ w.numbered j (omega arith))
          (λ l. let is : j ≡ g = omega arith in rw is (four_in u v (4 * g) (k + n) s more (omega (arith, w.few)) ∙ counts)));
    }

pub going_length : (t u : List ℕ) (g k : ℕ) → Going t u g k → length u ≡ length t
going_length t u g k w = omega (arith, length-map u is_marked, ap length w.marks, length-map t is_marked)

pub going_end : (t u : List ℕ) (g k : ℕ) → Going t u g k → length t / 4 ≤ g → Numbers t u
going_end t u g k w h = record { starts = w.starts; marks = w.marks; numbered = λ j l. w.numbered j (omega (arith, going_length t u g k w)) }

-- n is the number kept by the four words before number 4 * g, and r counts the marks from there to number i
pub place_is : (t : List ℕ) (g n r i : ℕ) → NumberedTo (length t) t → n ≡ four t (4 * (g - 1)) → 1 ≤ g → 4 * g ≤ length t
    → kept (take (4 * g) (marks_in t)) + r ≡ kept (take i (marks_in t)) → n + r ≡ kept (take i (marks_in t))
place_is t g n r i numbered is some inside e =
    let all : 4 * (g - 1) + 4 ≡ 4 * g = omega arith in
    omega (arith, numbered (g - 1) (omega arith), ap (λ m. kept (take m (marks_in t))) all)

-- the marks of four words, without the first r
module _ (t : List ℕ) (i : ℕ) (inside : i + 4 ≤ length t) where
  abbrev up_to : ℕ → ℕ
  up_to n = kept (take n (marks_in t))

  -- one word more
  on : (k : ℕ) → k < 4 → up_to (i + suc k) ≡ up_to (i + k) + get_or t (i + k) 0 % 2
  on k h = let n : i + suc k ≡ i + k + 1 = omega arith in rw n (kept_on t (i + k) (omega arith))

  first : up_to (i + 1) ≡ up_to i + get_or t i 0 % 2
  first = kept_on t i (omega arith)

  pub four_marks : (r a b c d : ℕ) → r < 4 → a ≡ get_or t i 0 % 2 * pick (leb r 0) 1 0 → b ≡ get_or t (i + 1) 0 % 2 * pick (leb r 1) 1 0
      → c ≡ get_or t (i + 2) 0 % 2 * pick (leb r 2) 1 0 → d ≡ get_or t (i + 3) 0 % 2 * pick (leb r 3) 1 0 → up_to (i + r) + (a + b + c + d) ≡ up_to (i + 4)
  four_marks zero a b c d h ea eb ec ed = rw add-zero (omega (arith, first, on 1 (omega arith), on 2 (omega arith), on 3 (omega arith)))
  four_marks (suc zero) a b c d h ea eb ec ed = omega (arith, on 1 (omega arith), on 2 (omega arith), on 3 (omega arith))
  four_marks (suc (suc zero)) a b c d h ea eb ec ed = omega (arith, on 2 (omega arith), on 3 (omega arith))
  four_marks (suc (suc (suc zero))) a b c d h ea eb ec ed = omega (arith, on 3 (omega arith))
  four_marks (suc (suc (suc (suc r)))) a b c d h ea eb ec ed = absurd (omega arith)

  -- what four words keep is no less than their marks from number i + r on
  pub place_fits : NumberedTo (length t) t → (g r n x : ℕ) → i ≡ 4 * g → n ≡ four t i → up_to (i + r) + x ≡ up_to (i + 4) → x ≤ n
  place_fits numbered g r n x at_g is e = let all : n ≡ up_to (i + 4) = is ∙ rw at_g (numbered g (omega arith)) in omega arith

  -- what four words keep, less their marks from number i + r on
  pub place_in : NumberedTo (length t) t → (g r n x j : ℕ) → i ≡ 4 * g → r < 4 → j ≡ i + r → n ≡ four t i → up_to (i + r) + x ≡ up_to (i + 4)
      → (x ≤ n) × (n - x ≡ up_to j)
  place_in numbered g r n x j at_g small is e f =
      let all : n ≡ up_to (i + 4) = e ∙ rw at_g (numbered g (omega arith)) in
      (omega arith, rw is (omega arith))
