-- Laws of lists that the library has not.
--
-- In order: an element, within the list and past it; what holds for each, and for each of lists joined; words below a bound, and one more;
-- parts of equal lists; what was stored.
use mathlib.Core.Path.{◌≡◌, refl, sym, ap, subst, ◌∙◌}
use mathlib.Core.Logic.{◌↔◌}
use mathlib.Core.List.{List, [], ◌∷◌, ◌++◌, Memᴰ}
use Prim.Native.Nat.{ℕ, zero, suc, ◌+◌, ◌-◌, ◌≤◌, ◌<◌}
use native.Mathlib.Nat.{not-suc-le-zero}
use native.Mathlib.Omega.{arith}
use lib.ListN.{length, take, drop, get_or, length-append, get_or-append, get_or-eq_default}
use lib.Seq.{sets, sets-eq, take_at, take-take, drop-drop, length-take-le, get_or-append_seam}
use Rattle.prelude.specs.Each.{Each}
use Rattle.prelude.proofs.Tests.{split}

-- a word of a list, whatever is returned past its end
pub get_d_in : (xs : List ℕ) (i d e : ℕ) → i < length xs → get_or xs i d ≡ get_or xs i e
get_d_in [] i d e h = absurd (not-suc-le-zero h)
get_d_in (x ∷ xs) zero d e h = refl
get_d_in (x ∷ xs) (suc i) d e h = get_d_in xs i d e (omega arith)

pub get_d_past : (xs : List ℕ) (i j : ℕ) → i ≡ j → length xs ≤ i → 0 ≡ get_or xs j 0
get_d_past xs i j e h = sym (get_or-eq_default xs 0 {n = j} (omega arith))

pub each_mem : {A : Type 0} (P : A → Type 0) {x : A} (xs : List A) → Each P xs → Memᴰ x xs → P x
each_mem {A = A} P [] e m = elim m [ ]
each_mem P (y ∷ xs) e (Memᴰ.head p) = subst P (sym p) e.0
each_mem P (y ∷ xs) e (Memᴰ.tail m) = each_mem P xs e.1 m

module _ {A : Type 0} (P : A → Type 0) where
  pub each_append : (a b : List A) → Each P (a ++ b) ↔ (Each P a × Each P b)
  each_append [] b = (λ e. (tt, e), λ e. e.1)
  each_append (x ∷ a) b =
      let ih = each_append a b in
      (λ e. let r = ih.0 e.1 in ((e.0, r.0), r.1), λ e. (e.0.0, ih.1 (e.0.1, e.1)))

-- a list below m, with one more word below m
pub below_snoc : (xs : List ℕ) (x m : ℕ) → ((k : ℕ) → k < length xs → get_or xs k 0 < m) → x < m → (k : ℕ)
    → k < length (xs ++ (x ∷ [])) → get_or (xs ++ (x ∷ [])) k 0 < m
below_snoc xs x m h l k b =
    split k (length xs)
    (λ lt. rw (get_or-append xs (x ∷ []) 0 k lt) (h k lt))
    (λ ge. let e : k ≡ length xs = omega (arith, length-append xs (x ∷ [])) in rw (e, get_or-append_seam xs x [] 0) l)

pub take_earlier : (m n : ℕ) (l k : List ℕ) → m ≤ n → take n l ≡ take n k → take m l ≡ take m k
take_earlier m n l k h e = sym (take-take m n l h) ∙ ap (take m) e ∙ take-take m n k h

pub drop_later : (m n : ℕ) (l k : List ℕ) → n ≤ m → drop n l ≡ drop n k → drop m l ≡ drop m k
drop_later m n l k h e =
    let q : m ≡ n + (m - n) = omega arith in
    ap (λ j. drop j l) q ∙ sym (drop-drop (m - n) n l) ∙ ap (drop (m - n)) e ∙ drop-drop (m - n) n k ∙ ap (λ j. drop j k) (sym q)

-- p stored in d from w on, after what is before it
pub take_sets : (d p : List ℕ) (w : ℕ) → w + length p ≤ length d → take (w + length p) (sets d w p) ≡ take w d ++ p
take_sets d p w h =
    rw (sets-eq p d w h) (take_at (take w d ++ p) _ (w + length p) (omega (arith, length-append (take w d) p, length-take-le w d (omega arith))))
