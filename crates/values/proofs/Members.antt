-- Members of lists: `Each` and `among`.
--
-- In order: `Each` by a test that all pass, and of what follows from it; what holds for each holds for one that is among them;
-- what is among a list is among a longer one; the index of what is among the first of a rising list.
use mathlib.Core.Path.{◌≡◌, sym, ◌∙◌}
use mathlib.Core.Bool.{Bool, true, false≢true, or_comm}
use mathlib.Core.List.{List, [], ◌∷◌, ◌++◌}
use Prim.Native.Nat.{ℕ, ◌<◌}
use native.Mathlib.Omega.{arith}
use lib.Dec.{eqb}
use lib.ListN.{get_or, take, length-take}
use lib.Seq.{get_or-take}
use borrow.Author.Tests.{eqb-true}
use Rattle.prelude.specs.Search.{among, rank, Rising}
use Rattle.prelude.specs.Each.{Each}
use Rattle.prelude.proofs.Tests.{and_l, and_r, or_true}
use Rattle.prelude.proofs.Tables.{every}
use Rattle.prelude.proofs.Searches.{rank_at, among_by}

pub each_all : {A : Type 0} (P : A → Type 0) → ((x : A) → P x) → (xs : List A) → Each P xs
each_all P f [] = tt
each_all P f (x ∷ xs) = (f x, each_all P f xs)

module _ {A : Type 0} where
  pub each_every : (p : A → Bool) (xs : List A) → every p xs ≡ true → Each (λ x. p x ≡ true) xs
  each_every p [] e = tt
  each_every p (x ∷ xs) e = (and_l (p x) _ e, each_every p xs (and_r (p x) _ e))

  pub each_imp : (P Q : A → Type 0) → ((x : A) → P x → Q x) → (xs : List A) → Each P xs → Each Q xs
  each_imp P Q f [] e = tt
  each_imp P Q f (x ∷ xs) e = (f x e.0, each_imp P Q f xs e.1)

pub each_among : (P : ℕ → Type 0) (x : ℕ) (xs : List ℕ) → Each P xs → among x xs ≡ true → P x
unfolding among
each_among P x [] e h = absurd (false≢true h)
each_among P x (y ∷ xs) e h =
    or_true (eqb x y) (among x xs) h (λ q. rw (eqb-true x y q) e.0) (λ q. each_among P x xs e.1 q)

pub among_more : (x : ℕ) (a b : List ℕ) → among x a ≡ true → among x (a ++ b) ≡ true
unfolding among
among_more x [] b h = absurd (false≢true h)
among_more x (y ∷ a) b h = or_true (eqb x y) (among x a) h (λ q. rw q) (λ q. rw (among_more x a b q, or_comm (eqb x y) true))

-- its index is its rank, and below i
pub among_take : (x : ℕ) (xs : List ℕ) (i : ℕ) → Rising xs → among x (take i xs) ≡ true → (rank x xs < i) × (get_or xs (rank x xs) 0 ≡ x)
among_take x xs i r h =
    let (k, k<, e) = among_by x (take i xs) h in
    let l = length-take i xs in
    let at : get_or xs k 0 ≡ x = sym (get_or-take i xs k 0 (omega arith)) ∙ e in
    rw (rank_at x xs r k (omega arith) at) (omega arith, at)
