-- Laws of lookup: bytes compared with each other, which decides equality (`same_is`); pairs one after the other.
use Rattle.std.proofs.Common.{◌≡◌, ◌↔◌, ℕ, suc, ◌+◌, ◌-◌, ◌≤◌, ◌<◌, Bool, true, false, ◌&&◌, List, [], ◌∷◌, refl, ap, eqb, arith}
use lib.Pointwise.{pointwise, bytes_decides}
use Rattle.prelude.specs.Pick.{pick}
use Rattle.prelude.specs.Loop.{Turn, go, stop, follow}
use Rattle.prelude.specs.Answer.{Answer, ok, error, bind}
use Rattle.error.specs.Error.{Fault, fault, NO_ITEM}
use Rattle.leb128.specs.declared.Mode.{Mode}
use Rattle.reader_lookup.specs.Lookup.{same, pairs}
use Rattle.reader_lookup.specs.Internal.{or_stop, pair_at}

-- ---- bytes compared

-- as `==` compares slices
pub same_slices : (a b : List ℕ) → pointwise eqb a b ≡ same a b
unfolding same
same_slices [] [] = refl
same_slices [] (y ∷ b) = refl
same_slices (x ∷ a) [] = refl
same_slices (x ∷ a) (y ∷ b) = ap (λ t. eqb x y && t) (same_slices a b)

pub same_is : (a b : List ℕ) → (same a b ≡ true) ↔ (a ≡ b)
same_is a b = rw (← same_slices a b) (bytes_decides a b)

-- ---- pairs

follow_or_stop : {A S R : Type 0} (a : Answer Fault A) (f : A → Turn S (Answer Fault R)) (g : S → Answer Fault R)
    → follow (or_stop a f) g ≡ bind a (λ x. follow (f x) g)
unfolding or_stop bind
follow_or_stop (ok a) f g = refl
follow_or_stop (error e) f g = refl

follow_pick : {S R : Type 0} (t : Bool) (x y : Turn S R) (g : S → R) → follow (pick t x y) g ≡ pick t (follow x g) (follow y g)
follow_pick true x y g = refl
follow_pick false x y g = refl

module _ (mode : Mode) (s : List ℕ) (at : ℕ) (key : List ℕ) where
  pairs_turn : (k q : ℕ) → pairs mode s at key (suc k) q ≡ follow (pair_at mode s key q) (pairs mode s at key k)
  unfolding pairs
  pairs_turn k q = simp (follow_or_stop, follow_pick)

  module _ (count i q : ℕ) where
    pub pairs_none : count ≤ i → pairs mode s at key (count - i) q ≡ error (fault NO_ITEM at)
    unfolding pairs
    pairs_none h = let none : count - i ≡ 0 = omega arith in rw none

    pub pairs_next : (next : ℕ) → i < count → go next ≡ pair_at mode s key q → pairs mode s at key (count - i) q ≡ pairs mode s at key (count - (i + 1)) next
    pairs_next next lt e = let one : count - i ≡ suc (count - (i + 1)) = omega arith in rw (one, pairs_turn (count - (i + 1)) q, ← e)

    pub pairs_stop : (a : Answer Fault ℕ) → i < count → stop a ≡ pair_at mode s key q → pairs mode s at key (count - i) q ≡ a
    pairs_stop a lt e = let one : count - i ≡ suc (count - (i + 1)) = omega arith in rw (one, pairs_turn (count - (i + 1)) q, ← e)

-- for a loop over pairs
pub ruleset pair_by_pair = (pairs_none, pairs_next, pairs_stop)
