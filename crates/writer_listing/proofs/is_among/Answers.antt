-- `writer_listing::is_among` meets its contract: `contains` looks at each word.
use mathlib.Core.Path.{◌≡◌, refl, sym, ◌∙◌}
use mathlib.Core.Bool.{Bool, true, false}
use mathlib.Core.List.{List, [], ◌∷◌}
use Prim.Native.Nat.{ℕ}
use native.Mathlib.Omega.{arith}
use lib.Dec.{eqb}
use borrow.Author.Tests.{eqb-true, eqb-false, eq-eqb, ne_eqb}
use Rattle.std.specs.Prelude.{nat_eq}
use Rattle.std.specs.List.{list_any}
use Rattle.prelude.specs.Search.{among}
use Rattle.prelude.proofs.Searches.{among_at, among_none}
use Rattle.writer_listing.proofs.is_among.Goals as goal

eqb_sym : (x y : ℕ) → eqb y x ≡ eqb x y
eqb_sym x y = by_cases (eqb x y) refl
  where
    by_cases : (t : Bool) → eqb x y ≡ t → eqb y x ≡ t
    by_cases true e = eq-eqb y x (sym (eqb-true x y e))
    by_cases false e = ne_eqb y x (λ q. eqb-false x y e (sym q))

any_among : (x : ℕ) (xs : List ℕ) → list_any (λ y. nat_eq y x) xs ≡ among x xs
unfolding among
any_among x [] = refl
any_among x (y ∷ ys) = rw (eqb_sym x y, any_among x ys)

pub returns-then-is_empty : goal.returns-then-is_empty
returns-then-is_empty c = let none = eqb-true _ _ (sym c.if-is_empty.ensures) in sym (among_none _ _ (λ k h. absurd (omega arith)))

pub returns-then-t-guess : goal.returns-then-t-guess
returns-then-t-guess c = eq-eqb _ _ c.if-t-guess.true ∙ sym (among_at _ _ _ c.guess.ensures c.if-t-guess.true)

pub returns-else-t-guess : goal.returns-else-t-guess
returns-else-t-guess c = c.contains.ensures.value ∙ any_among _ _
