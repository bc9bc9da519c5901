-- Tests as equations, both ways, and `pick`.
--
-- In order: a property of both arms of a `pick`, and equal arms; one order or the other, inside a term; tests joined by
-- `&&` and `||`; tests known by a flag; the rulesets. The tests themselves (`lt-ltb`, `ltb-true`, ..) are those of
-- `borrow.Author.Tests`.
use mathlib.Core.Path.{◌≡◌, refl, sym, ◌∙◌}
use mathlib.Core.Bool.{Bool, true, false, not, ◌&&◌, ◌||◌, true≢false, false≢true}
use Prim.Native.Nat.{ℕ, ◌≤◌, ◌<◌}
use native.Mathlib.Decide.{dec_le}
use native.Mathlib.Nat.{lt_of_not-le}
use native.Mathlib.Omega.{arith}
use lib.Dec.{leb}
use borrow.Author.Rules.{rules}
use borrow.Author.Tests.{ltb-true, ltb-false, leb-true, leb-false, eqb-true, not-false, lt-ltb, le-ltb, le-leb, lt-leb, eq-eqb, ne_eqb}
use Rattle.prelude.specs.Pick.{pick}

pub pick_elim : {A : Type 0} (P : A → Type 0) (t : Bool) {x y : A} → (t ≡ true → P x) → (t ≡ false → P y) → P (pick t x y)
pick_elim P true f g = f refl
pick_elim P false f g = g refl

pub pick_cong : {A : Type 0} (t : Bool) {x y x' y' : A} → (t ≡ true → x ≡ x') → (t ≡ false → y ≡ y') → pick t x y ≡ pick t x' y'
pick_cong true f g = f refl
pick_cong false f g = g refl

-- case analysis inside a term, so that a branch may have a recursive call
pub split : {X : Type 0} (a b : ℕ) → (a < b → X) → (b ≤ a → X) → X
split a b f g = elim (dec_le b a) [ yes h ↦ g h | no h ↦ f (lt_of_not-le h) ]

pub and_l : (a b : Bool) → a && b ≡ true → a ≡ true
and_l true b e = refl
and_l false b e = e

pub and_r : (a b : Bool) → a && b ≡ true → b ≡ true
and_r true b e = e
and_r false b e = absurd (false≢true e)

-- tests joined by `||` of which one passed
pub or_true : {X : Type 0} (a b : Bool) → a || b ≡ true → (a ≡ true → X) → (b ≡ true → X) → X
or_true true b e f g = f refl
or_true false b e f g = g e

-- tests joined by `||` of which none passed
pub or_false : {X : Type 0} (a b : Bool) → a || b ≡ false → (a ≡ false → b ≡ false → X) → X
or_false true b e k = absurd (true≢false e)
or_false false b e k = k refl e

pub and_none : (b : Bool) → b && false ≡ false
and_none true = refl
and_none false = refl

-- a test known by a flag
pub le_of_flag : (a b : ℕ) {t : Bool} → t ≡ leb a b → t ≡ true → a ≤ b
le_of_flag a b e h = leb-true a b (sym e ∙ h)

-- a test joined by `&&` that failed although its first part passed
pub and_false : {X : Type 0} (a b : Bool) → a && b ≡ false → (a ≡ false → X) → (b ≡ false → X) → X
and_false true b e f g = g e
and_false false b e f g = f refl

-- a test `a && not b` that fails: b follows from a
pub unless : (a b : Bool) → (a ≡ true → b ≡ true) → a && not b ≡ false
unless true b f = rw (f refl)
unless false b f = refl

pub unless_by : (a b : Bool) → a && not b ≡ false → a ≡ true → b ≡ true
unless_by true b e h = not-false b e
unless_by false b e h = absurd (false≢true h)

-- a test beside one that implies it
pub and_implied : (a b : Bool) → (b ≡ true → a ≡ true) → a && b ≡ b
and_implied true b h = refl
and_implied false true h = h refl
and_implied false false h = refl

-- for `rw` and `simp`: a test's value from the fact
pub ruleset tests = (lt-ltb, le-ltb, le-leb, lt-leb, eq-eqb, ne_eqb)

-- for `omega`: arithmetic that reads tests
pub ruleset facts = (arith, ltb-true, ltb-false, leb-true, leb-false, eqb-true)

-- for `search`: what `rules` closes, and a return after plain tests if the contract picks by them
pub ruleset ladder = (rules, lt-ltb, le-ltb, le-leb, lt-leb, eq-eqb, ne_eqb)
