-- Readers that answered: what their parts answered, in continuation style, so that the result is a variable.
--
-- In order: an error is not a value; `guard`, `then`, `or_error`; the `do` form's `>>` and `>>=`, and a test that
-- passed; `measured`: under a guard, and what an answer says about the reader's.
use mathlib.Core.Path.{◌≡◌, refl, sym, ap}
use mathlib.Core.Bool.{Bool, true, false}
use mathlib.Core.List.{List}
use Prim.Native.Nat.{ℕ}
use native.Mathlib.Omega.{arith}
use lib.ListN.{length}
use Rattle.prelude.specs.Answer.{Answer, bind, Res, got, bad, ok, error, guard, then, or_error, measured, Need, ◌>>◌, ◌>>=◌}
use Rattle.prelude.specs.Pick.{pick}

pub bad_got : {E A X : Type 0} {a : A} {s : List ℕ} {e : E} → ◌≡◌ {A = Res E A} (bad e) (got a s) → X
bad_got q = let z : ◌≡◌ {A = ℕ} 0 1 = cc in absurd (omega arith)

module _ {E A X : Type 0} {a : A} {s : List ℕ} where
  pub guard_by : (t : Bool) (e : E) (r : Res E A) → guard t e r ≡ got a s → (t ≡ true → r ≡ got a s → X) → X
  unfolding guard
  guard_by true e r q k = k refl q
  guard_by false e r q k = bad_got q

  pub then_by : {B : Type 0} (r : Res E B) (f : B → List ℕ → Res E A) → then r f ≡ got a s
      → ((b : B) (m : List ℕ) → r ≡ got b m → f b m ≡ got a s → X) → X
  unfolding then
  then_by (got b m) f q k = k b m refl q
  then_by (bad e) f q k = bad_got q

  pub or_error_by : {D : Type 0} (f : D → E) (r : Res D A) → or_error f r ≡ got a s → (r ≡ got a s → X) → X
  unfolding or_error
  or_error_by f (got b m) q k = k (cc)
  or_error_by f (bad e) q k = bad_got q

  pub need_by : (c : Need E) (r : List ℕ → Res E A) (m : List ℕ) → (c >> r) m ≡ got a s → (c.test ≡ true → r m ≡ got a s → X) → X
  unfolding ◌>>◌
  need_by c r m q k = guard_by _ _ _ q k

  pub bind_by : {B : Type 0} (r : List ℕ → Res E B) (f : B → List ℕ → Res E A) (m : List ℕ) → (r >>= f) m ≡ got a s
      → ((b : B) (n : List ℕ) → r m ≡ got b n → f b n ≡ got a s → X) → X
  unfolding ◌>>=◌
  bind_by r f m q k = then_by _ _ q k

-- a test that passed
pub need_ok : {E A : Type 0} {a : A} {s : List ℕ} (c : Need E) (r : List ℕ → Res E A) (m : List ℕ) → c.test ≡ true → r m ≡ got a s → (c >> r) m ≡ got a s
unfolding ◌>>◌ guard
need_ok c r m t q = rw t q

pub measured_guard : {E A : Type 0} (t : Bool) (e : E) (r : Res E A) → measured (guard t e r) ≡ pick t (measured r) (error e)
unfolding guard measured
measured_guard true e r = refl
measured_guard false e r = refl

module _ {E A : Type 0} where
  pub measured_ok : {X : Type 0} {a : A} {left : ℕ} (r : Res E A) → ok (a, left) ≡ measured r
      → ((rest : List ℕ) → r ≡ got a rest → left ≡ length rest → X) → X
  unfolding measured
  measured_ok {X} {a} {left} (got b s) e k =
      let p : ◌≡◌ {A = A × ℕ} (a, left) (b, length s) = cc in
      k s (ap (λ (x : A × ℕ). got x.0 s) (sym p)) (ap (λ (x : A × ℕ). x.1) p)
  measured_ok (bad f) e k = let z : ◌≡◌ {A = ℕ} 0 1 = cc in absurd (omega arith)

-- ---- `bind`, by the answer of a call

module _ {E A B : Type 0} (f : A → Answer E B) where
  pub bind_ok : {a : A} {r : Answer E A} {x : Answer E B} → ok a ≡ r → x ≡ f a → x ≡ bind r f
  unfolding bind
  bind_ok e q = rw (← e) q

  pub bind_error : {e : E} {r : Answer E A} → error e ≡ r → error e ≡ bind r f
  unfolding bind
  bind_error q = rw (← q)

pub bind_ok_by : {E A B X : Type 0} {x : B} (r : Answer E A) (f : A → Answer E B) → ok x ≡ bind r f → ((a : A) → ok a ≡ r → ok x ≡ f a → X) → X
unfolding bind
bind_ok_by (ok a) f e k = k a refl e
bind_ok_by (error g) f e k = let z : ◌≡◌ {A = ℕ} 0 1 = cc in absurd (omega arith)

pub bind_error_by : {E A B X : Type 0} {x : E} (r : Answer E A) (f : A → Answer E B) → error x ≡ bind r f → (error x ≡ r → X)
    → ((a : A) → ok a ≡ r → error x ≡ f a → X) → X
unfolding bind
bind_error_by (ok a) f e k l = l a refl e
bind_error_by (error g) f e k l = k (cc)
