-- A property of a reader's answer, by the answers of its parts; and what a reader answers if a part fails, or passes.
use mathlib.Core.Path.{◌≡◌, refl}
use mathlib.Core.Bool.{Bool, true, false}
use mathlib.Core.List.{List}
use Prim.Native.Nat.{ℕ}
use Rattle.prelude.specs.Answer.{Res, got, bad, guard, then, Need, ◌>>◌, ◌>>=◌}

module _ {E A : Type 0} (P : Res E A → Type 0) where
  pub guard_elim : (t : Bool) (e : E) (r : Res E A) → (t ≡ false → P (bad e)) → (t ≡ true → P r) → P (guard t e r)
  unfolding guard
  guard_elim true e r f g = g refl
  guard_elim false e r f g = f refl

  pub then_elim : {B : Type 0} (r : Res E B) (f : B → List ℕ → Res E A) → ((e : E) → r ≡ bad e → P (bad e))
      → ((b : B) (m : List ℕ) → r ≡ got b m → P (f b m)) → P (then r f)
  unfolding then
  then_elim (got b m) f k l = l b m refl
  then_elim (bad e) f k l = k e refl

  pub need_elim : (c : Need E) (r : List ℕ → Res E A) (m : List ℕ) → (c.test ≡ false → P (bad c.else)) → (c.test ≡ true → P (r m)) → P ((c >> r) m)
  unfolding ◌>>◌
  need_elim c r m f g = guard_elim c.test c.else (r m) f g

  pub bind_elim : {B : Type 0} (r : List ℕ → Res E B) (f : B → List ℕ → Res E A) (m : List ℕ) → ((e : E) → r m ≡ bad e → P (bad e))
      → ((b : B) (n : List ℕ) → r m ≡ got b n → P (f b n)) → P ((r >>= f) m)
  unfolding ◌>>=◌
  bind_elim r f m k l = then_elim (r m) f k l

module _ {E A : Type 0} where
  pub need_fails : (c : Need E) (r : List ℕ → Res E A) (m : List ℕ) → c.test ≡ false → (c >> r) m ≡ bad c.else
  unfolding ◌>>◌ guard
  need_fails c r m t = rw t

  pub need_on : {x : Res E A} (c : Need E) (r : List ℕ → Res E A) (m : List ℕ) → c.test ≡ true → r m ≡ x → (c >> r) m ≡ x
  unfolding ◌>>◌ guard
  need_on c r m t q = rw t q

  pub bind_fails : {B : Type 0} {e : E} (r : List ℕ → Res E B) (f : B → List ℕ → Res E A) (m : List ℕ) → r m ≡ bad e → (r >>= f) m ≡ bad e
  unfolding ◌>>=◌ then
  bind_fails r f m q = rw q

  pub bind_on : {B : Type 0} {b : B} {n : List ℕ} {x : Res E A} (r : List ℕ → Res E B) (f : B → List ℕ → Res E A) (m : List ℕ) → r m ≡ got b n → f b n ≡ x
      → (r >>= f) m ≡ x
  unfolding ◌>>=◌ then
  bind_on r f m q k = rw q k
