-- Two answers that are the same unless the first is an exception: how the parts of a definition keep that.
--
-- In order: a function of the answer, a choice; readers: `guard`, `then`, and the `do` form's `>>` and `>>=`; with OVERLONG as the exception: `bind`, an
-- answer that was accepted (`agree_ok`), a turn.
use mathlib.Core.Path.{◌≡◌, refl, ap, ◌∙◌}
use mathlib.Core.Logic.{◌⊎◌, inl, inr}
use mathlib.Core.Bool.{Bool, true, false}
use mathlib.Core.List.{List}
use Prim.Native.Nat.{ℕ}
use native.Mathlib.Omega.{arith}
use Rattle.prelude.specs.Pick.{pick}
use Rattle.prelude.specs.Answer.{Answer, ok, error, bind, Res, got, bad, guard, then, Need, ◌>>◌, ◌>>=◌}
use Rattle.prelude.specs.Loop.{Turn, stop}
use Rattle.prelude.proofs.Turns.{Stops}
use Rattle.error.specs.Error.{Fault}
use Rattle.guarantees_modes.specs.Modes.{IsOverlong}

-- x is an exception, or is y
abbrev pub Or : {X : Type 0} → (X → Type 0) → X → X → Type 0
Or P x y = P x ⊎ (x ≡ y)

module _ {X : Type 0} (P : X → Type 0) where
  pub or_map : {Y : Type 0} (Q : Y → Type 0) (f : X → Y) {x y : X} → (P x → Q (f x)) → Or P x y → Or Q (f x) (f y)
  or_map Q f kept (inl p) = inl (kept p)
  or_map Q f kept (inr e) = inr (ap f e)

  pub or_pick : (t : Bool) {x y u v : X} → Or P x u → Or P y v → Or P (pick t x y) (pick t u v)
  or_pick true a b = a
  or_pick false a b = b

-- ---- readers

-- r is refused with e
abbrev pub IsBad : {E A : Type 0} → E → Res E A → Type 0
IsBad e r = r ≡ bad e

module _ {E A : Type 0} {e : E} where
  pub or_guard : (t : Bool) (d : E) {r q : Res E A} → Or (IsBad e) r q → Or (IsBad e) (guard t d r) (guard t d q)
  unfolding guard
  or_guard true d o = o
  or_guard false d o = inr refl

  pub or_then : {B : Type 0} {r q : Res E B} {f g : B → List ℕ → Res E A} → Or (IsBad e) r q
      → ((b : B) (s : List ℕ) → Or (IsBad e) (f b s) (g b s)) → Or (IsBad e) (then r f) (then q g)
  unfolding then
  or_then (inl x) h = inl (rw x)
  or_then {B} {r} {q} {f} {g} (inr x) h = rw x (by_cases q)
    where
      by_cases : (q : Res E B) → Or (IsBad e) (then q f) (then q g)
      by_cases (got b s) = h b s
      by_cases (bad d) = inr refl

  pub or_need : (c : Need E) (r q : List ℕ → Res E A) (s : List ℕ) → Or (IsBad e) (r s) (q s) → Or (IsBad e) ((c >> r) s) ((c >> q) s)
  unfolding ◌>>◌
  or_need c r q s o = or_guard c.test c.else o

  pub or_bind : {B : Type 0} (r q : List ℕ → Res E B) (f g : B → List ℕ → Res E A) (s : List ℕ) → Or (IsBad e) (r s) (q s)
      → ((b : B) (m : List ℕ) → Or (IsBad e) (f b m) (g b m)) → Or (IsBad e) ((r >>= f) s) ((q >>= g) s)
  unfolding ◌>>=◌
  or_bind r q f g s o h = or_then o h

-- ---- OVERLONG

-- x is OVERLONG, or is y
abbrev pub Same : {A : Type 0} → Answer Fault A → Answer Fault A → Type 0
Same x y = Or IsOverlong x y

pub same_bind : {A B : Type 0} {r q : Answer Fault A} {f g : A → Answer Fault B} → Same r q → ((a : A) → Same (f a) (g a)) → Same (bind r f) (bind q g)
unfolding bind
same_bind (inl (p, e)) h = inl (p, rw e)
same_bind {A} {B} {r} {q} {f} {g} (inr e) h = rw e (by_cases q)
  where
    by_cases : (q : Answer Fault A) → Same (bind q f) (bind q g)
    by_cases (ok a) = h a
    by_cases (error d) = inr refl

-- an answer is not an error
pub ok_error : {X A : Type 0} {a : A} {f : Fault} → ◌≡◌ {A = Answer Fault A} (ok a) (error f) → X
ok_error e = let z : ◌≡◌ {A = ℕ} 0 1 = cc in absurd (omega arith)

-- .. so what was accepted is not the exception
pub agree_ok : {A R : Type 0} {a : Answer Fault A} {b : A} {x y : R} → IsOverlong a ⊎ (x ≡ y) → ok b ≡ a → x ≡ y
agree_ok (inl (p, e)) q = ok_error (q ∙ e)
agree_ok (inr e) q = e

-- a turn that stops with the error of an answer
pub same_turned : {S A B : Type 0} (f : Answer Fault B → Turn S (Answer Fault A)) → ((e : Fault) → f (error e) ≡ stop (error e)) → {x y : Answer Fault B}
    → Same x y → Or (Stops IsOverlong) (f x) (f y)
same_turned {S} {A} {B} f stops {x} o = or_map IsOverlong (Stops IsOverlong) f (by_cases x) o
  where
    by_cases : (x : Answer Fault B) → IsOverlong x → Stops IsOverlong (f x)
    by_cases (ok b) (p, e) = ok_error e
    by_cases (error d) (p, e) = (error d, stops d, (p, cc))
