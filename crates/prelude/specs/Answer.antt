-- What a call answers, and what a reader of bytes answers.
--
--   Answer E A         a value of A, or an error of E
--   bind a f           f applied to a's value, or a's error
--   Res E A            a value of A with the bytes after it, or an error of E
--   guard t e r        r if the test t passes, else the error e
--   then r f           f applied to r's value and the bytes after it, or r's error
--   or_error f r        r, with f applied to its error
--   measured r         r, with the bytes after the value only counted: what code can report without handing them back
--   r >>= f, c >> r    `then` and `guard` in `do` form
--   Need, need t e     a test that reads nothing, and the error if it fails: a line of `do`
use Rattle.std.specs.Prelude.{ℕ, Bool, true, false, List, length}

pub data Answer (E A : Type 0) : Type 0 where
  ok : A → Answer E A
  error : E → Answer E A

unfoldable pub bind : {E A B : Type 0} → Answer E A → (A → Answer E B) → Answer E B
bind (ok a) f = f a
bind (error e) f = error e

pub data Res (E A : Type 0) : Type 0 where
  got : A → List ℕ → Res E A
  bad : E → Res E A

unfoldable pub guard : {E A : Type 0} → Bool → E → Res E A → Res E A
guard true e r = r
guard false e r = bad e

unfoldable pub then : {E A B : Type 0} → Res E A → (A → List ℕ → Res E B) → Res E B
then (got a s) f = f a s
then (bad e) f = bad e

unfoldable pub or_error : {E F A : Type 0} → (E → F) → Res E A → Res F A
or_error f (got a s) = got a s
or_error f (bad e) = bad (f e)

unfoldable pub measured : {E A : Type 0} → Res E A → Answer E (A × ℕ)
measured (got a s) = ok (a, length s)
measured (bad e) = error e

-- ---- the `do` form

infixl 20 ◌>>=◌
infixl 20 ◌>>◌
unfoldable pub ◌>>=◌ : {E A B : Type 0} → (List ℕ → Res E A) → (A → List ℕ → Res E B) → List ℕ → Res E B
unfolding then
◌>>=◌ r f s = then (r s) f

pub record Need (E : Type 0) : Type 0 where
  pub test : Bool
  pub else : E

abbrev pub need : {E : Type 0} → Bool → E → Need E
need t e = record { test = t; else = e }

unfoldable pub ◌>>◌ : {E A : Type 0} → Need E → (List ℕ → Res E A) → List ℕ → Res E A
unfolding guard
◌>>◌ c r s = guard c.test c.else (r s)
