-- The steps of `get`, as the code takes them: by the first byte and those after it, with the bytes left counted.
--
-- In order: a last byte; the first byte of the rest, or none; each way through `get_from` and `get`; what is read has room for
-- the bits below it.
use mathlib.Core.Path.{◌≡◌, refl}
use mathlib.Core.List.{List, [], ◌∷◌}
use Prim.Native.Nat.{ℕ, zero, suc, ◌*◌, ◌+◌, ◌%◌, ◌^◌, ◌<◌, ◌≤◌}
use native.Mathlib.Nat.{pow-le-pow_right}
use native.Mathlib.Omega.{arith}
use lib.Dec.{lit<}
use lib.ListN.{length}
use borrow.Author.Tests.{lt-ltb, le-ltb, le-leb}
use Rattle.std.specs.Prelude.{Option, Some, None, Result, Err, MatchOption, ok_or}
use Rattle.std.specs.List.{IsFirstAndRest}
use Rattle.std.proofs.Common.{Bor}
use Rattle.prelude.specs.Answer.{Answer, Res, got, bad, then, ok, error, measured}
use Rattle.prelude.proofs.Readers.{measured_guard, measured_ok}
use Rattle.error.specs.Error.{TRUNC, number_of}
use Rattle.error.specs.declared.ErrorKind.{ErrorKind}
use Rattle.error.specs.declared.ErrorKind.TheVariants.{Trunc}
use Rattle.leb128.specs.Leb.{least_of, get}
use Rattle.leb128.specs.Internal.{last, tenth}
use Rattle.leb128.specs.declared.Mode.{Mode}
use Rattle.leb128.proofs.Laws.{least_one, get_ends}

-- a last byte: 0, and any other
pub last_zero : (mode : Mode) (b left : ℕ) {a : Answer ℕ (ℕ × ℕ)} → b < 1 → a ≡ last (least_of mode) 0 left → a ≡ last (least_of mode) b left
last_zero mode b left h e = let zero : b ≡ 0 = omega arith in rw zero e

pub last_more : (mode : Mode) (b left : ℕ) → 1 ≤ b → ok (b, left) ≡ last (least_of mode) b left
unfolding last
last_more mode b left h = let least : least_of mode ≤ b = omega (arith, least_one mode) in rw le-leb

-- the first byte has no least
pub last_first : (b left : ℕ) → ok (b, left) ≡ last 0 b left
unfolding last
last_first b left = rw (le-leb 0 b (omega arith))

-- the answer a with its number times u, plus d
abbrev raised : ℕ → ℕ → Answer ℕ (ℕ × ℕ) → Answer ℕ (ℕ × ℕ)
raised d u (ok a) = ok (d + u * a.0, a.1)
raised d u (error e) = error e

raised_then : (d : ℕ) (r : Res ℕ ℕ) → raised d 128 (measured r) ≡ measured (then r (λ n rest. got (d + 128 * n) rest))
unfolding then measured
raised_then d (got n s) = refl
raised_then d (bad e) = refl

get_nil : (mode : Mode) (k least : ℕ) (s : List ℕ) → length s ≡ 0 → error TRUNC ≡ measured (get mode k least s)
unfolding get measured
get_nil mode zero least [] e = refl
get_nil mode (suc k) least [] e = refl
get_nil mode k least (b ∷ s) e = absurd (omega arith)

-- what `split_first` says, in either case
module _ (s : List ℕ) {o : Option (Bor ℕ × Bor (List ℕ))}
    (first : MatchOption o (length s ≡ 0) (λ p. IsFirstAndRest s p.0.now p.1.now)) where
  pub get_none : (mode : Mode) (k least : ℕ) {f : ErrorKind} → o ≡ None → ◌≡◌ {A = Result (Bor ℕ × Bor (List ℕ)) ErrorKind} (Err f) (ok_or o Trunc)
      → error (number_of f) ≡ measured (get mode k least s)
  get_none mode k least {f} none e =
      let is : f ≡ Trunc = cc in
      rw is (get_nil mode k least s (rw none at first))

  pub first_rest : {p : Bor ℕ × Bor (List ℕ)} → o ≡ Some p → s ≡ p.0.now ∷ p.1.now
  first_rest some = (rw some at first).0

-- the bytes are b and those after it
module _ (mode : Mode) (k least : ℕ) {s rest : List ℕ} {b : ℕ} (is : s ≡ b ∷ rest) where
  pub get_tenth : k ≡ 0 → tenth least b (length rest) ≡ measured (get mode k least s)
  unfolding get measured last
  get_tenth e = rw (is, e, measured_guard, measured_guard)

  module _ {j : ℕ} (more : k ≡ suc j) where
    pub get_last : b < 128 → last least b (length rest) ≡ measured (get mode k least s)
    unfolding get measured last
    get_last h = rw (is, more, lt-ltb _ _ h, measured_guard)

    pub get_more : 128 ≤ b → {a : Answer ℕ (ℕ × ℕ)} → a ≡ measured (get mode j (least_of mode) rest)
        → raised (b % 128) 128 a ≡ measured (get mode k least s)
    unfolding get measured
    get_more h e = rw (is, more, le-ltb _ _ h, e, raised_then)

-- with at most j bytes after the first
pub get_small : (mode : Mode) (k least : ℕ) (s : List ℕ) {n left : ℕ} → ok (n, left) ≡ measured (get mode k least s) → (j : ℕ) → k ≤ j
    → n < 2 * 128 ^ j
get_small mode k least s e j h =
    measured_ok (get mode k least s) e (λ rest q l.
    omega (arith, (get_ends mode k least _ s rest q).below, pow-le-pow_right {n = 128} (lit< tt) {i = k} {j = j} h))
