-- `get` answers as the bytes say: one induction for what it is given, one for what it answers.
--
-- In order: the least that a last byte may be; numbers where k bytes may follow the first; `get` of them; what `get` answers is one of them; `get mode 9 0`
-- and `number`, which a header's numbers are read by.
use mathlib.Core.Path.{◌≡◌, refl, sym, ap, ◌∙◌, subst}
use Prim.Native.Nat.{ℕ, zero, suc, ◌+◌, ◌-◌, ◌*◌, ◌%◌, ◌≤◌, ◌<◌, zero-le}
use mathlib.Core.Bool.{Bool, true, false, true≢false}
use mathlib.Core.List.{List, [], ◌∷◌, ◌++◌, append_assoc}
use native.Mathlib.Omega.{arith}
use lib.Dec.{ltb, leb}
use lib.ListN.{length, take}
use borrow.Author.Tests.{lt-ltb, le-ltb, le-leb, lt-leb}
use Rattle.prelude.specs.Answer.{Res, got, bad, guard, then, or_error, ◌>>=◌}
use Rattle.prelude.specs.Each.{Each}
use Rattle.prelude.proofs.Tests.{split, pick_elim, facts}
use Rattle.error.specs.Error.{Fault, fault, TRUNC, OVERLONG, RANGE}
use Rattle.leb128.specs.Leb.{get, value, least_of, last_of}
use Rattle.leb128.specs.declared.Mode.{Mode}
use Rattle.leb128.specs.declared.Mode.TheVariants.{Strict, Tolerant}
use Rattle.leb128.proofs.Laws.{least_one}
use Rattle.token.specs.Scan.{get_if, Spelling, spelling, number}
use Rattle.guarantees_faults.specs.Faults as faults
use Rattle.guarantees_faults.specs.Faults.{GoesOn, Number, BadNumber, NumberIf, none, some}
use Rattle.guarantees_faults.proofs.Readers.{guard_elim, then_elim}

-- ---- numbers in the middle of a number

-- the least that a last byte may be after the bytes p, if the first may be `least`
abbrev least_after : Mode → ℕ → List ℕ → ℕ
least_after mode least [] = least
least_after mode least (c ∷ p) = least_of mode

least_same : (mode : Mode) (p : List ℕ) → least_after mode (least_of mode) p ≡ least_of mode
least_same mode [] = refl
least_same mode (c ∷ p) = refl

data Found (mode : Mode) (k least : ℕ) : List ℕ → ℕ → List ℕ → Type 0 where
  found : (p : List ℕ) (b : ℕ) (rest : List ℕ) → Each GoesOn p → b < 128 → length p ≤ k → (length p ≡ k → b ≤ 1) → least_after mode least p ≤ b
      → Found mode k least (p ++ (b ∷ rest)) (value (p ++ (b ∷ []))) rest

data Stuck (mode : Mode) (k least : ℕ) : List ℕ → ℕ → Type 0 where
  cut : (s : List ℕ) → Each GoesOn s → length s ≤ k → Stuck mode k least s TRUNC
  tenth : (p : List ℕ) (b : ℕ) (rest : List ℕ) → Each GoesOn p → length p ≡ k → 2 ≤ b → Stuck mode k least (p ++ (b ∷ rest)) RANGE
  padded : (p rest : List ℕ) → Each GoesOn p → length p ≤ k → 1 ≤ least_after mode least p → Stuck mode k least (p ++ (0 ∷ rest)) OVERLONG

-- ---- `get` of them

module _ (mode : Mode) where
  get_found : (k least : ℕ) {s : List ℕ} {n : ℕ} {rest : List ℕ} → Found mode k least s n rest → get mode k least s ≡ got n rest
  unfolding get value guard then
  get_found zero least (found [] b rest g small h one pos) =
      let two : b < 2 = omega (arith, one refl) in
      rw (lt-ltb, le-leb) (ap (λ n. got n rest) (omega arith))
  get_found zero least (found (c ∷ p) b rest g small h one pos) = absurd (omega arith)
  get_found (suc k) least (found [] b rest g small h one pos) = rw (lt-ltb, le-leb) (ap (λ n. got n rest) (omega arith))
  get_found (suc k) least (found (c ∷ p) b rest (g, gs) small h one pos) =
      let enough : least_after mode (least_of mode) p ≤ b = omega (arith, least_same mode p) in
      rw (le-ltb, get_found k (least_of mode) (found p b rest gs small (omega arith) (λ e. one (omega arith)) enough))

  get_stuck : (k least : ℕ) {s : List ℕ} {e : ℕ} → Stuck mode k least s e → get mode k least s ≡ bad e
  unfolding get guard then
  get_stuck zero least (cut [] g h) = refl
  get_stuck zero least (cut (b ∷ s) g h) = absurd (omega arith)
  get_stuck zero least (tenth [] b rest g h over) = rw le-ltb
  get_stuck zero least (tenth (c ∷ p) b rest g h over) = absurd (omega arith)
  get_stuck zero least (padded [] rest g h last) = rw (lt-leb least 0 (omega arith))
  get_stuck zero least (padded (c ∷ p) rest g h last) = absurd (omega arith)
  get_stuck (suc k) least (cut [] g h) = refl
  get_stuck (suc k) least (cut (b ∷ s) (g, gs) h) = rw (le-ltb, get_stuck k (least_of mode) (cut s gs (omega arith)))
  get_stuck (suc k) least (tenth [] b rest g h over) = absurd (omega arith)
  get_stuck (suc k) least (tenth (c ∷ p) b rest (g, gs) h over) = rw (le-ltb, get_stuck k (least_of mode) (tenth p b rest gs (omega arith) over))
  get_stuck (suc k) least (padded [] rest g h last) = rw (lt-leb least 0 (omega arith))
  get_stuck (suc k) least (padded (c ∷ p) rest (g, gs) h last) =
      let more : 1 ≤ least_after mode (least_of mode) p = omega (arith, least_same mode p) in
      rw (le-ltb, get_stuck k (least_of mode) (padded p rest gs (omega arith) more))

  -- ---- what `get` answers is one of them

  abbrev Answers : ℕ → ℕ → List ℕ → Res ℕ ℕ → Type 0
  Answers k least s (got n rest) = Found mode k least s n rest
  Answers k least s (bad e) = Stuck mode k least s e

  last_answers : (k least b : ℕ) (s : List ℕ) → least ≤ 1 → b < 128 → (k ≡ 0 → b ≤ 1) → Answers k least (b ∷ s) (last_of least b s)
  unfolding value
  last_answers k least b s l small one =
      guard_elim (Answers k least (b ∷ s)) (leb least b) _ _
      (λ no. let z : 0 ≡ b = omega facts in subst (λ c. Stuck mode k least (c ∷ s) OVERLONG) z (padded [] s tt (omega arith) (omega facts)))
      (λ yes. let n : b % 128 + 0 ≡ b = omega arith in
      subst (λ n. Found mode k least (b ∷ s) n s) n (found [] b s tt small (omega arith) (λ e. one (sym e)) (omega facts)))

  stuck_on : (k least b : ℕ) {s : List ℕ} {e : ℕ} → GoesOn b → Stuck mode k (least_of mode) s e → Stuck mode (suc k) least (b ∷ s) e
  stuck_on k least b g (cut s gs h) = cut (b ∷ s) (g, gs) (omega arith)
  stuck_on k least b g (tenth p c rest gs h over) = tenth (b ∷ p) c rest (g, gs) (omega arith) over
  stuck_on k least b g (padded p rest gs h last) = padded (b ∷ p) rest (g, gs) (omega arith) (omega (arith, least_same mode p))

  found_on : (k least b : ℕ) {s : List ℕ} {n : ℕ} {rest : List ℕ} → GoesOn b → Found mode k (least_of mode) s n rest
      → Found mode (suc k) least (b ∷ s) (b % 128 + 128 * n) rest
  unfolding value
  found_on k least b g (found p c rest gs small h one pos) =
      found (b ∷ p) c rest (g, gs) small (omega arith) (λ e. one (omega arith)) (omega (arith, least_same mode p))

  get_answers : (k least : ℕ) (s : List ℕ) → least ≤ 1 → Answers k least s (get mode k least s)
  unfolding get
  get_answers k least [] l = cut [] tt (omega arith)
  get_answers zero least (b ∷ s) l =
      guard_elim (Answers 0 least (b ∷ s)) (ltb b 2) _ _ (λ no. tenth [] b s tt refl (omega facts))
      (λ yes. last_answers 0 least b s l (omega facts) (λ z. omega facts))
  get_answers (suc k) least (b ∷ s) l =
      pick_elim (Answers (suc k) least (b ∷ s)) (ltb b 128) (λ small. last_answers (suc k) least b s l (omega facts) (λ z. absurd (omega arith)))
      (λ large. then_elim (Answers (suc k) least (b ∷ s)) (get mode k (least_of mode) s) _
      (λ e q. stuck_on k least b (omega facts) (subst (Answers k (least_of mode) s) q (get_answers k (least_of mode) s (least_one mode))))
      (λ n rest q. found_on k least b (omega facts) (subst (Answers k (least_of mode) s) q (get_answers k (least_of mode) s (least_one mode)))))

-- ---- the numbers of a header

-- by the mode: what a last byte after others has to be
least_of_strict : (mode : Mode) (p : List ℕ) (b : ℕ) → (mode ≡ Strict → 1 ≤ length p → 1 ≤ b) → least_after mode 0 p ≤ b
least_of_strict mode [] b pos = zero-le
least_of_strict Strict (c ∷ p) b pos = pos refl (omega arith)
least_of_strict Tolerant (c ∷ p) b pos = zero-le

strict_of_least : (mode : Mode) (p : List ℕ) (b : ℕ) → least_after mode 0 p ≤ b → mode ≡ Strict → 1 ≤ length p → 1 ≤ b
strict_of_least mode [] b h is l = absurd (omega arith)
strict_of_least mode (c ∷ p) b h is l = omega (arith, ap least_of is)

-- a byte of 0 that may not be the last: the mode is strict, and it is not the first
strict_padded : (mode : Mode) (p : List ℕ) → 1 ≤ least_after mode 0 p → (mode ≡ Strict) × (1 ≤ length p)
strict_padded mode [] h = absurd (omega arith)
strict_padded Strict (c ∷ p) h = (refl, omega arith)
strict_padded Tolerant (c ∷ p) h = absurd (omega arith)

padded_strict : (mode : Mode) (p : List ℕ) → mode ≡ Strict → 1 ≤ length p → 1 ≤ least_after mode 0 p
padded_strict mode [] is h = absurd (omega arith)
padded_strict mode (c ∷ p) is h = omega (arith, ap least_of is)

get_number : {mode : Mode} {s : List ℕ} {n : ℕ} {rest : List ℕ} → Number mode s n rest → get mode 9 0 s ≡ got n rest
get_number {mode} (faults.number p b rest g small h one pos) = get_found mode 9 0 (found p b rest g small h one (least_of_strict mode p b pos))

get_bad : {mode : Mode} {s : List ℕ} {e : ℕ} → BadNumber mode s e → get mode 9 0 s ≡ bad e
get_bad {mode} (faults.cut {s} g h) = get_stuck mode 9 0 (cut s g (omega arith))
get_bad {mode} (faults.tenth p b rest g h over) = get_stuck mode 9 0 (tenth p b rest g h (omega arith))
get_bad {mode} (faults.padded is p rest g h last) = get_stuck mode 9 0 (padded p rest g h (padded_strict mode p is last))

number_of_found : {mode : Mode} {s : List ℕ} {n : ℕ} {rest : List ℕ} → Found mode 9 0 s n rest → Number mode s n rest
number_of_found {mode} (found p b rest g small h one pos) = faults.number p b rest g small h one (strict_of_least mode p b pos)

bad_of_stuck : {mode : Mode} {s : List ℕ} {e : ℕ} → Stuck mode 9 0 s e → BadNumber mode s e
bad_of_stuck (cut s g h) = faults.cut {s = s} g (omega arith)
bad_of_stuck (tenth p b rest g h over) = faults.tenth p b rest g h (omega arith)
bad_of_stuck {mode} (padded p rest g h last) = let (is, more) = strict_padded mode p last in faults.padded is p rest g h more

-- one that is not there is 0
pub number_none : {mode : Mode} {w : Bool} {s : List ℕ} {n : ℕ} {rest : List ℕ} → NumberIf mode w s n rest → w ≡ false → n ≡ 0
number_none none f = refl
number_none (some x) f = absurd (true≢false f)

-- n with the bytes in front of `rest`, which were read
abbrev pub read : ℕ → List ℕ → List ℕ → Spelling
read n s rest = spelling n (take (length s - length rest) s)

module _ {mode : Mode} (at : ℕ) where
  pub number_is : {w : Bool} {s : List ℕ} {n : ℕ} {rest : List ℕ} → NumberIf mode w s n rest → number mode at w s ≡ got (read n s rest) rest
  unfolding number get_if or_error then
  number_is none = refl
  number_is (some x) = rw (get_number x)

  pub number_fails : {w : Bool} {s : List ℕ} {e : ℕ} → w ≡ true → BadNumber mode s e → number mode at w s ≡ bad (fault e at)
  unfolding number get_if or_error then
  number_fails t x = rw (t, get_bad x)

-- what it answers, for a property of what is made of it
pub number_elim : (mode : Mode) (at : ℕ) {A : Type 0} (P : Res Fault A → Type 0) (w : Bool) (f : Spelling → List ℕ → Res Fault A) (s : List ℕ)
    → ((e : ℕ) → w ≡ true → BadNumber mode s e → P (bad (fault e at)))
    → ((n : ℕ) (rest : List ℕ) → NumberIf mode w s n rest → P (f (read n s rest) rest)) → P ((number mode at w >>= f) s)
unfolding number get_if or_error ◌>>=◌ then
number_elim mode at P false f s bads goods = goods 0 s none
number_elim mode at P true f s bads goods = by_cases (get mode 9 0 s) (get_answers mode 9 0 s zero-le)
  where
    by_cases : (r : Res ℕ ℕ) → Answers mode 9 0 s r → P (then (then (or_error (λ e. fault e at) r) (λ v rest. got (read v s rest) rest)) f)
    by_cases (got n rest) x = goods n rest (some (number_of_found x))
    by_cases (bad e) x = bads e refl (bad_of_stuck x)

-- ---- the bytes after a number are an end of the bytes

pub record EndOf (s rest : List ℕ) : Type 0 where
  pub front : List ℕ
  pub same : s ≡ front ++ rest

pub end_trans : {x y z : List ℕ} → EndOf x y → EndOf y z → EndOf x z
end_trans {x} {y} {z} a b = record {
  front = a.front ++ b.front;
  same = a.same ∙ ap (λ (m : List ℕ). a.front ++ m) b.same ∙ sym (append_assoc a.front b.front z);
}

pub number_end : {mode : Mode} {w : Bool} {s : List ℕ} {n : ℕ} {rest : List ℕ} → NumberIf mode w s n rest → EndOf s rest
number_end none = record { front = []; same = refl }
number_end (some (faults.number p b rest g small h one pos)) = record { front = p ++ (b ∷ []); same = sym (append_assoc p (b ∷ []) rest) }
