-- Which kinds have a body, or items that the file counts, and what these announce: computed tests over the rows of the kind table.
--
-- In order: the kinds whose rows pass a test (`kind_by`); what a token that announces more than the bytes left is refused with (`shortage_by`); each
-- float that is cut, and each length or count that exceeds them, is such a token (`..-need`), with its fault (`..-shortage`); so both ways
-- (`shortage_exactly`).
use mathlib.Core.Path.{◌≡◌, refl, sym, ◌∙◌}
use mathlib.Core.Logic.{◌⊎◌, inl, inr, ◌↔◌}
use mathlib.Core.Bool.{Bool, true, false, not, ◌&&◌, false≢true, or_comm}
use mathlib.Core.List.{List, [], ◌∷◌}
use Prim.Native.Nat.{ℕ, zero, suc, ◌+◌, ◌*◌, ◌/◌, ◌<◌}
use native.Mathlib.Nat.{add-zero, zero-add, add-suc, suc-add, pos_of_ne-zero}
use native.Mathlib.Omega.{arith}
use borrow.Author.Tests.{eqb-true, eq-eqb, lt-ltb}
use lib.Dec.{ltb, eqb}
use lib.ListN.{length, get_or}
use Rattle.prelude.specs.Pick.{pick}
use Rattle.prelude.specs.Search.{among}
use Rattle.prelude.proofs.Tests.{pick_elim, or_true, facts}
use Rattle.error.specs.Error.{Fault, fault, TRUNC, LONG_LIST}
use Rattle.leb128.specs.declared.Mode.{Mode}
use Rattle.kind.specs.Kind.{rule, table, reserved, size, counted}
use Rattle.kind.specs.declared.Rule.{Rule}
use Rattle.token.specs.Scan.{shortage}
use Rattle.guarantees_faults.specs.Faults as faults
use Rattle.guarantees_faults.specs.Faults.{Exceeds, Counted}
use Rattle.guarantees_faults.proofs.Numbers.{number_none}

-- ---- the kinds whose rows pass a test

module _ (p : Rule → Bool) where
  -- their numbers, if the first row has the number i
  abbrev numbers : ℕ → List Rule → List ℕ
  numbers i [] = []
  numbers i (r ∷ rs) = pick (p r) (i ∷ numbers (suc i) rs) (numbers (suc i) rs)

  among_numbers : (i : ℕ) (rs : List Rule) (k : ℕ) → p reserved ≡ false → p (get_or rs k reserved) ≡ true → among (i + k) (numbers i rs) ≡ true
  unfolding among
  among_numbers i [] k none e = absurd (false≢true (sym none ∙ e))
  among_numbers i (r ∷ rs) zero none e = rw (e, eq-eqb (i + 0) i (add-zero i))
  among_numbers i (r ∷ rs) (suc k) none e =
      let more : among (i + suc k) (numbers (suc i) rs) ≡ true = rw (add-suc i k, ← suc-add i k) (among_numbers (suc i) rs k none e) in
      pick_elim (λ ks. among (i + suc k) ks ≡ true) (p r) (λ t. rw (more, or_comm (eqb (i + suc k) i) true)) (λ t. more)

  kind_by : (k : ℕ) → p reserved ≡ false → p (rule k) ≡ true → among k (numbers 0 table) ≡ true
  unfolding rule
  kind_by k none e = rw (zero-add k) at (among_numbers 0 table k none e)

-- ---- more than the bytes left

among_one : {X : Type 0} (k i : ℕ) → among k (i ∷ []) ≡ true → (k ≡ i → X) → X
unfolding among
among_one k i e f = or_true (eqb k i) false e (λ t. f (eqb-true k i t)) (λ z. absurd (false≢true z))

among_two : {X : Type 0} (k i j : ℕ) → among k (i ∷ j ∷ []) ≡ true → (k ≡ i → X) → (k ≡ j → X) → X
unfolding among
among_two k i j e f g = or_true (eqb k i) _ e (λ t. f (eqb-true k i t)) (λ t. or_true (eqb k j) false t (λ u. g (eqb-true k j u)) (λ z. absurd (false≢true z)))

module _ (k n a left : ℕ) (one : (rule k).args ≡ false → a ≡ 0) where
  abbrev need : ℕ
  need = size (rule k) n + counted (rule k) n a

  -- as the row of kind i has it, without a second number
  need_at : (i : ℕ) → left < need → k ≡ i → (rule i).args ≡ false → left < size (rule i) n + counted (rule i) n 0
  need_at i l is none = rw (is, one (rw (← is) at none)) at l

  pub shortage_by : (P : Fault → Type 0) (at first : ℕ) → left < need → (k ≡ 3 → left < 4 + 4 * n → P (fault TRUNC at))
      → ((e : ℕ) → Exceeds k n a left e → P (fault e first)) → P (shortage at first (rule k))
  unfolding rule
  shortage_by P at first l cut long =
      pick_elim P (ltb 0 (rule k).fixed)
      (λ f. among_one k 3 (kind_by (λ r. ltb 0 r.fixed) k refl f) (λ is. cut is (omega (arith, need_at 3 l is refl))))
      (λ f. pick_elim P (ltb 0 (rule k).scale)
      (λ g. among_two k 4 5 (kind_by (λ r. not (ltb 0 r.fixed) && ltb 0 r.scale) k refl (rw (f, g)))
      (λ is. long _ (faults.text is (omega (arith, need_at 4 l is refl))))
      (λ is. long _ (faults.bytes is (omega (arith, need_at 5 l is refl)))))
      (λ g. by_args f g (rule k).args refl))
    where
      by_args : ltb 0 (rule k).fixed ≡ false → ltb 0 (rule k).scale ≡ false → (b : Bool) → (rule k).args ≡ b → P (fault LONG_LIST first)
      by_args f g true e =
          among_one k 12 (kind_by (λ r. r.args) k refl e) (λ is. let m : left < size (rule 12) n + counted (rule 12) n a = rw is at l in
          long _ (faults.arguments is (omega arith)))
      by_args f g false e =
          let fixed : (rule k).fixed ≡ 0 = omega facts in
          let scale : (rule k).scale ≡ 0 = omega facts in
          let some : (rule k).each ≡ 0 → ⊥ = λ z. let m : left < 0 + 0 * n + (0 * n + 0) = rw (fixed, scale, z, one e) at l in omega arith in
          among_two k 6 7 (kind_by (λ r. ltb 0 r.each) k refl (lt-ltb _ _ (pos_of_ne-zero some)))
          (λ is. long _ (faults.items is (omega (arith, need_at 6 l is refl))))
          (λ is. long _ (faults.pairs is (omega (arith, need_at 7 l is refl))))

-- ---- each of them

pub float_need : {k left : ℕ} (n a : ℕ) → k ≡ 3 → left < 4 + 4 * n → left < size (rule k) n + counted (rule k) n a
unfolding rule
float_need n a is l = rw is (omega arith)

pub float_shortage : {k : ℕ} (at first : ℕ) → k ≡ 3 → shortage at first (rule k) ≡ fault TRUNC at
unfolding rule
float_shortage at first is = rw is

pub exceeds_need : {k n a left e : ℕ} → Exceeds k n a left e → left < size (rule k) n + counted (rule k) n a
unfolding rule
exceeds_need (faults.text is l) = rw is (omega arith)
exceeds_need (faults.bytes is l) = rw is (omega arith)
exceeds_need (faults.items is l) = rw is (omega arith)
exceeds_need (faults.pairs is l) = rw is (omega arith)
exceeds_need (faults.arguments is l) = rw is (omega arith)

pub exceeds_shortage : {k n a left e : ℕ} (at first : ℕ) → Exceeds k n a left e → shortage at first (rule k) ≡ fault e first
unfolding rule
exceeds_shortage at first (faults.text is l) = rw is
exceeds_shortage at first (faults.bytes is l) = rw is
exceeds_shortage at first (faults.items is l) = rw is
exceeds_shortage at first (faults.pairs is l) = rw is
exceeds_shortage at first (faults.arguments is l) = rw is

-- so a body or count that exceeds the bytes left is a float that is cut, or a length or count of `Exceeds`, and nothing else
pub shortage_exactly : {mode : Mode} {s : List ℕ} {inner : Bool} {q h n a : ℕ} {m : List ℕ} → Counted mode s inner q h n a m
    → (length m < size (rule (h / 16)) n + counted (rule (h / 16)) n a)
    ↔ (((h / 16 ≡ 3) × (length m < 4 + 4 * n)) ⊎ ((e : ℕ) × Exceeds (h / 16) n a (length m) e))
shortage_exactly {h = h} {n} {a} {m} c = (
  λ l. shortage_by (h / 16) n a (length m) (number_none c.count) (λ f. Sum) 0 0 l (λ is cut. inl (is, cut)) (λ e x. inr (e, x)),
  by_row,
)
  where
    Sum : Type 0
    Sum = ((h / 16 ≡ 3) × (length m < 4 + 4 * n)) ⊎ ((e : ℕ) × Exceeds (h / 16) n a (length m) e)

    by_row : Sum → length m < size (rule (h / 16)) n + counted (rule (h / 16)) n a
    by_row (inl (is, cut)) = float_need n a is cut
    by_row (inr (e, x)) = exceeds_need x
