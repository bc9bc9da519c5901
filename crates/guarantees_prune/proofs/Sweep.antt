-- One pass down marks exactly what is reached, if each value leads to lower numbers alone.
--
-- In order: marks set; how many marks there are (`length_sweep`); what is reached (`Reach`), and what a pass keeps; the marks after it (`sweep_exactly`):
-- none above the first (`sweep_le`), and what a marked value leads to is marked (`sweep_closed`).
use mathlib.Core.Path.{◌≡◌, refl, sym, ap, ◌∙◌}
use mathlib.Core.Logic.{◌⊎◌, inl, inr, ◌↔◌}
use mathlib.Core.Bool.{Bool, true, false, or_comm, true≢false, false≢true}
use mathlib.Core.List.{List, [], ◌∷◌}
use Prim.Native.Nat.{ℕ, zero, suc, ◌≤◌, ◌<◌}
use native.Mathlib.Omega.{arith}
use lib.Dec.{eqb}
use lib.ListN.{length, get_or, set, replicate, length-set, length-replicate}
use lib.Seq.{get_or-set_same}
use borrow.Author.Tests.{eqb-true, eq-eqb}
use Rattle.prelude.specs.Search.{among}
use Rattle.prelude.proofs.Tests.{split, or_true, pick_elim}
use Rattle.prune_reach.specs.Reach.{marked, sweep}

-- number i is marked
abbrev pub Mark : List Bool → ℕ → Type 0
Mark ms i = get_or ms i false ≡ true

-- ---- marks set

pub mark_inside : (ms : List Bool) (i : ℕ) → Mark ms i → i < length ms
mark_inside [] i h = absurd (false≢true h)
mark_inside (b ∷ ms) zero h = omega arith
mark_inside (b ∷ ms) (suc i) h = omega (arith, mark_inside ms i h)

set_keeps : (ms : List Bool) (j i : ℕ) → Mark ms i → Mark (set ms j true) i
set_keeps [] j i h = h
set_keeps (b ∷ ms) zero zero h = refl
set_keeps (b ∷ ms) zero (suc i) h = h
set_keeps (b ∷ ms) (suc j) zero h = h
set_keeps (b ∷ ms) (suc j) (suc i) h = set_keeps ms j i h

set_by : (ms : List Bool) (j i : ℕ) → Mark (set ms j true) i → Mark ms i ⊎ (i ≡ j)
set_by [] j i h = inl h
set_by (b ∷ ms) zero zero h = inr refl
set_by (b ∷ ms) zero (suc i) h = inl h
set_by (b ∷ ms) (suc j) zero h = inl h
set_by (b ∷ ms) (suc j) (suc i) h = elim (set_by ms j i h) [ inl x ↦ inl x | inr e ↦ inr (ap suc e) ]

none_set : (n i : ℕ) → Mark (replicate n false) i → ⊥
none_set zero i h = false≢true h
none_set (suc n) zero h = false≢true h
none_set (suc n) (suc i) h = none_set n i h

marked_keeps : (js : List ℕ) (ms : List Bool) (i : ℕ) → Mark ms i → Mark (marked js ms) i
unfolding marked
marked_keeps [] ms i h = h
marked_keeps (j ∷ js) ms i h = marked_keeps js (set ms j true) i (set_keeps ms j i h)

pub marked_in : (js : List ℕ) (ms : List Bool) (i : ℕ) → among i js ≡ true → i < length ms → Mark (marked js ms) i
unfolding marked among
marked_in [] ms i h l = absurd (false≢true h)
marked_in (j ∷ js) ms i h l =
    or_true (eqb i j) (among i js) h
    (λ q. let e = eqb-true i j q in marked_keeps js (set ms j true) i (rw e (get_or-set_same ms j true false (omega arith))))
    (λ q. marked_in js (set ms j true) i q (omega (arith, length-set ms j true)))

pub marked_by : (js : List ℕ) (ms : List Bool) (i : ℕ) → Mark (marked js ms) i → Mark ms i ⊎ (among i js ≡ true)
unfolding marked among
marked_by [] ms i h = inl h
marked_by (j ∷ js) ms i h =
    elim (marked_by js (set ms j true) i h) [
      | inl x ↦ elim (set_by ms j i x) [ inl y ↦ inl y | inr e ↦ inr (rw (eq-eqb i j e)) ]
      | inr q ↦ inr (rw (q, or_comm (eqb i j) true))
    ]

-- ---- how many marks there are

pub length_marked : (js : List ℕ) (ms : List Bool) → length (marked js ms) ≡ length ms
unfolding marked
length_marked [] ms = refl
length_marked (j ∷ js) ms = length_marked js (set ms j true) ∙ length-set ms j true

pub length_sweep : (f : ℕ → List ℕ) (k : ℕ) (ms : List Bool) → length (sweep f k ms) ≡ length ms
unfolding sweep
length_sweep f zero ms = refl
length_sweep f (suc k) ms =
    length_sweep f k _ ∙ pick_elim {A = List Bool} (λ l. length l ≡ length ms) (get_or ms k false) (λ _. length_marked (f k) ms) (λ _. refl)

-- the marks of n values as a pass from e down starts with them
abbrev pub single : ℕ → ℕ → List Bool
single n e = set (replicate n false) e true

pub length_single : (n e : ℕ) → length (single n e) ≡ n
length_single n e = length-set (replicate n false) e true ∙ length-replicate n false

-- ---- what is reached, and what a pass keeps

-- what is reached from e, if value number i leads to f i
pub data Reach (f : ℕ → List ℕ) (e : ℕ) : ℕ → Type 0 where
  here : Reach f e e
  there : {i j : ℕ} → Reach f e i → among j (f i) ≡ true → Reach f e j

module _ (f : ℕ → List ℕ) (n : ℕ) (lower : (i j : ℕ) → i < n → among j (f i) ≡ true → j < i) (e : ℕ) (e< : e < n) where
  pub reach_le : (i : ℕ) → Reach f e i → i ≤ e
  reach_le i here = omega arith
  reach_le i (there {i = h} r q) = let l = reach_le h r in omega (arith, lower h i (omega arith) q)

  -- each mark is reached; what the marked ones from k on lead to is marked
  record Swept (k : ℕ) (ms : List Bool) : Type 0 where
    long : length ms ≡ n
    sound : (i : ℕ) → Mark ms i → Reach f e i
    closed : (i j : ℕ) → k ≤ i → Mark ms i → among j (f i) ≡ true → Mark ms j
    first : Mark ms e

  module _ (k : ℕ) (ms : List Bool) (w : Swept (suc k) ms) where
    swept_marked : Mark ms k → Swept k (marked (f k) ms)
    swept_marked h = record {
      long = length_marked (f k) ms ∙ w.long;
      sound = λ i x. elim (marked_by (f k) ms i x) [ inl y ↦ w.sound i y | inr q ↦ there (w.sound k h) q ];
      closed = λ i j l x q. elim (marked_by (f k) ms i x) [
        | inl y ↦ split k i
            (λ more. marked_keeps (f k) ms j (w.closed i j more y q))
            (λ same. let is : i ≡ k = omega arith in
            let i< = mark_inside ms i y in
            marked_in (f k) ms j (rw is at q) (omega (arith, w.long, lower i j (omega (arith, w.long)) q)))
        | inr m ↦ absurd (omega (arith, lower k i (omega (arith, w.long, mark_inside ms k h)) m))
      ];
      first = marked_keeps (f k) ms e w.first;
    }

    swept_left : get_or ms k false ≡ false → Swept k ms
    swept_left h = record {
      long = w.long;
      sound = w.sound;
      closed = λ i j l x q. split k i (λ more. w.closed i j more x q) (λ same.
          let is : i ≡ k = omega arith in absurd (true≢false (sym (rw is at x) ∙ h)));
      first = w.first;
    }

  sweep_swept : (k : ℕ) (ms : List Bool) → Swept k ms → Swept 0 (sweep f k ms)
  unfolding sweep
  sweep_swept zero ms w = w
  sweep_swept (suc k) ms w =
      sweep_swept k _ (pick_elim (Swept k) (get_or ms k false) (λ h. swept_marked k ms w h) (λ h. swept_left k ms w h))

  swept_reach : (ms : List Bool) → Swept 0 ms → (i : ℕ) → Reach f e i → Mark ms i
  swept_reach ms w i here = w.first
  swept_reach ms w i (there {i = h} {j = j} r q) = w.closed h j (omega arith) (swept_reach ms w h r) q

  swept_single : Swept (suc e) (single n e)
  swept_single = record {
    long = length_single n e;
    sound = λ i x. elim (set_by (replicate n false) e i x) [ inl y ↦ absurd (none_set n i y) | inr is ↦ rw is here ];
    closed = λ i j l x q. elim (set_by (replicate n false) e i x) [ inl y ↦ absurd (none_set n i y) | inr is ↦ absurd (omega arith) ];
    first = get_or-set_same (replicate n false) e true false (omega (arith, length-replicate n false));
  }

  -- ---- the marks after a pass

  pub sweep_exactly : (i : ℕ) → Mark (sweep f (suc e) (single n e)) i ↔ Reach f e i
  sweep_exactly i = let w = sweep_swept (suc e) _ swept_single in (λ x. w.sound i x, λ r. swept_reach _ w i r)

  pub sweep_le : (i : ℕ) → Mark (sweep f (suc e) (single n e)) i → i ≤ e
  sweep_le i h = reach_le i ((sweep_exactly i).0 h)

  pub sweep_closed : (i j : ℕ) → Mark (sweep f (suc e) (single n e)) i → among j (f i) ≡ true → Mark (sweep f (suc e) (single n e)) j
  sweep_closed i j h q = (sweep_exactly j).1 (there ((sweep_exactly i).0 h) q)
