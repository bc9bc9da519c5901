-- What check found, by what it returned and left in the table.
--
-- In order: a file for which `check_in` has an answer; a file that check accepted (`accepted`); the table of a file that it refused (`refused`).
use mathlib.Core.Path.{◌≡◌, refl, sym, ap}
use Prim.Native.Nat.{ℕ, ◌-◌, ◌≤◌}
use mathlib.Core.Bool.{true, ◌&&◌}
use mathlib.Core.List.{List, []}
use native.Mathlib.Omega.{arith}
use borrow.Author.Tests.{eqb-false}
use lib.Dec.{ltb, eqb}
use lib.ListN.{length, take, get_or, replicate, length-replicate, length-append}
use lib.Seq.{take-append_seam}
use Rattle.prelude.specs.Answer.{Answer, ok, error, bind}
use Rattle.prelude.specs.Search.{among, Rising}
use Rattle.prelude.proofs.Tests.{pick_elim, facts, and_r}
use Rattle.error.specs.Error.{Fault, LIMIT}
use Rattle.leb128.specs.declared.Mode.{Mode}
use Rattle.table.specs.Blocks.{Below}
use Rattle.checker_value.specs.Walk.{between, starts_from}
use Rattle.checker_value.proofs.Walks.{come}
use Rattle.checker.specs.Check.{entry_at, check_in, filled, Checked, checked, listed, check_of}

-- the file has bytes, not too many; its starts rise and are offsets of the region, and one of them is the entry
record Inside (file : List ℕ) (cap : ℕ) (ss : List ℕ) (entry : ℕ) : Type 0 where
  some : 1 ≤ length file
  short : length file ≤ LIMIT
  fits : length ss ≤ cap
  rising : Rising ss
  inside : Below (length (take (length file - 1) file)) ss
  start : among entry ss ≡ true

module _ (mode : Mode) (file : List ℕ) (cap : ℕ) where
  abbrev Finds : Answer Fault ((List ℕ) × ℕ) → Type 0
  Finds (ok r) = Inside file cap r.0 r.1
  Finds (error f) = Unit {0}

  finds : Finds (check_in mode file cap)
  unfolding check_in bind entry_at
  finds =
      pick_elim Finds (eqb (length file) 0) (λ t. tt)
      (λ some. pick_elim Finds (ltb LIMIT (length file)) (λ t. tt)
      (λ short. by_cases (omega (facts, eqb-false (length file) 0 some)) (omega facts) (starts_from mode (take (length file - 1) file) cap (between 0 [])) refl))
    where
      by_cases : 1 ≤ length file → length file ≤ LIMIT → (a : Answer Fault (List ℕ)) → starts_from mode (take (length file - 1) file) cap (between 0 []) ≡ a
          → Finds (bind a (λ done. bind (entry_at (length file - 1) (get_or file (length file - 1) 0) done) (λ e. ok (done, e))))
      by_cases some short (ok ss) e =
          let c = come mode (take (length file - 1) file) cap ss (sym e) in
          let p = length file - 1 in
          let d = get_or file p 0 in
          pick_elim (λ (a : Answer Fault ℕ). Finds (bind a (λ x. ok (ss, x)))) (ltb d p && among (p - d - 1) ss)
          (λ t. record { some = some; short = short; fits = c.1; rising = c.0; inside = c.2; start = and_r (ltb d p) (among (p - d - 1) ss) t })
          (λ t. tt)
      by_cases some short (error f) e = tt

-- an answer is not an error
ok_error : {X A : Type 0} {a : A} {f : Fault} → ◌≡◌ {A = Answer Fault A} (ok a) (error f) → X
ok_error e = let z : ◌≡◌ {A = ℕ} 0 1 = cc in absurd (omega arith)

-- a file that check accepted, with the table t that it left
pub record Found (mode : Mode) (file t : List ℕ) (cap count entry : ℕ) : Type 0 where
  pub some : 1 ≤ length file
  pub short : length file ≤ LIMIT
  pub long : length t ≡ cap
  pub fits : count ≤ length t
  pub found : check_in mode file cap ≡ ok (take count t, entry)
  pub table : t ≡ filled cap (take count t)
  pub rising : Rising (take count t)
  pub inside : Below (length (take (length file - 1) file)) (take count t)
  pub start : among entry (take count t) ≡ true

module _ (mode : Mode) (file t : List ℕ) (cap : ℕ) where
  pub accepted : (count entry : ℕ) → checked (ok (count, entry)) t ≡ check_of mode file cap → Found mode file t cap count entry
  unfolding check_of
  accepted count entry left = by_cases (check_in mode file cap) refl (finds mode file cap) left
    where
      by_cases : (a : Answer Fault ((List ℕ) × ℕ)) → check_in mode file cap ≡ a → Finds mode file cap a → checked (ok (count, entry)) t ≡ listed cap a
          → Found mode file t cap count entry
      by_cases (ok p) e i q =
          let reported : ◌≡◌ {A = Answer Fault (ℕ × ℕ)} (ok (count, entry)) (ok (length p.0, p.1)) = ap (λ (x : Checked). x.answer) q in
          let both : ◌≡◌ {A = ℕ × ℕ} (count, entry) (length p.0, p.1) = cc in
          let many : count ≡ length p.0 = ap (λ (x : ℕ × ℕ). x.0) both in
          let named : entry ≡ p.1 = ap (λ (x : ℕ × ℕ). x.1) both in
          let words : t ≡ filled cap p.0 = ap (λ (x : Checked). x.starts) q in
          let front : take count t ≡ p.0 = rw (many, words) (take-append_seam p.0 _) in
          record {
            some = i.some;
            short = i.short;
            long = rw (words, length-append, length-replicate {A = ℕ} (cap - length p.0) 0) (omega (arith, i.fits));
            fits = rw (many, words, length-append) (omega arith);
            found = rw (front, named) e;
            table = rw front words;
            rising = rw front i.rising;
            inside = rw front i.inside;
            start = rw (front, named) i.start;
          }
      by_cases (error f) e i q = ok_error (ap (λ (x : Checked). x.answer) q)

  -- the error, and zeros
  pub refused : (f : Fault) → checked (error f) t ≡ check_of mode file cap → (check_in mode file cap ≡ error f) × (t ≡ replicate cap 0)
  unfolding check_of
  refused f left = by_cases (check_in mode file cap) left
    where
      by_cases : (a : Answer Fault ((List ℕ) × ℕ)) → checked (error f) t ≡ listed cap a → (a ≡ error f) × (t ≡ replicate cap 0)
      by_cases (ok p) q = ok_error (sym (ap (λ (x : Checked). x.answer) q))
      by_cases (error g) q =
          let same : ◌≡◌ {A = Answer Fault (ℕ × ℕ)} (error f) (error g) = ap (λ (x : Checked). x.answer) q in
          let own : g ≡ f = cc in
          (ap error own, ap (λ (x : Checked). x.starts) q)
