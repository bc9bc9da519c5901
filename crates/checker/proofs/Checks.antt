-- The ways through check.
--
-- In order: the entry, given the starts; a file whose region was walked; the table that is left.
use mathlib.Core.Path.{◌≡◌, ap, ◌∙◌}
use Prim.Native.Nat.{ℕ, ◌-◌, ◌≤◌}
use mathlib.Core.List.{List, [], append-nil}
use native.Mathlib.Nat.{sub-zero}
use native.Mathlib.Omega.{arith}
use borrow.Author.Tests.{ne_eqb, le-ltb}
use borrow.Rule.Slice.PartMut.{put_mid}
use lib.ListN.{length, take, drop, get_or, replicate, drop_of_length-le, length-drop}
use lib.Seq.{length-take-le}
use Rattle.prelude.specs.Answer.{Answer, ok, error, bind}
use Rattle.prelude.specs.Search.{Rising}
use Rattle.prelude.proofs.Readers.{bind_ok, bind_error}
use Rattle.prelude.proofs.Parts.{length_part}
use Rattle.error.specs.Error.{Fault, LIMIT}
use Rattle.error.specs.declared.Error.{Error}
use Rattle.leb128.specs.declared.Mode.{Mode}
use Rattle.std.specs.Prelude.{Result, Ok, Err, MatchResult}
use Rattle.checker.specs.declared.Summary.{Summary}
use Rattle.checker_value.specs.Walk.{between, starts_from}
use Rattle.checker_value.proofs.Walks.{come}
use Rattle.checker.specs.Check.{entry_at, check_in, filled, checked, listed, check_of}
use Rattle.checker.specs.Answers.{check_answer}
use Rattle.checker.specs.Internal.{check_in_answer, kept_words}

-- starts in the first words of t, and the entry after them
abbrev Entered : Result Summary Error → List ℕ → Answer Fault ((List ℕ) × ℕ) → Type 0
Entered q t a = (check_in_answer q t ≡ a) × (kept_words q ≤ length t)

entered : (t : List ℕ) (count : ℕ) → count ≤ length t → (q : Result Summary Error) (a : Answer Fault ℕ)
    → check_answer q ≡ bind a (λ e. ok (length (take count t), e)) → Entered q t (bind a (λ e. ok (take count t, e)))
unfolding bind
entered t count fits (Ok f) (ok x) reported =
    let p : ◌≡◌ {A = ℕ × ℕ} (f.count, f.entry) (length (take count t), x) = cc in
    let same : f.count ≡ count = ap (λ (y : ℕ × ℕ). y.0) p ∙ length-take-le count t fits in
    let entry : f.entry ≡ x = ap (λ (y : ℕ × ℕ). y.1) p in
    (rw (same, entry), rw same fits)
entered t count fits (Ok f) (error e) reported = let z : ◌≡◌ {A = ℕ} 0 1 = cc in absurd (omega arith)
entered t count fits (Err e) (ok x) reported = let z : ◌≡◌ {A = ℕ} 0 1 = cc in absurd (omega arith)
entered t count fits (Err e) (error f) reported = (cc, omega arith)

pub listed_rising : (mode : Mode) (s t : List ℕ) (cap count : ℕ) → ok (take count t) ≡ starts_from mode s cap (between 0 []) → Rising (take count t)
listed_rising mode s t cap count reported = (come mode s cap (take count t) reported).0

module _ (mode : Mode) (file t : List ℕ) (cap : ℕ) (some : length file ≡ 0 → ⊥) (short : length file ≤ LIMIT) where
  pub check_error : (f : Fault) → error f ≡ starts_from mode (take (length file - 1) file) cap (between 0 []) → error f ≡ check_in mode file cap
  unfolding check_in
  check_error f reported = rw (ne_eqb _ _ some, le-ltb _ _ short) (bind_error _ reported)

  pub check_walk : (count : ℕ) → ok (take count t) ≡ starts_from mode (take (length file - 1) file) cap (between 0 []) → count ≤ length t
      → (q : Result Summary Error)
      → check_answer q ≡ bind (entry_at (length file - 1) (get_or file (length file - 1) 0) (take count t)) (λ e. ok (length (take count t), e))
      → Entered q t (check_in mode file cap)
  unfolding check_in
  check_walk count reported fits q e =
      let found = entered t count fits q (entry_at (length file - 1) (get_or file (length file - 1) 0) (take count t)) e in
      (rw (ne_eqb _ _ some, le-ltb _ _ short) (bind_ok _ reported found.0), found.1)

-- ---- the table that is left

-- zeros after the first `count` words
pub zeros_after : (t : List ℕ) (count : ℕ) → count ≤ length t
    → put_mid count (length t - count) t (replicate (length (take (length t - count) (drop count t))) 0) ≡ filled (length t) (take count t)
zeros_after t count h =
    rw (length_part count t, drop_of_length-le (drop count t) {i = length t - count} (rw length-drop (omega arith)), append-nil, length-take-le count t h)

pub kept_is : (q : Result Summary Error) (n : ℕ) → MatchResult q (λ f. n ≡ f.count) (λ e. n ≡ 0) → n ≡ kept_words q
kept_is (Ok f) n h = h
kept_is (Err e) n h = h

pub check_left : (mode : Mode) (file t : List ℕ) (cap : ℕ) → length t ≡ cap → (q : Result Summary Error)
    → check_in_answer q t ≡ check_in mode file cap → (n : ℕ) → n ≡ kept_words q → kept_words q ≤ length t
    → (z : List ℕ) → z ≡ replicate (length (take (length t - n) (drop n t))) 0 → checked (check_answer q) (put_mid n (length t - n) t z) ≡ check_of mode file cap
unfolding check_of
check_left mode file t cap long q reported n is fits z e = rw (e, is, zeros_after t (kept_words q) fits, ← reported, ← long) (by_cases q fits)
  where
    by_cases : (q : Result Summary Error) → kept_words q ≤ length t
        → checked (check_answer q) (filled (length t) (take (kept_words q) t)) ≡ listed (length t) (check_in_answer q t)
    by_cases (Ok f) fits = rw (length-take-le f.count t fits)
    by_cases (Err e) fits = rw sub-zero
