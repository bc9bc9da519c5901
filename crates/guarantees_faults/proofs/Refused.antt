-- The walk of check refuses a token exactly as `RefusedToken` says.
--
-- In order: tests; the walk answers each row (`error_of_refused`); what it answers is a row (`refused_of_error`); both ways (`refused_exactly`), and no
-- token is refused in two ways (`one_refusal`).
use mathlib.Core.Path.{◌≡◌, refl, sym, ap, ◌∙◌, subst}
use mathlib.Core.Logic.{◌↔◌}
use Prim.Native.Nat.{ℕ, ◌-◌, ◌/◌}
use mathlib.Core.Bool.{Bool, true, false, not, ◌&&◌, false≢true}
use mathlib.Core.List.{List}
use native.Mathlib.Omega.{arith}
use borrow.Author.Tests.{eqb-true, eq-eqb, leb-true, le-leb, lt-leb, lt-ltb, not-true}
use lib.Dec.{eqb, ltb, leb}
use lib.ListN.{length}
use Rattle.prelude.specs.Answer.{Answer, ok, error, bind}
use Rattle.prelude.specs.Search.{among}
use Rattle.prelude.proofs.Tests.{pick_elim, and_l, and_r, unless, unless_by, facts}
use Rattle.error.specs.Error.{Fault}
use Rattle.leb128.specs.declared.Mode.{Mode}
use Rattle.utf8.specs.Text.{is_text}
use Rattle.utf8.proofs.Laws.{text_is_text, is_text_text}
use Rattle.scan.specs.Answers.{scan_at, body_on}
use Rattle.scan.specs.declared.Head.{Head}
use Rattle.checker_value.specs.Walk.{has_target, token_fault, next_token}
use Rattle.guarantees_faults.specs.Faults as faults
use Rattle.guarantees_faults.specs.Faults.{Whole, HasWord, RefusedToken}
use Rattle.guarantees_faults.proofs.Heads.{head_of_whole, whole_body, scan_at_whole, error_of_head, Scans, scan_at_scans}

-- ---- tests

-- a test `a && b` that fails, since a excludes b
pub excluded : (a b : Bool) → (a ≡ true → b ≡ false) → a && b ≡ false
excluded true b f = f refl
excluded false b f = refl

pub excluded_by : (a b : Bool) → a && b ≡ false → a ≡ true → b ≡ false
excluded_by true b e t = e
excluded_by false b e t = absurd (false≢true t)

pub false_of : (a : Bool) → (a ≡ true → ⊥) → a ≡ false
false_of true f = absurd (f refl)
false_of false f = refl

module _ (mode : Mode) (s : List ℕ) (cap : ℕ) (done : List ℕ) (pending q : ℕ) where
  abbrev Refuses : Fault → Type 0
  Refuses f = RefusedToken mode s cap done pending q f

  abbrev inner : Bool
  inner = ltb 0 pending

  -- ---- what the walk answers

  module _ (w : HasWord mode s cap done pending q) where
    next_scanned : next_token mode s cap done pending q ≡ bind (scan_at mode inner s q) (token_fault s done q)
    unfolding next_token
    next_scanned = rw (excluded (eqb pending 0) (leb cap (length done)) (λ z. lt-leb cap (length done) (omega (arith, w (eqb-true _ _ z)))))

    next_bad : {f : Fault} → scan_at mode inner s q ≡ error f → next_token mode s cap done pending q ≡ error f
    unfolding bind
    next_bad e = next_scanned ∙ rw e

    next_whole : {h n : ℕ} {b : List ℕ} (x : Whole mode s inner q h n b)
        → next_token mode s cap done pending q ≡ token_fault s done q (head_of_whole mode s inner q x)
    unfolding bind
    next_whole x = next_scanned ∙ rw (scan_at_whole mode s inner q x)

  pub error_of_refused : {f : Fault} → Refuses f → next_token mode s cap done pending q ≡ error f
  unfolding next_token token_fault has_target
  error_of_refused (faults.full z c) = rw (eq-eqb _ _ z, le-leb _ _ c)
  error_of_refused (faults.head w x) = next_bad w (error_of_head mode s inner q x)
  error_of_refused (faults.text w x four wrong) =
      next_whole w x ∙ rw (eq-eqb _ _ four, whole_body mode s inner q x, false_of _ (λ t. wrong (is_text_text _ t)))
  error_of_refused (faults.target {h} {n} w x text ref wrong) =
      let body = whole_body mode s inner q x in
      let fine = unless (eqb (h / 16) 4) (is_text (body_on s (head_of_whole mode s inner q x))) (λ e. rw body (text_is_text (text (eqb-true _ _ e)))) in
      next_whole w x ∙ rw (fine, le-leb _ _ ref, excluded (ltb n q) (among (q - n - 1) done) (λ l. wrong (omega facts)))

  -- ---- what the walk answers is a row

  abbrev Takes : Answer Fault Head → Type 0
  Takes (ok h) = Unit {0}
  Takes (error f) = Refuses f

  module _ (w : HasWord mode s cap done pending q) where
    whole_takes : {h n : ℕ} {b : List ℕ} (x : Whole mode s inner q h n b) → Takes (token_fault s done q (head_of_whole mode s inner q x))
    unfolding token_fault has_target
    whole_takes {h} {n} {b} x =
        let is : is_text (body_on s (head_of_whole mode s inner q x)) ≡ is_text b = ap is_text (whole_body mode s inner q x) in
        pick_elim Takes (eqb (h / 16) 4 && not (is_text (body_on s (head_of_whole mode s inner q x))))
        (λ e. faults.text w x (eqb-true _ _ (and_l (eqb (h / 16) 4) _ e))
        (λ t. false≢true (sym (not-true _ (and_r (eqb (h / 16) 4) _ e)) ∙ is ∙ text_is_text t)))
        (λ fine. pick_elim Takes (leb 14 (h / 16) && not (ltb n q && among (q - n - 1) done))
        (λ e. faults.target w x (λ four. is_text_text b (sym is ∙ unless_by (eqb (h / 16) 4) _ fine (eq-eqb _ _ four)))
        (leb-true _ _ (and_l (leb 14 (h / 16)) _ e))
        (λ l. excluded_by (ltb n q) _ (not-true _ (and_r (leb 14 (h / 16)) _ e)) (lt-ltb n q (omega arith))))
        (λ e. tt))

    scans_takes : (a : Answer Fault Head) → Scans mode s inner q a → Takes (bind a (token_fault s done q))
    unfolding bind
    scans_takes (ok h) x = subst (λ h. Takes (token_fault s done q h)) (sym x.same) (whole_takes x.whole)
    scans_takes (error f) x = faults.head w x

  next_takes : Takes (next_token mode s cap done pending q)
  unfolding next_token
  next_takes =
      pick_elim Takes (eqb pending 0 && leb cap (length done))
      (λ e. faults.full (eqb-true _ _ (and_l (eqb pending 0) _ e)) (leb-true _ _ (and_r (eqb pending 0) _ e)))
      (λ e. scans_takes (λ z. omega (facts, excluded_by (eqb pending 0) _ e (eq-eqb _ _ z))) (scan_at mode inner s q) (scan_at_scans mode s inner q))

  pub refused_of_error : (f : Fault) → next_token mode s cap done pending q ≡ error f → Refuses f
  refused_of_error f e = subst Takes e next_takes

  -- ---- both ways

  pub refused_exactly : (f : Fault) → (next_token mode s cap done pending q ≡ error f) ↔ RefusedToken mode s cap done pending q f
  refused_exactly f = (refused_of_error f, error_of_refused)

  pub one_refusal : (f g : Fault) → RefusedToken mode s cap done pending q f → RefusedToken mode s cap done pending q g → f ≡ g
  one_refusal f g x y = let e : error f ≡ error g = sym (error_of_refused x) ∙ error_of_refused y in cc
