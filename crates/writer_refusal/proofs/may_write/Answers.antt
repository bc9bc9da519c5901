-- `writer_refusal::may_write` meets its contract: its tests pass exactly if no reason to refuse holds. If a token has room, the state is within the
-- output.
use mathlib.Core.Path.{◌≡◌, refl, sym, ◌∙◌}
use mathlib.Core.Bool.{Bool, true, false, not, ◌&&◌, ◌||◌}
use Prim.Native.Nat.{ℕ, ◌+◌, ◌≤◌, ◌<◌}
use native.Mathlib.Omega.{arith}
use lib.Dec.{eqb, ltb, leb}
use borrow.Author.Tests.{ltb-true, ltb-false, leb-false, not-true, lt-ltb, le-ltb, lt-leb}
use Rattle.prelude.proofs.Tests.{split, and_l, and_r, and_false, or_false, and_none}
use Rattle.writer_refusal.specs.Refusal.{room, is_ok, refusal_of}
use Rattle.writer_refusal.specs.declared.State.{State}
use Rattle.writer_refusal.specs.declared.CallFlags.{CallFlags}
use Rattle.writer_refusal.proofs.Refusals.{sound, not_bad, Granted, ok_of_is_ok, refusal_inv, refusal_ok, word_free}
use Rattle.writer_refusal.proofs.may_write.Goals as goal

and_true : {X : Type 0} (a b : Bool) → a && b ≡ true → (a ≡ true → b ≡ true → X) → X
and_true a b e k = k (and_l a b e) (and_r a b e)

-- tests that pass together
same_test : (a b : Bool) → (a ≡ true → b ≡ true) → (b ≡ true → a ≡ true) → a ≡ b
same_test true b f g = sym (f refl)
same_test false true f g = g refl
same_test false false f g = refl

late_not : (q : CallFlags) (short : Bool) (s : State) (n m : ℕ) → Granted q short s n m
    → ltb 0 s.pending && (q.alone || leb s.written s.start) ≡ false
late_not q short s n m a =
    split 0 s.pending
    (λ p. and_false q.alone (ltb 0 s.pending) a.alike
    (λ e. rw (e, lt-leb s.written s.start ((sound s n m a.good).begun p)) (and_none (ltb 0 s.pending)))
    (λ e. rw e))
    (λ p. rw (le-ltb 0 s.pending p))

module _ (q : CallFlags) (s : State) (n m size left : ℕ) (short : Bool) (is : short ≡ ltb (room s n) (size + left))
    (adds : q.adds ≡ true) (some : 0 < size) where
  -- the tests that the code makes
  abbrev tests : Bool
  tests =
      let late = ltb 0 s.pending && (q.alone || leb s.written s.start) in
      ltb s.count m && not s.closed && not late && not (q.nontext || q.unlisted) && not short

  granted : tests ≡ true → Granted q short s n m
  granted e =
      and_true _ (not short) e (λ e₁ f.
      and_true _ (not (q.nontext || q.unlisted)) e₁ (λ e₂ w.
      and_true _ (not (ltb 0 s.pending && (q.alone || leb s.written s.start))) e₂ (λ e₃ l.
      and_true (ltb s.count m) (not s.closed) e₃ (λ c u.
      or_false q.nontext q.unlisted (not-true _ w) (λ text target.
      let fits = not-true _ f in
      let room : size + left ≤ room s n = ltb-false _ _ (sym is ∙ fits) in
      let word : s.count < m = ltb-true _ _ c in
      let late = not-true _ l in
      record {
        good = not_bad s n m (record {
          inside = omega arith;
          short = omega arith;
          listed = omega arith;
          free = λ _. word;
          begun = λ p. or_false q.alone _ (rw (lt-ltb 0 s.pending p) at late) (λ _ b. leb-false _ _ b);
        });
        unclosed = not-true _ u;
        alike = and_false (ltb 0 s.pending) (q.alone || leb s.written s.start) late
            (λ p. rw p (and_none q.alone))
            (λ p. or_false q.alone _ p (λ a _. rw a));
        text = text;
        target = target;
        word = rw (adds, lt-leb m s.count word) (and_none (eqb s.pending 0));
        fits = fits;
      })))))

  passes : Granted q short s n m → tests ≡ true
  passes a = rw (lt-ltb s.count m (word_free q short s n m adds a), a.unclosed, late_not q short s n m a, a.text, a.target, a.fits)

  may_write : tests ≡ is_ok (refusal_of q (ltb (room s n) (size + left)) s n m)
  may_write =
      rw (← is)
      (same_test tests (is_ok (refusal_of q short s n m))
      (λ e. rw (refusal_ok q short s n m (granted e)))
      (λ e. passes (refusal_inv q short s n m (ok_of_is_ok _ e))))

pub returns : goal.returns
returns c = search may_write
