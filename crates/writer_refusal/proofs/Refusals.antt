-- What is known of a call that is not refused, and of one that is.
--
-- In order: a state that is not bad (`Sound`); flags that are granted (`Granted`), both ways; what decides a refusal.
use mathlib.Core.Path.{◌≡◌, refl, sym}
use mathlib.Core.Bool.{Bool, true, false, ◌&&◌, true≢false}
use Prim.Native.Nat.{ℕ, ◌≤◌, ◌<◌}
use native.Mathlib.Omega.{arith}
use lib.Dec.{eqb, ltb, leb}
use borrow.Author.Tests.{ltb-false, leb-false, eqb-false, lt-ltb, le-ltb, lt-leb}
use Rattle.prelude.specs.Pick.{pick}
use Rattle.prelude.specs.Answer.{ok, error}
use Rattle.prelude.proofs.Tests.{split, pick_cong, and_false, or_false}
use Rattle.error.specs.Error.{LIMIT}
use Rattle.writer_refusal.specs.Refusal.{bad_state, Verdict, is_ok, refusal_of}
use Rattle.writer_refusal.specs.declared.State.{State}
use Rattle.writer_refusal.specs.declared.CallFlags.{CallFlags}

-- ---- a state that is not bad

pub record Sound (s : State) (n m : ℕ) : Type 0 where
  pub inside : s.written ≤ n
  pub short : s.written ≤ LIMIT
  pub listed : s.count ≤ m
  -- the open value has a free word, and starts below the bytes written
  pub free : 0 < s.pending → s.count < m
  pub begun : 0 < s.pending → s.start < s.written

pub sound : (s : State) (n m : ℕ) → bad_state s n m ≡ false → Sound s n m
sound s n m e =
    or_false (ltb n s.written) _ e (λ a e₁.
    or_false (ltb LIMIT s.written) _ e₁ (λ b e₂.
    or_false (ltb m s.count) _ e₂ (λ c e₃. record {
      inside = ltb-false _ _ a;
      short = ltb-false _ _ b;
      listed = ltb-false _ _ c;
      free = λ h. or_false (leb m s.count) _ (pending_by h e₃) (λ d _. leb-false _ _ d);
      begun = λ h. or_false (leb m s.count) _ (pending_by h e₃) (λ _ d. leb-false _ _ d);
    })))
  where
    pending_by : {b : Bool} → 0 < s.pending → ltb 0 s.pending && b ≡ false → b ≡ false
    pending_by h e = rw (lt-ltb 0 s.pending h) at e

pub not_bad : (s : State) (n m : ℕ) → Sound s n m → bad_state s n m ≡ false
not_bad s n m h =
    rw (le-ltb n s.written h.inside, le-ltb LIMIT s.written h.short, le-ltb m s.count h.listed)
    (split 0 s.pending
    (λ p. rw (lt-ltb 0 s.pending p, lt-leb m s.count (h.free p), lt-leb s.written s.start (h.begun p)))
    (λ p. rw (le-ltb 0 s.pending p)))

-- ---- flags that are granted

-- no reason to refuse holds; in their order
pub record Granted (q : CallFlags) (short : Bool) (s : State) (n m : ℕ) : Type 0 where
  pub good : bad_state s n m ≡ false
  pub unclosed : s.closed ≡ false
  pub alike : q.alone && ltb 0 s.pending ≡ false
  pub text : q.nontext ≡ false
  pub target : q.unlisted ≡ false
  pub word : q.adds && eqb s.pending 0 && leb m s.count ≡ false
  pub fits : short ≡ false

-- past a refusal: its test failed
pub past : {X : Type 0} {u : Unit {0}} (b : Bool) (f : ℕ) (v : Verdict) → pick b (error f) v ≡ ok u → (b ≡ false → v ≡ ok u → X) → X
past true f v e k = let z : ◌≡◌ {A = ℕ} 0 1 = cc in absurd (omega arith)
past false f v e k = k refl e

pub ok_of_is_ok : (v : Verdict) → is_ok v ≡ true → v ≡ ok tt
ok_of_is_ok (ok tt) e = refl
ok_of_is_ok (error f) e = absurd (true≢false (sym e))

module _ (q : CallFlags) (short : Bool) (s : State) (n m : ℕ) where
  pub refusal_inv : {u : Unit {0}} → refusal_of q short s n m ≡ ok u → Granted q short s n m
  unfolding refusal_of
  refusal_inv e =
      past (bad_state s n m) _ _ e (λ a e₁.
      past s.closed _ _ e₁ (λ b e₂.
      past (q.alone && ltb 0 s.pending) _ _ e₂ (λ c e₃.
      past q.nontext _ _ e₃ (λ d e₄.
      past q.unlisted _ _ e₄ (λ f e₅.
      past (q.adds && eqb s.pending 0 && leb m s.count) _ _ e₅ (λ g e₆.
      past short _ _ e₆ (λ h _.
      record { good = a; unclosed = b; alike = c; text = d; target = f; word = g; fits = h })))))))

  pub refusal_ok : Granted q short s n m → refusal_of q short s n m ≡ ok tt
  unfolding refusal_of
  refusal_ok a = rw (a.good, a.unclosed, a.alike, a.text, a.target, a.word, a.fits)

  -- a word is free, for a new value or the open one
  pub word_free : q.adds ≡ true → Granted q short s n m → s.count < m
  word_free e a =
      and_false (eqb s.pending 0) (leb m s.count) (rw e at a.word)
      (λ p. (sound s n m a.good).free (omega (arith, eqb-false s.pending 0 p)))
      (λ p. leb-false _ _ p)

-- ---- what decides a refusal

-- in a bad state, the flags do not matter
pub refusal_same : (q r : CallFlags) (short : Bool) (s : State) (n m : ℕ) → (bad_state s n m ≡ false → q ≡ r)
    → refusal_of q short s n m ≡ refusal_of r short s n m
unfolding refusal_of
refusal_same q r short s n m h = pick_cong (bad_state s n m) (λ _. refl) (λ e. rw (h e))

-- while items are pending, for a call that may not come then, the other flags and the room do not matter
pub refusal_owed : (q r : CallFlags) (a b : Bool) (s : State) (n m : ℕ) → q.alone ≡ true → r.alone ≡ true → 0 < s.pending
    → refusal_of q a s n m ≡ refusal_of r b s n m
unfolding refusal_of
refusal_owed q r a b s n m e f h = rw (e, f, lt-ltb 0 s.pending h)

-- a refused call has the same reason as if it had no room
pub refusal_short : (q : CallFlags) (short : Bool) (s : State) (n m : ℕ) → is_ok (refusal_of q short s n m) ≡ false
    → refusal_of q true s n m ≡ refusal_of q short s n m
unfolding refusal_of
refusal_short q true s n m e = refl
refusal_short q false s n m e =
    other (bad_state s n m) _
    (other s.closed _
    (other (q.alone && ltb 0 s.pending) _
    (other q.nontext _
    (other q.unlisted _
    (other (q.adds && eqb s.pending 0 && leb m s.count) _
    (λ e. absurd (true≢false e))))))) e
  where
    other : (b : Bool) (f : ℕ) {v w : Verdict} → (is_ok v ≡ false → w ≡ v) → is_ok (pick b (error f) v) ≡ false → pick b (error f) w ≡ pick b (error f) v
    other true f h e = refl
    other false f h e = h e
