-- `is_text` decides the grammar: it is true for every text (`text_is_text`), and whatever it is true for is a text
-- (`is_text_text`).
--
-- In order: a byte in a range; the first ranges of the forms rise, so that a byte begins at most one form; a text passes, character by
-- character; plain bytes pass, and no other byte by itself; what passes fills the ranges due, and then is a text.
use mathlib.Core.Path.{◌≡◌, refl, sym, ap, ◌∙◌}
use mathlib.Core.Logic.{◌↔◌}
use mathlib.Core.Bool.{true, false, false≢true}
use mathlib.Core.List.{List, [], ◌∷◌, ◌++◌, Memᴰ}
use mathlib.Core.Option.{Option, some, none}
use Prim.Native.Nat.{ℕ, suc, ◌≤◌, ◌<◌}
use native.Mathlib.Omega.{arith}
use lib.Dec.{leb}
use lib.ListN.{length, drop}
use borrow.Author.Rules.{rules}
use borrow.Author.Tests.{leb-true, le-leb, lt-leb}
use Rattle.prelude.specs.Pick.{pick}
use Rattle.prelude.specs.Each.{Each}
use Rattle.prelude.proofs.Tests.{pick_elim, and_l, and_r}
use Rattle.utf8_plain.specs.Plain.{Plain}
use Rattle.utf8.specs.Text.{Range, range, forms, Matches, end, byte, Text, empty, character, within, lead, next, complete, text_from, is_text}

-- ---- the table

pub within_yes : (r : Range) (b : ℕ) → r.lo ≤ b → b ≤ r.hi → within r b ≡ true
within_yes r b l h = rw (le-leb r.lo b, le-leb b r.hi)

-- every form has a first range, none of these is empty, and they rise, from n on
abbrev Rising : ℕ → List (List Range) → Type 0
Rising n [] = Unit {0}
Rising n ([] ∷ fs) = ⊥
Rising n ((r ∷ f) ∷ fs) = (n ≤ r.lo) × (r.lo ≤ r.hi) × Rising (suc r.hi) fs

rising_forms : Rising 0 forms
rising_forms = search rules

-- a byte in the first range of a form begins that form
lead_form : (n b : ℕ) (r : Range) (f : List Range) (fs : List (List Range)) → Rising n fs → Memᴰ (r ∷ f) fs → r.lo ≤ b → b ≤ r.hi
    → (n ≤ b) × (lead fs b ≡ some f)
unfolding lead
lead_form n b r f [] e k lo hi = elim k [ ]
lead_form n b r f ([] ∷ fs) e k lo hi = absurd e
lead_form n b r f ((q ∷ g) ∷ fs) e (Memᴰ.head p) lo hi =
    let same : r ≡ q = cc in
    let above : q.lo ≤ b = rw same at lo in
    (omega arith, rw (within_yes q b above (rw same at hi)) (cc))
lead_form n b r f ((q ∷ g) ∷ fs) e (Memᴰ.tail k) lo hi =
    let h = lead_form (suc q.hi) b r f fs e.2 k lo hi in
    let past : q.hi < b = h.0 in
    let above : q.lo ≤ b = omega arith in
    (omega arith, rw (le-leb q.lo b, lt-leb b q.hi) h.1)

-- ---- a text passes

text_cons : (due : Option (List Range)) {after : Option (List Range)} (b : ℕ) (s : List ℕ) → next due b ≡ after
    → text_from due (b ∷ s) ≡ text_from after s
unfolding text_from
text_cons due b s e = ap (λ (d : Option (List Range)). text_from d s) e

text_matches : {f : List Range} {p : List ℕ} (s : List ℕ) → Matches f p → text_from (some f) (p ++ s) ≡ is_text s
unfolding next
text_matches s end = refl
text_matches s (byte {r = r} {b = b} lo hi m) = text_cons _ _ _ (rw (within_yes r b lo hi)) ∙ text_matches s m

is_text_character : {f : List Range} {p : List ℕ} (s : List ℕ) → Memᴰ f forms → Matches f p → is_text (p ++ s) ≡ is_text s
unfolding next
is_text_character s k end = refl
is_text_character s k (byte lo hi m) = text_cons _ _ _ (lead_form 0 _ _ _ forms rising_forms k lo hi).1 ∙ text_matches s m

-- plain bytes are passed at once: before what follows them, they change nothing
pub is_text_plain : (p s : List ℕ) → Plain p → is_text (p ++ s) ≡ is_text s
is_text_plain [] s h = refl
is_text_plain (b ∷ p) s h = is_text_character (p ++ s) (Memᴰ.head refl) (byte (omega arith) (omega (arith, h.0)) end) ∙ is_text_plain p s h.1

-- no form but the first has one byte
lead_long : (b : ℕ) (fs : List (List Range)) → Each (λ f. 2 ≤ length f) fs → complete (lead fs b) ≡ false
unfolding lead
lead_long b [] h = refl
lead_long b ([] ∷ fs) h = lead_long b fs h.1
lead_long b ((r ∷ []) ∷ fs) h = absurd (omega (arith, h.0))
lead_long b ((r ∷ (q ∷ f)) ∷ fs) h = pick_elim (λ o. complete o ≡ false) (within r b) (λ e. refl) (λ e. lead_long b fs h.1)

pub plain_alone : (b : ℕ) → (is_text (b ∷ []) ≡ true) ↔ Plain (b ∷ [])
unfolding text_from next lead
plain_alone b = (
  pick_elim (λ o. complete o ≡ true → Plain (b ∷ [])) (within (range 0 0x7F) b) (λ w e. (omega (arith, leb-true b 0x7F (and_r (leb 0 b) _ w)), tt))
      (λ w e. absurd (false≢true (sym (lead_long b (drop 1 forms) (search rules)) ∙ e))),
  λ p. is_text_plain (b ∷ []) [] p,
)

pub text_is_text : {s : List ℕ} → Text s → is_text s ≡ true
unfolding text_from
text_is_text empty = refl
text_is_text (character k m t) = is_text_character _ k m ∙ text_is_text t

-- ---- what passes is a text

pub text_none : (s : List ℕ) → text_from none s ≡ false
unfolding text_from next
text_none [] = refl
text_none (b ∷ s) = text_none s

module _ {X : Type 0} (b : ℕ) (s : List ℕ) where
  none_by : text_from none s ≡ true → X
  none_by e = absurd (false≢true (sym (text_none s) ∙ e))

  within_by : (r : Range) (f : List Range) (due : Option (List Range)) → text_from (pick (within r b) (some f) due) s ≡ true
      → (r.lo ≤ b → b ≤ r.hi → text_from (some f) s ≡ true → X) → (text_from due s ≡ true → X) → X
  within_by r f due e here other =
      pick_elim (λ (d : Option (List Range)). text_from d s ≡ true → X) (within r b)
      (λ w. here (leb-true _ _ (and_l (leb r.lo b) _ w)) (leb-true _ _ (and_r (leb r.lo b) _ w)))
      (λ w. other)
      e

  lead_by : (fs : List (List Range)) → text_from (lead fs b) s ≡ true
      → ((r : Range) (f : List Range) → Memᴰ (r ∷ f) fs → r.lo ≤ b → b ≤ r.hi → text_from (some f) s ≡ true → X) → X
  unfolding lead
  lead_by [] e k = none_by e
  lead_by ([] ∷ fs) e k = lead_by fs e (λ r f m. k r f (Memᴰ.tail m))
  lead_by ((r ∷ f) ∷ fs) e k =
      within_by r f (lead fs b) e (k r f (Memᴰ.head refl)) (λ e₁. lead_by fs e₁ (λ q g m. k q g (Memᴰ.tail m)))

-- bytes that match f, and then a text
data Filled : List Range → List ℕ → Type 0 where
  filled : {f : List Range} {p s : List ℕ} → Matches f p → Text s → Filled f (p ++ s)

filled_byte : {r : Range} {f : List Range} {b : ℕ} {s : List ℕ} → r.lo ≤ b → b ≤ r.hi → Filled f s → Filled (r ∷ f) (b ∷ s)
filled_byte lo hi (filled m t) = filled (byte lo hi m) t

text_of_filled : {f : List Range} {s : List ℕ} → Memᴰ f forms → Filled f s → Text s
text_of_filled k (filled m t) = character k m t

text_of_filled_nil : {s : List ℕ} → Filled [] s → Text s
text_of_filled_nil (filled end t) = t

filled_of_text_from : (f : List Range) (s : List ℕ) → text_from (some f) s ≡ true → Filled f s
unfolding text_from next
filled_of_text_from [] [] e = filled end empty
filled_of_text_from (r ∷ f) [] e = absurd (false≢true e)
filled_of_text_from [] (b ∷ s) e =
    lead_by b s forms e (λ r f k lo hi e₁. filled end (text_of_filled k (filled_byte lo hi (filled_of_text_from f s e₁))))
filled_of_text_from (r ∷ f) (b ∷ s) e =
    within_by b s r f none e (λ lo hi e₁. filled_byte lo hi (filled_of_text_from f s e₁)) (none_by b s)

pub is_text_text : (s : List ℕ) → is_text s ≡ true → Text s
is_text_text s e = text_of_filled_nil (filled_of_text_from [] s e)
