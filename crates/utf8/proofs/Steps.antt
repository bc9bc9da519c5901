-- The steps of the test, as the code takes them.
--
-- In order: a first byte, row by row of the table; the bytes due of a character, from an index on; plain bytes.
use mathlib.Core.Path.{◌≡◌, refl, sym, ap, ◌∙◌}
use mathlib.Core.Bool.{Bool, true, false}
use mathlib.Core.List.{List, [], ◌∷◌, append-nil}
use mathlib.Core.Option.{Option, some, none}
use Prim.Native.Nat.{ℕ, zero, suc, ◌+◌, ◌-◌, ◌≤◌, ◌<◌}
use native.Mathlib.Nat.{not-suc-le-zero}
use native.Mathlib.Numerals.{add-one, sub-one}
use native.Mathlib.Omega.{arith}
use lib.Dec.{ltb, leb-zero}
use lib.ListN.{length, get_or, take, drop, replicate, length-drop, take-append-drop, drop_of_length-le}
use lib.Seq.{drop-cons, drop-drop, take_all, take-take, length-take-le}
use borrow.Author.Tests.{le-leb, lt-leb, lt-ltb, ltb-true}
use Rattle.std.specs.Prelude.{Some}
use Rattle.prelude.specs.Pick.{pick}
use Rattle.prelude.proofs.Tests.{split, and_l, and_r}
use Rattle.utf8_plain.specs.Plain.{Plain, plain_front}
use Rattle.utf8_plain.proofs.Laws.{plain_later, front_plain, front_le}
use Rattle.utf8.specs.Text.{Range, range, continuation, forms, within, lead, next, complete, text_from, is_text}
use Rattle.utf8.specs.Internal.{ranges, due_of, allowed}
use Rattle.utf8.specs.declared.Due.{Due}
use Rattle.utf8.proofs.Laws.{within_yes, text_none, is_text_plain}

-- ---- a first byte

module _ (b : ℕ) where
  pub within_zero_le : (h : ℕ) → b ≤ h → within (range 0 h) b ≡ true
  within_zero_le h l = within_yes (range 0 h) b (omega arith) l

  pub within_zero_gt : (h : ℕ) → h < b → within (range 0 h) b ≡ false
  within_zero_gt h l = rw (leb-zero, lt-leb)

  module _ (x : ℕ) where
    pub within_one : b ≡ x → within (range x x) b ≡ true
    within_one e = within_yes (range x x) b (omega arith) (omega arith)

    pub within_other : (b ≡ x → ⊥) → within (range x x) b ≡ false
    within_other e = split b x (λ less. rw (lt-leb x b)) (λ more. let over : x < b = omega arith in rw (le-leb x b, lt-leb b x))

  module _ (r : Range) (f : List Range) (fs : List (List Range)) where
    pub lead_same : within r b ≡ true → some f ≡ lead ((r ∷ f) ∷ fs) b
    unfolding lead
    lead_same e = rw e

    pub lead_other : {due : Option (List Range)} → within r b ≡ false → due ≡ lead fs b → due ≡ lead ((r ∷ f) ∷ fs) b
    unfolding lead
    lead_other e h = rw e h

  -- what the code has made is d
  pub lead_made : {due d : Due} → due ≡ d → due_of (Some d) ≡ lead forms b → due_of (Some due) ≡ lead forms b
  lead_made e h = ap (λ d. due_of (Some d)) e ∙ h

  pub lead_nil : none ≡ lead [] b
  unfolding lead
  lead_nil = refl

pub ruleset rows = (lead_made, within_zero_le, within_zero_gt, within_one, within_other, lead_same, lead_other, lead_nil, arith)

-- ---- the bytes due of a character

continuations : (n : ℕ) → replicate n continuation ≡ ranges n 0x80 0xBF
continuations zero = refl
continuations (suc n) = refl

-- n ranges are due, the next from lo to hi
module _ (lo hi : ℕ) where
  next_due : (n b : ℕ) → 0 < n → next (some (ranges n lo hi)) b ≡ pick (within (range lo hi) b) (some (ranges (n - 1) 0x80 0xBF)) none
  unfolding next
  next_due zero b p = absurd (not-suc-le-zero p)
  next_due (suc n) b p = rw (sub-one (suc n), continuations n)

  complete_due : (n : ℕ) → 0 < n → complete (some (ranges n lo hi)) ≡ false
  complete_due zero p = absurd (not-suc-le-zero p)
  complete_due (suc n) p = refl

pub text_first : (s : List ℕ) {due : Option (List Range)} → 0 < length s → due ≡ lead forms (get_or s 0 0) → text_from due (drop 1 s) ≡ is_text s
unfolding text_from next
text_first [] p e = elim p [ ]
text_first (b ∷ s) p e = rw e

pub text_never : (s : List ℕ) → 0 < length s → none ≡ lead forms (get_or s 0 0) → false ≡ is_text s
text_never s p e = sym (text_none _) ∙ text_first s p e

pub allowed_lt : (s : List ℕ) (i : ℕ) (d : Due) → true ≡ allowed s i d → i < length s
unfolding allowed
allowed_lt s i d e = ltb-true i (length s) (and_l _ _ (sym e))

-- the bytes from i on give the answer a
module _ (s : List ℕ) (i : ℕ) (d : Due) {a : Bool} (inv : text_from (due_of (Some d)) (drop i s) ≡ a) where
  module _ (p : 0 < d.left) where
    incomplete : length s ≤ i → false ≡ a
    unfolding text_from
    incomplete h = sym (complete_due d.low d.high d.left p) ∙ (rw drop_of_length-le at inv)

    after : (h : i < length s)
        → text_from (pick (within (range d.low d.high) (get_or s i 0)) (some (ranges (d.left - 1) 0x80 0xBF)) none) (drop (suc i) s) ≡ a
    unfolding text_from
    after h = rw (← next_due d.low d.high d.left (get_or s i 0) p) (rw (drop-cons s i 0 h) at inv)

    pub text_bad : false ≡ allowed s i d → false ≡ a
    unfolding allowed
    text_bad e =
        split i (length s) (λ h. let no : within (range d.low d.high) (get_or s i 0) ≡ false = rw (lt-ltb i (length s)) at (sym e) in
        sym (text_none _) ∙ (rw no at (after h))) incomplete

    pub text_next : true ≡ allowed s i d → text_from (some (ranges (d.left - 1) 0x80 0xBF)) (drop (i + 1) s) ≡ a
    unfolding allowed
    text_next e = rw add-one (rw (and_r (ltb i (length s)) _ (sym e)) at (after (allowed_lt s i d e)))

-- the character has two bytes
module _ (s : List ℕ) (d : Due) (p : 0 < length s) (e : due_of (Some d) ≡ lead forms (get_or s 0 0)) (one : d.left ≡ 1) where
  pub two_next : true ≡ allowed s 1 d → is_text (drop 2 s) ≡ is_text s
  two_next f = rw one at (text_next s 1 d (text_first s p e) (omega arith) f)

  pub two_bad : false ≡ allowed s 1 d → false ≡ is_text s
  two_bad f = text_bad s 1 d (text_first s p e) (omega arith) f

-- after the last character
pub text_all : (s : List ℕ) {a : Bool} → is_text s ≡ a → length s ≡ 0 → true ≡ a
unfolding text_from
text_all [] e h = e
text_all (b ∷ s) e h = absurd (omega arith)

-- ---- plain bytes

pub plain_all : (s : List ℕ) → Plain s → true ≡ is_text s
unfolding text_from
plain_all s p = sym (is_text_plain s [] p) ∙ rw append-nil

pub text_after_plain : (s : List ℕ) (n : ℕ) → Plain (take n s) → is_text (drop n s) ≡ is_text s
text_after_plain s n p = sym (is_text_plain (take n s) (drop n s) p) ∙ rw take-append-drop

module _ (s : List ℕ) (i : ℕ) {a : Bool} (inv : is_text (drop i s) ≡ a) where
  pub plain_next : (n : ℕ) → Plain (take n (drop i s)) → is_text (drop (i + n) s) ≡ a
  plain_next n p = (rw drop-drop at (text_after_plain (drop i s) n p)) ∙ inv

  pub plain_byte : i < length s → get_or s i 0 < 0x80 → is_text (drop (i + 1) s) ≡ a
  plain_byte h p = plain_next 1 (rw (drop-cons s i 0 h) (p, tt))

  -- the last eight bytes are plain, and those from i on are among them
  pub plain_last : 8 ≤ length s → length s - 8 ≤ i → Plain (take 8 (drop (length s - 8) s)) → true ≡ a
  plain_last l h p =
      let own : length (drop (length s - 8) s) ≤ 8 = rw length-drop (omega arith) in
      plain_all (drop i s) (plain_later s (length s - 8) i h (rw (take_all 8 (drop (length s - 8) s) own) at p)) ∙ inv

-- n bytes of the word at i are plain
module _ (s : List ℕ) (i n : ℕ) (e : n ≡ plain_front (take 8 (drop i s))) (h : i + 8 ≤ length s) where
  front_few : n ≤ 8
  front_few =
      let own : length (take 8 (drop i s)) ≡ 8 = length-take-le 8 (drop i s) (rw length-drop (omega arith)) in
      omega (arith, e, own, front_le (take 8 (drop i s)))

  pub front_within : i + n ≤ length s
  front_within = omega (arith, front_few)

  pub front_next : is_text (drop (i + n) s) ≡ is_text (drop i s)
  front_next =
      let plain : Plain (take n (take 8 (drop i s))) = rw e (front_plain (take 8 (drop i s))) in
      plain_next s i refl n (rw (take-take n 8 (drop i s) front_few) at plain)
