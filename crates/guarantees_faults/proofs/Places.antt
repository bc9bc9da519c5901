-- The place and the number of a refusal.
--
-- In order: of a token, by its head, the number (`head_known`) and the place (`head_place`); the same in check's walk (`refused_known`,
-- `refused_place`), where FULL is of a value that has no word (`refused_full`), and BAD_TEXT of a whole text (`refused_text`).
use mathlib.Core.Path.{◌≡◌, refl, sym, ◌∙◌}
use mathlib.Core.Bool.{Bool, true, false, not, false≢true}
use mathlib.Core.List.{List, [], ◌∷◌, ◌++◌}
use Prim.Native.Nat.{ℕ, ◌/◌, ◌≤◌}
use native.Mathlib.Omega.{arith}
use lib.Dec.{ltb, eqb}
use lib.ListN.{length}
use Rattle.prelude.specs.Pick.{pick}
use Rattle.prelude.specs.Search.{among}
use Rattle.prelude.specs.Each.{Each}
use Rattle.error.specs.Error.{Fault, TRUNC, RESERVED, OVERLONG, RANGE, NESTED, BAD_TEXT, BAD_TARGET, FULL, LONG_BODY, LONG_LIST}
use Rattle.leb128.specs.declared.Mode.{Mode}
use Rattle.leb128.specs.declared.Mode.TheVariants.{Strict, Tolerant}
use Rattle.utf8.specs.Text.{Text}
use Rattle.prelude.proofs.Tables.{every}
use Rattle.values.proofs.Members.{among_more, each_every, each_among}
use Rattle.guarantees_faults.specs.Faults as faults
use Rattle.guarantees_faults.specs.Faults.{overlong_in, long_errors, BadNumber, Exceeds, Whole, RefusedHead, HasPlace, RefusedToken}

-- ---- by the head

-- what holds of the errors of a number holds of its error; likewise of a length or count
number_each : {mode : Mode} (P : ℕ → Type 0) {m : List ℕ} {e : ℕ} → P TRUNC → P RANGE → (mode ≡ Strict → P OVERLONG) → BadNumber mode m e → P e
number_each P t r o (faults.cut g h) = t
number_each P t r o (faults.tenth p b rest g h over) = r
number_each P t r o (faults.padded is p rest g h last) = o is

exceeds_each : (P : ℕ → Type 0) {k n a left e : ℕ} → P LONG_BODY → P LONG_LIST → Exceeds k n a left e → P e
exceeds_each P b l (faults.text is h) = b
exceeds_each P b l (faults.bytes is h) = b
exceeds_each P b l (faults.items is h) = l
exceeds_each P b l (faults.pairs is h) = l
exceeds_each P b l (faults.arguments is h) = l

-- the errors of a token, read as a value, and as an item if `inner` is true
abbrev pub token_errors : Mode → Bool → List ℕ
token_errors mode inner = (TRUNC ∷ RESERVED ∷ RANGE ∷ LONG_BODY ∷ LONG_LIST ∷ []) ++ (pick inner (NESTED ∷ []) [] ++ overlong_in mode)

overlong_known : {mode : Mode} (inner : Bool) → mode ≡ Strict → among OVERLONG (token_errors mode inner) ≡ true
unfolding among
overlong_known true is = rw is
overlong_known false is = rw is

module _ {mode : Mode} {s : List ℕ} {inner : Bool} {q : ℕ} where
  pub head_known : {f : Fault} → RefusedHead mode s inner q f → among f.number (token_errors mode inner) ≡ true
  unfolding among
  head_known (faults.ended l) = refl
  head_known (faults.reserved x low) = refl
  head_known (faults.nested x low item deep) = rw item
  head_known (faults.number u low x) = number_each (λ e. among e (token_errors mode inner) ≡ true) refl refl (overlong_known inner) x
  head_known (faults.over u v high) = refl
  head_known (faults.second r two x) = number_each (λ e. among e (token_errors mode inner) ≡ true) refl refl (overlong_known inner) x
  head_known (faults.float c three l) = refl
  head_known (faults.exceeds c x at) = exceeds_each (λ e. among e (token_errors mode inner) ≡ true) refl refl x

  pub head_place : {f : Fault} → RefusedHead mode s inner q f → HasPlace mode s inner q f
  unfolding among
  head_place (faults.ended l) = faults.wanted refl refl
  head_place (faults.reserved x low) = faults.wanted refl refl
  head_place (faults.nested x low item deep) = faults.wanted refl refl
  head_place (faults.number u low x) = faults.wanted (number_each (λ e. among e long_errors ≡ false) refl refl (λ is. refl) x) refl
  head_place (faults.over u v high) = faults.wanted refl refl
  head_place (faults.second r two x) = faults.wanted (number_each (λ e. among e long_errors ≡ false) refl refl (λ is. refl) x) refl
  head_place (faults.float c three l) = faults.wanted refl refl
  head_place (faults.exceeds c x at) = faults.numbers c (exceeds_each (λ e. among e long_errors ≡ true) refl refl x) at

-- the header's offset, for all errors but two
pub place_at : {mode : Mode} {s : List ℕ} {inner : Bool} {q : ℕ} {f : Fault} → HasPlace mode s inner q f → among f.number long_errors ≡ false → f.place ≡ q
place_at (faults.wanted l e) other = e
place_at (faults.numbers c l e) other = absurd (false≢true (sym other ∙ l))

-- ---- in check's walk

abbrev pub walk_errors : Mode → List ℕ
walk_errors mode = BAD_TEXT ∷ BAD_TARGET ∷ FULL ∷ token_errors mode true

-- what holds of each error of an item in the strict mode holds of each error of a token
token_each : (P : ℕ → Type 0) (mode : Mode) (inner : Bool) → Each P (token_errors Strict true) → Each P (token_errors mode inner)
token_each P Strict true h = h
token_each P Strict false (a, (b, (c, (d, (e, (nested, o)))))) = (a, (b, (c, (d, (e, o)))))
token_each P Tolerant true (a, (b, (c, (d, (e, (nested, o)))))) = (a, (b, (c, (d, (e, (nested, tt))))))
token_each P Tolerant false (a, (b, (c, (d, (e, (nested, o)))))) = (a, (b, (c, (d, (e, tt)))))

-- a test that all these pass, the error of a token passes
head_every : {mode : Mode} (p : ℕ → Bool) → every p (token_errors Strict true) ≡ true → {s : List ℕ} {inner : Bool} {q : ℕ} {f : Fault}
    → RefusedHead mode s inner q f → p f.number ≡ true
head_every {mode} p passed {inner = inner} {f = f} x =
    let each = token_each (λ e. p e ≡ true) mode inner (each_every p (token_errors Strict true) passed) in
    each_among (λ e. p e ≡ true) f.number (token_errors mode inner) each (head_known x)

-- the errors of a token are among those of the walk
walk_tokens : (mode : Mode) (inner : Bool) → every (λ e. among e (walk_errors mode)) (token_errors mode inner) ≡ true
unfolding among
walk_tokens Strict true = refl
walk_tokens Strict false = refl
walk_tokens Tolerant true = refl
walk_tokens Tolerant false = refl

-- whatever the mode, they are errors of the strict one
pub known_strict : (mode : Mode) (n : ℕ) → among n (walk_errors mode) ≡ true → among n (walk_errors Strict) ≡ true
known_strict Strict n h = h
known_strict Tolerant n h = among_more n (walk_errors Tolerant) (OVERLONG ∷ []) h

head_walks : {mode : Mode} {s : List ℕ} {inner : Bool} {q : ℕ} {f : Fault} → RefusedHead mode s inner q f → among f.number (walk_errors mode) ≡ true
head_walks {mode} {inner = inner} {f = f} x =
    let each = each_every (λ e. among e (walk_errors mode)) (token_errors mode inner) (walk_tokens mode inner) in
    each_among (λ e. among e (walk_errors mode) ≡ true) f.number (token_errors mode inner) each (head_known x)

module _ {mode : Mode} {s : List ℕ} {cap : ℕ} {done : List ℕ} {pending q : ℕ} where
  pub refused_known : {f : Fault} → RefusedToken mode s cap done pending q f → among f.number (walk_errors mode) ≡ true
  unfolding among
  refused_known (faults.full z c) = refl
  refused_known (faults.head w x) = head_walks x
  refused_known (faults.text w x four wrong) = refl
  refused_known (faults.target w x text ref wrong) = refl

  pub refused_place : {f : Fault} → RefusedToken mode s cap done pending q f → HasPlace mode s (ltb 0 pending) q f
  unfolding among
  refused_place (faults.full z c) = faults.wanted refl refl
  refused_place (faults.head w x) = head_place x
  refused_place (faults.text w x four wrong) = faults.wanted refl refl
  refused_place (faults.target w x text ref wrong) = faults.wanted refl refl

  pub refused_full : {f : Fault} → RefusedToken mode s cap done pending q f → f.number ≡ FULL → (pending ≡ 0) × (cap ≤ length done)
  refused_full (faults.full z c) e = (z, c)
  refused_full (faults.head w x) e = absurd (false≢true (rw e at (head_every (λ e. not (eqb e FULL)) refl x)))
  refused_full (faults.text w x four wrong) e = absurd (omega arith)
  refused_full (faults.target w x text ref wrong) e = absurd (omega arith)

  pub refused_text : {f : Fault} → RefusedToken mode s cap done pending q f → f.number ≡ BAD_TEXT
      → (f.place ≡ q) × ((h n : ℕ) × (b : List ℕ) × Whole mode s (ltb 0 pending) q h n b × (h / 16 ≡ 4) × (Text b → ⊥))
  refused_text (faults.full z c) e = absurd (omega arith)
  refused_text (faults.head w x) e = absurd (false≢true (rw e at (head_every (λ e. not (eqb e BAD_TEXT)) refl x)))
  refused_text (faults.text {h} {n} {b} w x four wrong) e = (refl, (h, n, b, x, four, wrong))
  refused_text (faults.target w x text ref wrong) e = absurd (omega arith)
