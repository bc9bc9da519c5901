-- A file as check reads it: its region, and the delta byte.
--
-- In order: a file is refused at once (`at_once`), or is a region and a delta byte (`shape`), and then check walks the
-- region (`check_in_whole`); the entry that the delta byte names, or that it names none (`entered_named`,
-- `entered_none`, `entered_answer`); what an answer says: about check's table (`answer_ok`, `answer_error`), about the
-- walk of a file that is accepted (`found_ok`), and about where a file failed (`failed`).
use mathlib.Core.Path.{◌≡◌, refl, sym, ap, ◌∙◌, subst}
use Prim.Native.Nat.{ℕ, suc, ◌+◌, ◌-◌, ◌≤◌, ◌<◌}
use mathlib.Core.Bool.{true, false, ◌&&◌}
use mathlib.Core.List.{List, [], ◌∷◌, ◌++◌}
use native.Mathlib.Omega.{arith}
use borrow.Author.Tests.{eq-eqb, ne_eqb, lt-ltb, le-ltb, ltb-true}
use lib.Dec.{ltb}
use lib.ListN.{length, take, get_or, length-append, drop_of_length-le}
use lib.Seq.{split_at, take-append_seam, get_or-append_seam}
use Rattle.prelude.specs.Answer.{Answer, ok, error, bind}
use Rattle.prelude.specs.Bytes.{Bytes}
use Rattle.prelude.specs.Search.{among}
use Rattle.prelude.proofs.Tests.{pick_elim, split, and_l, and_r}
use Rattle.prelude.proofs.Parts.{bytes_front}
use Rattle.prelude.proofs.Readers.{bind_ok_by, bind_error_by}
use Rattle.error.specs.Error.{Fault, fault, LIMIT, EMPTY, TOO_LONG, BAD_ENTRY}
use Rattle.leb128.specs.declared.Mode.{Mode}
use Rattle.checker_value.specs.Walk.{between, starts_from}
use Rattle.checker.specs.Check.{entry_at, check_in, listed}

-- ---- the shape of a file

-- a region and a delta byte
pub record Whole (file : List ℕ) : Type 0 where
  pub region : List ℕ
  pub delta : ℕ
  pub short : length file ≤ LIMIT
  pub same : file ≡ region ++ (delta ∷ [])

pub whole : (file : List ℕ) → 1 ≤ length file → length file ≤ LIMIT → Whole file
whole file some short =
    let p = length file - 1 in
    record {
      region = take p file;
      delta = get_or file p 0;
      short = short;
      same = split_at file p 0 (omega arith) ∙ rw (drop_of_length-le file {i = suc p} (omega arith));
    }

-- or else it is refused at once, whatever the table
pub data AtOnce (file : List ℕ) (f : Fault) : Type 0 where
  empty : length file ≡ 0 → f ≡ fault EMPTY 0 → AtOnce file f
  long : LIMIT < length file → f ≡ fault TOO_LONG 0 → AtOnce file f

pub at_once : (mode : Mode) (file : List ℕ) (f : Fault) (cap : ℕ) → AtOnce file f → error f ≡ check_in mode file cap
unfolding check_in
at_once mode file f cap (empty z e) = rw (e, eq-eqb (length file) 0 z)
at_once mode file f cap (long l e) = rw (e, ne_eqb (length file) 0 (λ z. omega arith), lt-ltb _ _ l)

pub data Shape (file : List ℕ) : Type 0 where
  refused : (f : Fault) → AtOnce file f → Shape file
  read : Whole file → Shape file

pub shape : (file : List ℕ) → Shape file
shape file =
    split 0 (length file)
    (λ some. split LIMIT (length file) (λ l. refused (fault TOO_LONG 0) (long l refl)) (λ short. read (whole file some short)))
    (λ none. refused (fault EMPTY 0) (empty (omega arith) refl))

-- check's answer, given the starts of a region's values, with the delta byte d at p after the region
abbrev pub entered : ℕ → ℕ → List ℕ → Answer Fault ((List ℕ) × ℕ)
entered p d done = bind (entry_at p d done) (λ e. ok (done, e))

check_in_region : (mode : Mode) (s : List ℕ) (d cap : ℕ) → length (s ++ (d ∷ [])) ≤ LIMIT
    → check_in mode (s ++ (d ∷ [])) cap ≡ bind (starts_from mode s cap (between 0 [])) (entered (length s) d)
unfolding check_in
check_in_region mode s d cap short =
    let n : length (s ++ (d ∷ [])) ≡ length s + 1 = length-append s (d ∷ []) in
    let p : length s + 1 - 1 ≡ length s = omega arith in
    rw (n, ne_eqb (length s + 1) 0 (λ z. omega arith), le-ltb LIMIT (length s + 1) (omega arith), p, take-append_seam, get_or-append_seam)

module _ (file : List ℕ) (w : Whole file) where
  pub length_whole : length file ≡ length w.region + 1
  length_whole = ap length w.same ∙ length-append w.region (w.delta ∷ [])

  pub region_whole : take (length file - 1) file ≡ w.region
  region_whole =
      let len : length file - 1 ≡ length w.region = omega (arith, length_whole) in
      rw len (ap (take (length w.region)) w.same ∙ take-append_seam w.region (w.delta ∷ []))

  pub bytes_whole : Bytes file → Bytes w.region
  bytes_whole b = bytes_front w.region (w.delta ∷ []) (subst Bytes w.same b)

  pub check_in_whole : (mode : Mode) (cap : ℕ)
      → check_in mode file cap ≡ bind (starts_from mode w.region cap (between 0 [])) (entered (length w.region) w.delta)
  check_in_whole mode cap = ap (λ f. check_in mode f cap) w.same ∙ check_in_region mode w.region w.delta cap (rw w.same at w.short)

-- ---- the entry

pub entered_named : (p d entry : ℕ) (done : List ℕ) → entry + d + 1 ≡ p → among entry done ≡ true → ok (done, entry) ≡ entered p d done
unfolding entry_at bind
entered_named p d entry done named start =
    let e : p - d - 1 ≡ entry = omega arith in
    rw (lt-ltb d p (omega arith), e, start)

-- none of the starts `done` is the entry that the delta byte d at p would name
abbrev pub Nameless : ℕ → ℕ → List ℕ → Type 0
Nameless p d done = (e : ℕ) → e + d + 1 ≡ p → among e done ≡ false

pub entered_none : (p d : ℕ) (done : List ℕ) → Nameless p d done → error (fault BAD_ENTRY p) ≡ entered p d done
unfolding entry_at bind
entered_none p d done none = split d p (λ l. rw (lt-ltb d p l, none (p - d - 1) (omega arith))) (λ l. rw (le-ltb d p l))

abbrev Enters : ℕ → ℕ → List ℕ → Answer Fault ((List ℕ) × ℕ) → Type 0
Enters p d done (ok r) = (r.0 ≡ done) × (r.1 + d + 1 ≡ p) × (among r.1 done ≡ true)
Enters p d done (error f) = (f ≡ fault BAD_ENTRY p) × Nameless p d done

module _ (p d : ℕ) (done : List ℕ) where
  enters : Enters p d done (entered p d done)
  unfolding entry_at bind
  enters =
      pick_elim (λ a. Enters p d done (bind a (λ e. ok (done, e)))) (ltb d p && among (p - d - 1) done)
      (λ t. (refl, omega (arith, ltb-true d p (and_l (ltb d p) _ t)), and_r (ltb d p) _ t))
      (λ t. (
        refl,
        λ e named.
            let is : p - d - 1 ≡ e = omega arith in
            rw (lt-ltb d p (omega arith), is) at t,
      ))

  entered_answer : (a : Answer Fault ((List ℕ) × ℕ)) → a ≡ entered p d done → Enters p d done a
  entered_answer a e = subst (Enters p d done) (sym e) enters

-- ---- what an answer says

pub answer_ok : {X : Type 0} (cap count entry : ℕ) (a : Answer Fault ((List ℕ) × ℕ)) → (listed cap a).answer ≡ ok (count, entry)
    → ((done : List ℕ) → ok (done, entry) ≡ a → count ≡ length done → X) → X
answer_ok cap count entry (ok r) e k =
    let pair : ◌≡◌ {A = ℕ × ℕ} (length r.0, r.1) (count, entry) = cc in
    k r.0 (ap (λ (y : ℕ × ℕ). ok (r.0, y.1)) (sym pair)) (ap (λ (y : ℕ × ℕ). y.0) (sym pair))
answer_ok cap count entry (error f) e k = let z : ◌≡◌ {A = ℕ} 0 1 = cc in absurd (omega arith)

pub answer_error : (cap : ℕ) (f : Fault) (a : Answer Fault ((List ℕ) × ℕ)) → (listed cap a).answer ≡ error f → error f ≡ a
answer_error cap f (ok r) e = let z : ◌≡◌ {A = ℕ} 0 1 = cc in absurd (omega arith)
answer_error cap f (error g) e = cc

module _ (mode : Mode) {X : Type 0} (file : List ℕ) (cap : ℕ) where
  -- an accepted file: the starts that the walk yielded, and the entry
  pub found_ok : (done : List ℕ) (entry : ℕ) → ok (done, entry) ≡ check_in mode file cap
      → ((w : Whole file) → ok done ≡ starts_from mode w.region cap (between 0 []) → entry + w.delta + 1 ≡ length w.region
      → among entry done ≡ true → X)
      → X
  found_ok done entry e k = by_shape (shape file)
    where
      by_shape : Shape file → X
      by_shape (refused f a) = let q = e ∙ sym (at_once mode file f cap a) in let z : ◌≡◌ {A = ℕ} 0 1 = cc in absurd (omega arith)
      by_shape (read w) =
          bind_ok_by (starts_from mode w.region cap (between 0 [])) _ (e ∙ check_in_whole file w mode cap) (λ found walked q.
          let (same, named, start) = entered_answer (length w.region) w.delta found _ q in
          k w (rw same walked) named (rw same start))

-- where a file failed: at once, in the walk, or after it
pub data Failed (mode : Mode) (file : List ℕ) (cap : ℕ) (f : Fault) : Type 0 where
  early : AtOnce file f → Failed mode file cap f
  walking : (w : Whole file) → error f ≡ starts_from mode w.region cap (between 0 []) → Failed mode file cap f
  last : (w : Whole file) (done : List ℕ) → ok done ≡ starts_from mode w.region cap (between 0 []) → f ≡ fault BAD_ENTRY (length w.region)
      → Nameless (length w.region) w.delta done → Failed mode file cap f

pub failed : {mode : Mode} (file : List ℕ) (cap : ℕ) (f : Fault) → error f ≡ check_in mode file cap → Failed mode file cap f
failed {mode} file cap f e = by_shape (shape file)
  where
    by_shape : Shape file → Failed mode file cap f
    by_shape (refused g a) =
        let q = e ∙ sym (at_once mode file g cap a) in
        let same : f ≡ g = cc in
        rw same (early a)
    by_shape (read w) =
        bind_error_by (starts_from mode w.region cap (between 0 [])) _ (e ∙ check_in_whole file w mode cap) (walking w) (λ done walked q.
        let (is, none) = entered_answer (length w.region) w.delta done (error f) q in
        last w done walked is none)
