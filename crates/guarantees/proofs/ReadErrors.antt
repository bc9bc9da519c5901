-- Which errors each reading call can give, of every file: the lists of specs/Errors.antt.
--
-- In order: what holds of an answer's error, by the parts of the answer; a token that a query looks at, following, items, pairs, in any region; the queries
-- on a file (`errors_of_peek`, `errors_of_read`, `errors_of_follow`, `errors_of_body`, `errors_of_skip`, `errors_of_item`, `errors_of_lookup`); check and
-- depths (`errors_of_check`, `depths_errors_known`); no OVERLONG in the tolerant mode (`never_overlong`).
use mathlib.Core.Path.{◌≡◌, refl, sym, subst}
use mathlib.Core.Bool.{Bool, true, false, ◌||◌, or_comm, false≢true}
use mathlib.Core.List.{List, ◌∷◌}
use Prim.Native.Nat.{ℕ, zero, suc, ◌+◌, ◌-◌, ◌<◌}
use native.Mathlib.Decide.{ℕ_discrete}
use native.Mathlib.Nat.{le_refl}
use native.Mathlib.Omega.{arith}
use lib.Dec.{eqb, ltb, leb}
use lib.ListN.{length, take}
use Rattle.prelude.specs.Pick.{pick}
use Rattle.prelude.specs.Answer.{Answer, ok, error, bind}
use Rattle.prelude.specs.Search.{among}
use Rattle.prelude.specs.Each.{Each}
use Rattle.prelude.proofs.Tests.{pick_elim}
use Rattle.prelude.proofs.Tables.{every}
use Rattle.error.specs.Error.{Fault, fault, LIMIT, OVERLONG, EMPTY, TOO_LONG, NESTED, BAD_TARGET, OUTSIDE, NO_ITEM, WRONG_KIND}
use Rattle.leb128.specs.declared.Mode.{Mode}
use Rattle.leb128.specs.declared.Mode.TheVariants.{Strict, Tolerant}
use Rattle.kind.specs.Kind.{rule, immediate}
use Rattle.scan.specs.Answers.{scan_at}
use Rattle.scan.specs.declared.Head.{Head}
use Rattle.values.proofs.Members.{each_among, each_every, each_imp}
use Rattle.reader_region.specs.Region.{region_len, in_region, below, peek_in, peek_of}
use Rattle.reader_region.proofs.Laws.{pointer_lt}
use Rattle.reader_value.specs.Value.{read_in, read_of}
use Rattle.reader_items.specs.Items.{skip_items, skip_in, skip_of, starts_in, item_on, item_in, item_of}
use Rattle.reader_follow.specs.Follow.{position, follow_from, follow_in, follow_of}
use Rattle.reader_follow.proofs.Laws.{follow_from_pointer, follow_from_end, follow_from_error}
use Rattle.reader_body.specs.Body.{body_place_in, body_place_of}
use Rattle.reader_lookup.specs.Lookup.{is_key, pairs, lookup_in, lookup_of}
use Rattle.checker.specs.Check.{check_in, check_of}
use Rattle.depths.specs.Depths.{Deepened, deepen, depths_of}
use Rattle.guarantees.specs.Errors.{check_errors, read_errors, skip_errors, item_errors, body_errors, NeverOverlong}
use Rattle.guarantees_faults.proofs.Heads.{head_refused_exactly}
use Rattle.guarantees_faults.proofs.Places.{token_errors, walk_errors, head_known}
use Rattle.guarantees.proofs.Files.{empty, long, Failed, early, walking, last}
use Rattle.guarantees.proofs.Refused.{walk_known, fails}

-- what every query may give: the errors of the file and the offset, and of a token that is read as a value
abbrev common : Mode → List ℕ
common mode = EMPTY ∷ TOO_LONG ∷ OUTSIDE ∷ BAD_TARGET ∷ token_errors mode false

-- of a list of errors: an error is one of it
abbrev Errs : {A : Type 0} → List ℕ → Answer Fault A → Type 0
Errs l (ok a) = Unit {0}
Errs l (error f) = among f.number l ≡ true

module _ (l : List ℕ) where
  errs_bind : {A B : Type 0} (r : Answer Fault A) (k : A → Answer Fault B) → Errs l r → ((a : A) → Errs l (k a)) → Errs l (bind r k)
  unfolding bind
  errs_bind (ok a) k h g = g a
  errs_bind (error f) k h g = h

  errs_pick : {A : Type 0} (t : Bool) (f : Fault) (r : Answer Fault A) → among f.number l ≡ true → Errs l r → Errs l (pick t (error f) r)
  errs_pick t f r h g = pick_elim (Errs l) t (λ e. h) (λ e. g)

  -- l has the common ones
  module _ (mode : Mode) (known : Each (λ f. among f l ≡ true) (common mode)) where
    abbrev tokens : Each (λ f. among f l ≡ true) (token_errors mode false)
    tokens = known.1.1.1.1

    errs_region_len : (len at : ℕ) → Errs l (region_len len at)
    unfolding region_len
    errs_region_len len at =
        errs_pick (eqb len 0) _ _ known.0 (errs_pick (ltb LIMIT len) _ _ known.1.0
        (pick_elim (Errs l) (ltb at (len - 1)) (λ e. tt) (λ e. known.1.1.0)))

    errs_region : {A : Type 0} (file : List ℕ) (at : ℕ) (k : List ℕ → Answer Fault A) → ((s : List ℕ) → Errs l (k s)) → Errs l (in_region file at k)
    unfolding in_region
    errs_region file at k h = errs_bind (region_len (length file) at) _ (errs_region_len (length file) at) (λ n. h (take n file))

    module _ (s : List ℕ) where
      -- a token, whose own errors are among l
      errs_peek : (inner : Bool) → Each (λ f. among f l ≡ true) (token_errors mode inner) → (q : ℕ) → Errs l (peek_in mode inner s q)
      unfolding peek_in
      errs_peek inner own q =
          errs_bind (scan_at mode inner s q) _ (by_cases (scan_at mode inner s q) refl) (λ h. errs_pick (below q h) _ _ known.1.1.1.0 tt)
        where
          by_cases : (a : Answer Fault Head) → scan_at mode inner s q ≡ a → Errs l a
          by_cases (ok h) e = tt
          by_cases (error f) e = each_among _ f.number (token_errors mode inner) own (head_known ((head_refused_exactly mode s inner q f).0 e))

      errs_value : (q : ℕ) → Errs l (peek_in mode false s q)
      errs_value q = errs_peek false tokens q

      errs_follow : (k q hops : ℕ) → q < k → Errs l (follow_from mode s (position q hops))
      errs_follow zero q hops less = absurd (omega arith)
      errs_follow (suc k) q hops less = by_cases (peek_in mode false s q) refl (λ p h. errs_follow k p (hops + 1) (omega arith))
        where
          by_cases : (a : Answer Fault Head) → a ≡ peek_in mode false s q → ((p : ℕ) → p < q → Errs l (follow_from mode s (position p (hops + 1))))
              → Errs l (follow_from mode s (position q hops))
          by_cases (ok h) e more =
              elim (ℕ_discrete h.kind 15) [
                | yes k ↦
                    let lt = pointer_lt mode false s q h e k in
                    subst (Errs l) (follow_from_pointer mode s q hops h e k) (more (q - h.n - 1) (omega arith))
                | no k ↦ subst (Errs l) (follow_from_end mode s q hops h e k) tt
              ]
          by_cases (error f) e more = subst (Errs l) (follow_from_error mode s q hops f e) (subst (Errs l) (sym e) (errs_value q))

      errs_followed : (q : ℕ) → Errs l (follow_from mode s (position q 0))
      errs_followed q = errs_follow (suc q) q 0 (le_refl _)

      -- and l has NESTED
      module _ (nested : among NESTED l ≡ true) where
        errs_item : (q : ℕ) → Errs l (peek_in mode true s q)
        errs_item q = let (a, (b, (c, (d, (e, o))))) = tokens in errs_peek true (a, (b, (c, (d, (e, (nested, o)))))) q

        errs_items : (k q : ℕ) → Errs l (skip_items mode s k q)
        unfolding skip_items
        errs_items zero q = tt
        errs_items (suc k) q = errs_bind (peek_in mode true s q) _ (errs_item q) (λ h. errs_items k h.end)

        errs_starts : (q : ℕ) → Errs l (starts_in (length s) q)
        unfolding starts_in
        errs_starts q = pick_elim (Errs l) (ltb q (length s)) (λ e. tt) (λ e. tokens.0)

        errs_pairs : (at : ℕ) (key : List ℕ) → among NO_ITEM l ≡ true → (k q : ℕ) → Errs l (pairs mode s at key k q)
        unfolding pairs
        errs_pairs at key none zero q = none
        errs_pairs at key none (suc k) q =
            errs_bind (peek_in mode true s q) _ (errs_item q) (λ h.
            errs_bind (follow_from mode s (position q 0)) _ (errs_followed q) (λ m.
            pick_elim (Errs l) (is_key s key m.head) (λ t. errs_starts h.end) (λ t.
            errs_bind (peek_in mode true s h.end) _ (errs_item h.end) (λ v. errs_pairs at key none k v.end))))

-- ---- the queries on a file

-- a list has the common errors
abbrev HasCommon : Mode → List ℕ → Type 0
HasCommon mode l = Each (λ n. among n l ≡ true) (common mode)

common_more : (mode : Mode) (x : ℕ) (l : List ℕ) → HasCommon mode l → HasCommon mode (x ∷ l)
unfolding among
common_more mode x l h = each_imp (λ n. among n l ≡ true) (λ n. among n (x ∷ l) ≡ true) (λ n e. rw (e, or_comm (eqb n x) true)) (common mode) h

read_common : (mode : Mode) → HasCommon mode (read_errors mode)
unfolding among
read_common Strict = each_every (λ n. among n (read_errors Strict)) (common Strict) refl
read_common Tolerant = each_every (λ n. among n (read_errors Tolerant)) (common Tolerant) refl

module _ (mode : Mode) (file : List ℕ) (at : ℕ) (f : Fault) where
  of_file : {A : Type 0} (l : List ℕ) (k : List ℕ → Answer Fault A) → HasCommon mode l → ((s : List ℕ) → Errs l (k s)) → in_region file at k ≡ error f
      → among f.number l ≡ true
  of_file l k known h e = subst (Errs l) e (errs_region l mode known file at k h)

  pub errors_of_peek : peek_of mode file at ≡ error f → among f.number (read_errors mode) ≡ true
  errors_of_peek = let c = read_common mode in of_file _ (λ s. peek_in mode false s at) c (λ s. errs_value _ mode c s at)

  pub errors_of_read : read_of mode file at ≡ error f → among f.number (read_errors mode) ≡ true
  unfolding read_in
  errors_of_read =
      let c = read_common mode in
      of_file _ (λ s. read_in mode s at) c (λ s. errs_bind _ (peek_in mode false s at) _ (errs_value _ mode c s at) (λ h. tt))

  pub errors_of_follow : follow_of mode file at ≡ error f → among f.number (read_errors mode) ≡ true
  unfolding follow_in
  errors_of_follow =
      let c = read_common mode in
      of_file _ (λ s. follow_in mode s at) c (λ s. errs_bind _ (follow_from mode s (position at 0)) _ (errs_followed _ mode c s at) (λ m. tt))

  pub errors_of_body : body_place_of mode file at ≡ error f → among f.number (body_errors mode) ≡ true
  unfolding body_place_in among
  errors_of_body =
      let l = body_errors mode in
      let c = common_more mode WRONG_KIND (read_errors mode) (read_common mode) in
      of_file l (λ s. body_place_in mode s at) c (λ s. errs_bind l (follow_from mode s (position at 0)) _ (errs_followed l mode c s at)
      (λ m. pick_elim (Errs l) (eqb m.head.kind 4 || eqb m.head.kind 5) (λ t. tt) (λ t. refl)))

  skip_common : HasCommon mode (skip_errors mode)
  skip_common = common_more mode NESTED (read_errors mode) (read_common mode)

  pub errors_of_skip : skip_of mode file at ≡ error f → among f.number (skip_errors mode) ≡ true
  unfolding skip_in among
  errors_of_skip =
      let l = skip_errors mode in
      of_file l (λ s. skip_in mode s at) skip_common (λ s. errs_bind l (peek_in mode false s at) _ (errs_value l mode skip_common s at)
      (λ h. errs_items l mode skip_common s refl h.items h.end))

  item_common : HasCommon mode (item_errors mode)
  item_common = common_more mode NO_ITEM (WRONG_KIND ∷ skip_errors mode) (common_more mode WRONG_KIND (skip_errors mode) skip_common)

  pub errors_of_item : (i : ℕ) → item_of mode file at i ≡ error f → among f.number (item_errors mode) ≡ true
  unfolding item_in item_on among
  errors_of_item i =
      let l = item_errors mode in
      of_file l (λ s. item_in mode s at i) item_common (λ s. errs_bind l (peek_in mode false s at) _ (errs_value l mode item_common s at)
      (λ h. errs_pick l (immediate (rule h.kind)) _ _ refl (errs_pick l (leb h.items i) _ _ refl
      (errs_bind l (skip_items mode s i h.end) _ (errs_items l mode item_common s refl i h.end) (errs_starts l mode item_common s refl)))))

  pub errors_of_lookup : (key : List ℕ) → lookup_of mode file at key ≡ error f → among f.number (item_errors mode) ≡ true
  unfolding lookup_in among
  errors_of_lookup key =
      let l = item_errors mode in
      of_file l (λ s. lookup_in mode s at key) item_common (λ s. errs_bind l (peek_in mode false s at) _ (errs_value l mode item_common s at)
      (λ h. pick_elim (Errs l) (eqb h.kind 7) (λ t. errs_pairs l mode item_common s refl at key refl h.n h.end) (λ t. refl)))

-- ---- in a region, neither NO_ITEM nor WRONG_KIND, whatever the mode

abbrev region_errors : List ℕ
region_errors = skip_errors Strict

region_common : (mode : Mode) → HasCommon mode region_errors
unfolding among
region_common Strict = each_every (λ n. among n region_errors) (common Strict) refl
region_common Tolerant = each_every (λ n. among n region_errors) (common Tolerant) refl

module _ (mode : Mode) (s : List ℕ) (q : ℕ) (f : Fault) where
  pub value_known : error f ≡ peek_in mode false s q → among f.number region_errors ≡ true
  value_known e = subst (Errs region_errors) (sym e) (errs_value region_errors mode (region_common mode) s q)

  pub item_known : error f ≡ peek_in mode true s q → among f.number region_errors ≡ true
  unfolding among
  item_known e = subst (Errs region_errors) (sym e) (errs_item region_errors mode (region_common mode) s refl q)

  pub follow_known : error f ≡ follow_from mode s (position q 0) → among f.number region_errors ≡ true
  follow_known e = subst (Errs region_errors) (sym e) (errs_followed region_errors mode (region_common mode) s q)

pub region_known : (len at : ℕ) (f : Fault) → error f ≡ region_len len at → among f.number region_errors ≡ true
region_known len at f e = subst (Errs region_errors) (sym e) (errs_region_len region_errors Strict (region_common Strict) len at)

-- pairs may also give NO_ITEM
pub pairs_known : (mode : Mode) (s : List ℕ) (at : ℕ) (key : List ℕ) (k q : ℕ) (f : Fault) → error f ≡ pairs mode s at key k q
    → among f.number (NO_ITEM ∷ region_errors) ≡ true
unfolding among
pairs_known mode s at key k q f e =
    let l = NO_ITEM ∷ region_errors in
    subst (Errs l) (sym e) (errs_pairs l mode (common_more mode NO_ITEM region_errors (region_common mode)) s refl at key refl k q)

-- ---- check and depths

walk_among : (mode : Mode) → every (λ n. among n (check_errors mode)) (walk_errors mode) ≡ true
unfolding among
walk_among Strict = refl
walk_among Tolerant = refl

pub errors_of_check : (mode : Mode) (file : List ℕ) (cap : ℕ) (f : Fault) → (check_of mode file cap).answer ≡ error f → among f.number (check_errors mode) ≡ true
unfolding among
errors_of_check mode file cap f e = by_failed (fails mode file cap f e)
  where
    by_failed : Failed mode file cap f → among f.number (check_errors mode) ≡ true
    by_failed (early (empty z q)) = rw q
    by_failed (early (long l q)) = rw q
    by_failed (walking w q) =
        each_among (λ n. among n (check_errors mode) ≡ true) f.number (walk_errors mode) (each_every _ (walk_errors mode) (walk_among mode))
        (walk_known mode w.region cap f q)
    by_failed (last w done walked q none) = rw q

pub depths_errors_known : (mode : Mode) (file : List ℕ) (cap room : ℕ) (f : Fault) → (depths_of mode file cap room).answer ≡ error f
    → among f.number (check_errors mode) ≡ true
unfolding depths_of check_of among
depths_errors_known mode file cap room f e = by_cases (check_in mode file cap) refl e
  where
    by_cases : (a : Answer Fault ((List ℕ) × ℕ)) → check_in mode file cap ≡ a → (deepen mode (take (length file - 1) file) cap room a).answer ≡ error f
        → among f.number (check_errors mode) ≡ true
    by_cases (ok r) q e =
        subst (Errs (check_errors mode)) e (pick_elim (λ (d : Deepened). Errs (check_errors mode) d.answer) (ltb room (length r.0)) (λ t. refl) (λ t. tt))
    by_cases (error g) q e = errors_of_check mode file cap f (rw q e)

-- ---- the tolerant mode

pub never_overlong : NeverOverlong
unfolding among
never_overlong = record {
  check = λ file cap p e. false≢true (errors_of_check Tolerant file cap (fault OVERLONG p) e);
  depths = λ file cap room p e. false≢true (depths_errors_known Tolerant file cap room (fault OVERLONG p) e);
  peek = λ file at p e. false≢true (errors_of_peek Tolerant file at (fault OVERLONG p) e);
  read = λ file at p e. false≢true (errors_of_read Tolerant file at (fault OVERLONG p) e);
  skip = λ file at p e. false≢true (errors_of_skip Tolerant file at (fault OVERLONG p) e);
  item = λ file at i p e. false≢true (errors_of_item Tolerant file at (fault OVERLONG p) i e);
  follow = λ file at p e. false≢true (errors_of_follow Tolerant file at (fault OVERLONG p) e);
  lookup = λ file at key p e. false≢true (errors_of_lookup Tolerant file at (fault OVERLONG p) key e);
  body = λ file at p e. false≢true (errors_of_body Tolerant file at (fault OVERLONG p) e);
}
