-- Lookup answers, and refuses, exactly as specs/Queries.antt says, on every file.
--
-- In order: whether an item that was followed is the key; a pair that is refused, one that has the key, one that has another, and pairs one after the
-- other; what lookup answers to the rows (`lookup_is`); its answer is a row (`lookup_row`); both ways.
use mathlib.Core.Path.{◌≡◌, refl, sym, ◌∙◌, ap}
use mathlib.Core.Logic.{◌↔◌}
use mathlib.Core.Bool.{true, false, true≢false}
use mathlib.Core.List.{List}
use Prim.Native.Nat.{ℕ, zero, suc, ◌<◌}
use native.Mathlib.Omega.{arith}
use borrow.Author.Tests.{eqb-true, eqb-false, eq-eqb, ne_eqb, ltb-true, ltb-false, lt-ltb, le-ltb}
use lib.Dec.{eqb, ltb}
use lib.ListN.{length}
use Rattle.prelude.specs.Pick.{pick}
use Rattle.prelude.specs.Answer.{Answer, ok, error, bind}
use Rattle.prelude.proofs.Tests.{pick_elim, and_l, and_r}
use Rattle.error.specs.Error.{Fault, fault, NO_ITEM}
use Rattle.leb128.specs.declared.Mode.{Mode}
use Rattle.reader_region.specs.Region.{peek_in}
use Rattle.reader_items.specs.Items.{starts_in}
use Rattle.reader_lookup.specs.Lookup.{same, is_key, pairs, lookup_in, lookup_of}
use Rattle.reader_lookup.proofs.Laws.{same_is}
use Rattle.guarantees_faults.specs.Queries as queries
use Rattle.guarantees_faults.specs.Queries.{AnsweredQuery, RefusedQuery, Read, head_of, KeyItem, IsKey, OtherPairs, RefusedPair, FirstPair, Finds}
use Rattle.guarantees_faults.specs.Queries.{RefusedLookup}
use Rattle.guarantees_faults.proofs.Refused.{excluded, false_of}
use Rattle.guarantees_faults.proofs.Queries.{Row, Exactly, query_exactly, body_read, peek_on, peek_fails, peek_elim}
use Rattle.guarantees_faults.proofs.Queries.{follow_reaches, follow_refused, follow_elim}

module _ (mode : Mode) (s : List ℕ) (at : ℕ) (key : List ℕ) where
  -- ---- keys

  module _ {q : ℕ} (k : KeyItem mode s q) where
    key_is : IsKey mode s key k → is_key s key (head_of mode s k.v) ≡ true
    key_is (text, equal) = rw (body_read mode s false _ k.v, text, equal, (same_is key key).1 refl)

    is_other : (IsKey mode s key k → ⊥) → is_key s key (head_of mode s k.v) ≡ false
    is_other other =
        rw (body_read mode s false _ k.v) (excluded (eqb k.v.kind 4) (same k.v.body key) (λ e.
        false_of (same k.v.body key) (λ t. other (eqb-true _ 4 e, (same_is k.v.body key).0 t))))

    key_of : is_key s key (head_of mode s k.v) ≡ true → IsKey mode s key k
    key_of t =
        let text = and_l (eqb k.v.kind 4) _ t in
        (eqb-true k.v.kind 4 text, sym (body_read mode s false _ k.v) ∙ (same_is _ key).0 (and_r (eqb k.v.kind 4) _ t))

  -- ---- pairs

  module _ (n : ℕ) {q : ℕ} where
    key_on : (k : KeyItem mode s q) → pairs mode s at key (suc n) q
        ≡ pick (is_key s key (head_of mode s k.v)) (starts_in (length s) k.item.end)
        (bind (peek_in mode true s k.item.end) (λ h. pairs mode s at key n h.end))
    unfolding pairs bind
    key_on k = peek_on mode s true q _ k.item ∙ rw (follow_reaches mode s k.reaches 0)

    pair_stop : {f : Fault} → RefusedPair mode s key q f → pairs mode s at key (suc n) q ≡ error f
    unfolding pairs bind starts_in
    pair_stop (queries.item x) = peek_fails mode s true q _ x
    pair_stop (queries.follow r x) = peek_on mode s true q _ r ∙ rw (follow_refused mode s x 0)
    pair_stop (queries.ended k own out) = key_on k ∙ rw (key_is k own, le-ltb k.item.end (length s) (omega arith))
    pair_stop (queries.value k other x) = key_on k ∙ rw (is_other k other) (peek_fails mode s true k.item.end _ x)

    pair_found : (k : KeyItem mode s q) → IsKey mode s key k → k.item.end < length s → pairs mode s at key (suc n) q ≡ ok k.item.end
    unfolding starts_in
    pair_found k own l = key_on k ∙ rw (key_is k own, lt-ltb _ _ l)

    pair_on : (k : KeyItem mode s q) → (IsKey mode s key k → ⊥) → (v : Read mode s true k.item.end)
        → pairs mode s at key (suc n) q ≡ pairs mode s at key n v.end
    pair_on k other v = key_on k ∙ rw (is_other k other) (peek_on mode s true k.item.end _ v)

  -- what the pair after others answers, if more than those are counted
  others_on : (n : ℕ) {i q p : ℕ} {a : Answer Fault ℕ} → i < n → OtherPairs mode s key i q p → ((m : ℕ) → pairs mode s at key (suc m) p ≡ a)
      → pairs mode s at key n q ≡ a
  others_on zero l x last = absurd (omega arith)
  others_on (suc n) l queries.none last = last n
  others_on (suc n) l (queries.next k other v x) last = pair_on n k other v ∙ others_on n (omega arith) x last

  pairs_none : {n q e : ℕ} → OtherPairs mode s key n q e → pairs mode s at key n q ≡ error (fault NO_ITEM at)
  unfolding pairs
  pairs_none queries.none = refl
  pairs_none (queries.next {n} k other v x) = pair_on n k other v ∙ pairs_none x

  lookup_is : (a : Answer Fault ℕ) → Row (Finds mode s at key) (RefusedLookup mode s at key) a → lookup_in mode s at key ≡ a
  unfolding lookup_in
  lookup_is (ok x) y =
      let r = y.value in
      let o = y.pair in
      let low : o.own.item.end < length s = omega (arith, o.inside, o.place) in
      peek_on mode s false at _ r
      ∙ rw (eq-eqb r.kind 7 y.kind) (others_on r.n o.less o.others (λ m. pair_found m o.own o.is_key low) ∙ ap ok (sym o.place))
  lookup_is (error f) (queries.value x) = peek_fails mode s false at _ x
  lookup_is (error f) (queries.kind r other) = peek_on mode s false at _ r ∙ rw (ne_eqb r.kind 7 other)
  lookup_is (error f) (queries.pair {i} r map less x y) =
      let in_count : i < r.n = omega arith in
      peek_on mode s false at _ r ∙ rw (eq-eqb r.kind 7 map) (others_on r.n in_count x (λ m. pair_stop m y))
  lookup_is (error f) (queries.missing r map x) = peek_on mode s false at _ r ∙ rw (eq-eqb r.kind 7 map) (pairs_none x)

  -- ---- its answer is a row

  -- of n pairs from q on
  data Stops (n q : ℕ) : Fault → Type 0 where
    pair : {i p : ℕ} {f : Fault} → i < n → OtherPairs mode s key i q p → RefusedPair mode s key p f → Stops n q f
    missing : {e : ℕ} → OtherPairs mode s key n q e → Stops n q (fault NO_ITEM at)

  abbrev Searches : ℕ → ℕ → Answer Fault ℕ → Type 0
  Searches n q = Row (FirstPair mode s key n q) (Stops n q)

  searches_on : (n : ℕ) {q : ℕ} (k : KeyItem mode s q) → (IsKey mode s key k → ⊥) → (v : Read mode s true k.item.end) (a : Answer Fault ℕ)
      → Searches n v.end a
      → Searches (suc n) q a
  searches_on n k other v (ok x) y = record {
    i = suc y.i;
    less = omega (arith, y.less);
    p = y.p;
    others = queries.next k other v y.others;
    own = y.own;
    is_key = y.is_key;
    place = y.place;
    inside = y.inside;
  }
  searches_on n k other v (error f) (pair {i} l x y) = pair {i = suc i} (omega arith) (queries.next k other v x) y
  searches_on n k other v (error f) (missing x) = missing (queries.next k other v x)

  pairs_row : (n q : ℕ) → Searches n q (pairs mode s at key n q)
  unfolding pairs starts_in
  pairs_row zero q = missing queries.none
  pairs_row (suc n) q =
      let P : Answer Fault ℕ → Type 0 = Searches (suc n) q in
      let first : (f : Fault) → RefusedPair mode s key q f → Stops (suc n) q f = λ f x. pair {i = 0} (omega arith) queries.none x in
      peek_elim mode s true q _ P (λ f x. first f (queries.item x)) (λ r.
      follow_elim mode s P _ q (λ f x. first f (queries.follow r x)) (λ hops p v x.
      let k : KeyItem mode s q = record { item = r; hops = hops; p = p; v = v; reaches = x } in
      pick_elim P (is_key s key (head_of mode s v))
      (λ t. let own = key_of k t in
      pick_elim P (ltb r.end (length s))
      (λ e. record { i = 0; less = omega arith; p = q; others = queries.none; own = k; is_key = own; place = refl; inside = ltb-true _ _ e })
      (λ out. first _ (queries.ended k own (ltb-false _ _ out))))
      (λ t. let other : IsKey mode s key k → ⊥ = λ own. true≢false (sym (key_is k own) ∙ t) in
      peek_elim mode s true r.end _ P (λ f y. first f (queries.value k other y))
      (λ w. searches_on n k other w (pairs mode s at key n w.end) (pairs_row n w.end)))))

  lookup_row : Row (Finds mode s at key) (RefusedLookup mode s at key) (lookup_in mode s at key)
  unfolding lookup_in
  lookup_row =
      let P : Answer Fault ℕ → Type 0 = Row (Finds mode s at key) (RefusedLookup mode s at key) in
      peek_elim mode s false at _ P (λ f x. queries.value x) (λ r.
      pick_elim P (eqb r.kind 7) (λ e. by_cases r (eqb-true r.kind 7 e) (pairs mode s at key r.n r.end) (pairs_row r.n r.end))
      (λ e. queries.kind r (eqb-false r.kind 7 e)))
    where
      by_cases : (r : Read mode s false at) → r.kind ≡ 7 → (a : Answer Fault ℕ) → Searches r.n r.end a
          → Row (Finds mode s at key) (RefusedLookup mode s at key) a
      by_cases r map (ok x) y = record { value = r; kind = map; pair = y }
      by_cases r map (error f) (pair l x y) = queries.pair r map l x y
      by_cases r map (error f) (missing x) = queries.missing r map x

module _ (mode : Mode) (file : List ℕ) (at : ℕ) (key : List ℕ) where
  lookup_exactly : Exactly (λ s. lookup_in mode s at key) (λ s. Finds mode s at key) (λ s. RefusedLookup mode s at key) file at
  lookup_exactly = query_exactly _ _ _ file at (λ s. lookup_row mode s at key) (λ s. lookup_is mode s at key)

  pub lookup_answers_exactly : (x : ℕ) → (lookup_of mode file at key ≡ ok x) ↔ AnsweredQuery file at (λ s. Finds mode s at key x)
  lookup_answers_exactly x = lookup_exactly (ok x)

  pub lookup_refused_exactly : (f : Fault) → (lookup_of mode file at key ≡ error f) ↔ RefusedQuery file at (λ s. RefusedLookup mode s at key) f
  lookup_refused_exactly f = lookup_exactly (error f)
