-- The pairs of a map in a region, as its items: what lookup's loop answers, by where items start and where following leads.
--
-- In order: a key, followed (`KeyIn`), and the key of pair j (`OtherIn`); two items more; what the loop's answer rests on (`pairs_found`,
-- `pairs_missing`); and back, the pairs that are passed (`pairs_pass`), the one that is found (`found_pairs`), and none (`missing_pairs`).
use mathlib.Core.Path.{◌≡◌, refl, sym, ◌∙◌, subst}
use mathlib.Core.Bool.{Bool, true, false, false≢true}
use mathlib.Core.List.{List}
use Prim.Native.Nat.{ℕ, zero, suc, ◌+◌, ◌-◌, ◌*◌, ◌<◌}
use native.Mathlib.Nat.{zero-add, suc-add, add-zero}
use native.Mathlib.Omega.{arith}
use lib.Dec.{ltb}
use lib.ListN.{length}
use borrow.Author.Tests.{lt-ltb, ltb-true}
use Rattle.prelude.specs.Answer.{Answer, ok, error, bind}
use Rattle.prelude.specs.Search.{among}
use Rattle.prelude.proofs.Tests.{pick_elim}
use Rattle.prelude.proofs.Readers.{bind_ok, bind_ok_by}
use Rattle.error.specs.Error.{Fault, fault, NO_ITEM}
use Rattle.leb128.specs.declared.Mode.{Mode}
use Rattle.leb128.specs.declared.Mode.TheVariants.{Strict}
use Rattle.scan.specs.declared.Head.{Head}
use Rattle.reader_region.specs.Region.{peek_in}
use Rattle.reader_items.specs.Items.{skip_items, starts_in}
use Rattle.reader_follow.specs.Follow.{Followed, position, follow_from}
use Rattle.reader_lookup.specs.Lookup.{is_key, pairs}
use Rattle.guarantees.specs.Errors.{skip_errors}
use Rattle.guarantees.proofs.ReadErrors.{item_known, follow_known}
use Rattle.guarantees.proofs.Queries.{peek_lt, walk_suc}

bind_elim : {A B : Type 0} (P : Answer Fault B → Type 0) (r : Answer Fault A) (f : A → Answer Fault B) → ((e : Fault) → error e ≡ r → P (error e))
    → ((a : A) → ok a ≡ r → P (f a)) → P (bind r f)
unfolding bind
bind_elim P (ok a) f g h = h a refl
bind_elim P (error e) f g h = g e refl

module _ (mode : Mode) (s key : List ℕ) where
  -- following from q leads to a head that is the key, or is not
  pub record KeyIn (is : Bool) (q : ℕ) : Type 0 where
    pub followed : Followed
    pub follows : ok followed ≡ follow_from mode s (position q 0)
    pub decided : is_key s key followed.head ≡ is

  -- of items from q on, the key of pair j is another
  pub record OtherIn (q j : ℕ) : Type 0 where
    pub place : ℕ
    pub walked : ok place ≡ skip_items mode s (2 * j) q
    pub inside : place < length s
    pub other : KeyIn false place

  -- of k pairs from q on, the value of the first that has the key starts at x
  pub record FoundIn (k q x : ℕ) : Type 0 where
    pub i : ℕ
    pub less : i < k
    pub place : ℕ
    pub walked : ok place ≡ skip_items mode s (2 * i) q
    pub start : place < length s
    pub keyed : KeyIn true place
    pub next : ok x ≡ skip_items mode s (2 * i + 1) q
    pub inside : x < length s
    pub others : (j : ℕ) → j < i → OtherIn q j

  -- none of k pairs from q on has it
  pub record MissingIn (k q : ℕ) : Type 0 where
    pub end : ℕ
    pub walked : ok end ≡ skip_items mode s (2 * k) q
    pub others : (j : ℕ) → j < k → OtherIn q j

  -- ---- one pair more

  -- the pair at q is passed, and the next starts at p
  record Passed (q p : ℕ) : Type 0 where
    own : Head
    keyed : ok own ≡ peek_in mode true s q
    other : KeyIn false q
    value : Head
    valued : ok value ≡ peek_in mode true s own.end
    next : value.end ≡ p

  module _ (q p : ℕ) (a : Passed q p) where
    shift : (k : ℕ) → skip_items mode s k p ≡ skip_items mode s (2 + k) q
    unfolding skip_items
    shift k = rw (suc-add 1 k, suc-add 0 k, zero-add k, ← a.next) (bind_ok _ a.keyed (bind_ok _ a.valued refl))

    double : (k : ℕ) → skip_items mode s (2 * k) p ≡ skip_items mode s (2 * suc k) q
    double k = let two : 2 * suc k ≡ 2 + 2 * k = omega arith in rw two (shift (2 * k))

    other_first : OtherIn q 0
    unfolding skip_items
    other_first = record { place = q; walked = refl; inside = peek_lt mode s true q a.own a.keyed; other = a.other }

    other_more : (j : ℕ) → OtherIn p j → OtherIn q (suc j)
    other_more j o = record { place = o.place; walked = o.walked ∙ double j; inside = o.inside; other = o.other }

    other_less : (j : ℕ) → OtherIn q (suc j) → OtherIn p j
    other_less j o = record { place = o.place; walked = o.walked ∙ sym (double j); inside = o.inside; other = o.other }

    others_more : (i : ℕ) → ((j : ℕ) → j < i → OtherIn p j) → (j : ℕ) → j < suc i → OtherIn q j
    others_more i more zero h = other_first
    others_more i more (suc j) h = other_more j (more j (omega arith))

    found_more : (k x : ℕ) → FoundIn k p x → FoundIn (suc k) q x
    found_more k x f =
        let two : 2 * suc f.i + 1 ≡ 2 + (2 * f.i + 1) = omega arith in
        record {
          i = suc f.i;
          less = omega (arith, f.less);
          place = f.place;
          walked = f.walked ∙ double f.i;
          start = f.start;
          keyed = f.keyed;
          next = rw two (f.next ∙ shift (2 * f.i + 1));
          inside = f.inside;
          others = others_more f.i f.others;
        }

    missing_more : (k : ℕ) → MissingIn k p → MissingIn (suc k) q
    missing_more k m = record { end = m.end; walked = m.walked ∙ double k; others = others_more k m.others }

  -- ---- what the loop answers

  module _ (at : ℕ) where
    abbrev Reports : ℕ → ℕ → Answer Fault ℕ → Type 0
    Reports k q (ok x) = FoundIn k q x
    Reports k q (error f) = f.number ≡ NO_ITEM → MissingIn k q

    other_error : {X : Type 0} (f : Fault) → among f.number (skip_errors Strict) ≡ true → f.number ≡ NO_ITEM → X
    unfolding among
    other_error f known e = absurd (false≢true (rw e at known))

    more : (k q p : ℕ) (a : Answer Fault ℕ) → Passed q p → Reports k p a → Reports (suc k) q a
    more k q p (ok x) a r = found_more q p a k x r
    more k q p (error f) a r = λ n. missing_more q p a k (r n)

    here : (k q : ℕ) (h : Head) → ok h ≡ peek_in mode true s q → KeyIn true q → Reports (suc k) q (starts_in (length s) h.end)
    unfolding starts_in skip_items
    here k q h e keyed =
        pick_elim (Reports (suc k) q) (ltb h.end (length s))
        (λ l. record {
          i = 0;
          less = omega arith;
          place = q;
          walked = refl;
          start = peek_lt mode s true q h e;
          keyed = keyed;
          next = bind_ok _ e refl;
          inside = ltb-true h.end (length s) l;
          others = λ j less. absurd (omega arith);
        })
        (λ l n. absurd (omega arith))

    reports : (k q : ℕ) → Reports k q (pairs mode s at key k q)
    unfolding pairs skip_items
    reports zero q = λ e. record { end = q; walked = refl; others = λ j h. absurd (omega arith) }
    reports (suc k) q =
        bind_elim (Reports (suc k) q) (peek_in mode true s q) _ (λ f e. other_error f (item_known mode s q f e)) (λ h e.
        bind_elim (Reports (suc k) q) (follow_from mode s (position q 0)) _ (λ f ef. other_error f (follow_known mode s q f ef)) (λ m ef.
        pick_elim (Reports (suc k) q) (is_key s key m.head) (λ t. here k q h e (record { followed = m; follows = ef; decided = t })) (λ t.
        bind_elim (Reports (suc k) q) (peek_in mode true s h.end) _ (λ f ev. other_error f (item_known mode s h.end f ev)) (λ v ev.
        more k q v.end (pairs mode s at key k v.end)
        (record { own = h; keyed = e; other = record { followed = m; follows = ef; decided = t }; value = v; valued = ev; next = refl })
        (reports k v.end)))))

    pub pairs_found : (k q x : ℕ) → ok x ≡ pairs mode s at key k q → FoundIn k q x
    pairs_found k q x e = subst (Reports k q) (sym e) (reports k q)

    pub pairs_missing : (k q p : ℕ) → error (fault NO_ITEM p) ≡ pairs mode s at key k q → MissingIn k q
    pairs_missing k q p e = subst (Reports k q) (sym e) (reports k q) refl

    -- ---- and back

    pass_one : (k q p : ℕ) → Passed q p → pairs mode s at key k p ≡ pairs mode s at key (suc k) q
    unfolding pairs
    pass_one k q p a = bind_ok _ a.keyed (bind_ok _ a.other.follows (rw a.other.decided (bind_ok _ a.valued (rw a.next))))

    -- the first of some pairs whose items were looked at
    passed_by : {X : Type 0} (j q e : ℕ) → OtherIn q 0 → ok e ≡ skip_items mode s (2 * suc j) q → ((p : ℕ) → Passed q p → ok e ≡ skip_items mode s (2 * j) p → X)
        → X
    unfolding skip_items
    passed_by j q e o w k =
        let two : 2 * suc j ≡ suc (suc (2 * j)) = omega arith in
        let same : o.place ≡ q = cc o.walked in
        bind_ok_by _ _ (rw two at w) (λ h eh wh. bind_ok_by _ _ wh (λ v ev wv.
        k v.end (record { own = h; keyed = eh; other = subst (KeyIn false) same o.other; value = v; valued = ev; next = refl }) wv))

    pairs_pass : (j k q p : ℕ) → ok p ≡ skip_items mode s (2 * j) q → ((i : ℕ) → i < j → OtherIn q i) → pairs mode s at key k p ≡ pairs mode s at key (j + k) q
    unfolding skip_items
    pairs_pass zero k q p w others = let same : p ≡ q = cc in rw (same, zero-add)
    pairs_pass (suc j) k q p w others =
        passed_by j q p (others 0 (omega arith)) w (λ r a w'.
        rw (suc-add j k) (pairs_pass j k r p w' (λ i h. other_less q r a i (others (suc i) (omega arith))) ∙ pass_one (j + k) q r a))

    pub found_pairs : (k q x : ℕ) → FoundIn k q x → ok x ≡ pairs mode s at key k q
    unfolding pairs starts_in
    found_pairs k q x f =
        let left = k - f.i - 1 in
        let sum : k ≡ f.i + suc left = omega (arith, f.less) in
        let one : 2 * f.i + 1 ≡ suc (2 * f.i) = omega arith in
        let next : ok x ≡ bind (skip_items mode s (2 * f.i) q) (λ p. bind (peek_in mode true s p) (λ h. ok h.end)) =
        rw one at f.next ∙ walk_suc mode s (2 * f.i) q in
        bind_ok_by _ _ next (λ p w n. bind_ok_by _ _ n (λ h e r.
        let same : f.place ≡ p = cc f.walked in
        let end : x ≡ h.end = cc in
        let peeked : ok h ≡ peek_in mode true s f.place = rw same e in
        let at_pair : ok x ≡ pairs mode s at key (suc left) f.place =
        bind_ok _ peeked (bind_ok _ f.keyed.follows (rw (f.keyed.decided, ← end, lt-ltb _ _ f.inside))) in
        rw sum (at_pair ∙ pairs_pass f.i (suc left) q f.place f.walked f.others)))

    pub missing_pairs : (k q : ℕ) → MissingIn k q → error (fault NO_ITEM at) ≡ pairs mode s at key k q
    unfolding pairs
    missing_pairs k q m = rw add-zero at (pairs_pass k 0 q m.end m.walked m.others)
