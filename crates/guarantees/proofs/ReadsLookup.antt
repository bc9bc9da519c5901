-- Of a well-formed file, lookup answers what its values say: the value of the first pair that has the key, else NO_ITEM, and WRONG_KIND of another
-- kind.
--
-- In order: a token that is the key is one by the queries (`is_key_keyed`), and back (`keyed_is_key`); items by their number; `reads_lookup`,
-- `reads_no_lookup`, one of which holds of each map and key (`first_pair`), and `reads_lookup_kind`.
use mathlib.Core.Path.{◌≡◌, refl, sym, ap, ◌∙◌, subst}
use mathlib.Core.Bool.{false}
use mathlib.Core.Logic.{◌⊎◌, inl, inr}
use mathlib.Core.List.{List, ◌∷◌, ◌++◌}
use Prim.Native.Nat.{ℕ, zero, suc, ◌+◌, ◌-◌, ◌*◌, ◌≤◌, ◌<◌}
use native.Mathlib.Decide.{ℕ_discrete}
use native.Mathlib.Nat.{le_refl}
use native.Mathlib.Omega.{arith}
use lib.ListN.{length, take, drop, get_or, length-append}
use lib.Seq.{split_at, length-take-le}
use Rattle.prelude.specs.Answer.{Answer, ok, error}
use Rattle.prelude.proofs.Tests.{split}
use Rattle.error.specs.Error.{Fault, fault, NO_ITEM, WRONG_KIND}
use Rattle.leb128.specs.declared.Mode.{Mode}
use Rattle.kind.specs.Kind.{rule}
use Rattle.token.specs.Token.{Token}
use Rattle.scan.proofs.Places.{head_at, scan_within}
use Rattle.values.specs.Values.{Value, tokens, bytes, region, starts, WellFormed}
use Rattle.values.proofs.Laws.{At, value_number, start_of}
use Rattle.reader_region.proofs.Laws.{peek_scan}
use Rattle.reader_value.specs.Value.{read_of}
use Rattle.reader_value.specs.declared.Value.TheVariants.{Null, Text, Map}
use Rattle.reader_items.specs.Items.{item_of}
use Rattle.reader_follow.specs.Follow.{follow_of}
use Rattle.reader_lookup.specs.Lookup.{lookup_of}
use Rattle.guarantees.specs.TokenValues.{token_end, token_rows, value_of_token}
use Rattle.guarantees.specs.Places.{TokenAt, further}
use Rattle.guarantees.specs.Lookup.{Keyed, OtherKey, IsKey, text, pointer, ItemAt, FirstPair, NoPair}
use Rattle.guarantees.proofs.Heads.{kind_of, kind_value}
use Rattle.guarantees.proofs.Lookups.{keyed_or_not, found_lookup, none_lookup, kind_lookup}
use Rattle.guarantees.proofs.ReadsFile.{head_token_at, item_token_at, peeked, shows, formed}
use Rattle.guarantees.proofs.ReadsFile.{reads_token, reads_body, reads_body_of_pointer, reads_value, reads_item, reads_end}
use Rattle.guarantees.proofs.Hops.{hops_none, follows_pointer, target, hops_pointer}

further_by : {X : Type 0} (a : Answer Fault (ℕ × ℕ)) (place hops : ℕ) → further a ≡ ok (place, hops) → ((more : ℕ) → a ≡ ok (place, more) → X) → X
further_by (ok p) place hops e k =
    let pair : ◌≡◌ {A = ℕ × ℕ} (p.0, p.1 + 1) (place, hops) = cc in
    k p.1 (ap (λ x. ok (x, p.1)) (ap (λ (y : ℕ × ℕ). y.0) pair))
further_by (error f) place hops e k = let z : ◌≡◌ {A = ℕ} 0 1 = cc in absurd (omega arith)

-- where value number i starts
start_at : (vs : List Value) (i : ℕ) (v : At vs i) → length (region v.before) ≡ get_or (starts 0 vs) i 0
start_at vs i v =
    sym (start_of v.before v.value v.after) ∙ ap (λ l. get_or (starts 0 l) (length v.before) 0) (sym v.same)
    ∙ ap (λ n. get_or (starts 0 vs) n 0) v.number

module _ {mode : Mode} (file : List ℕ) (vs : List Value) (entry : ℕ) (w : WellFormed mode file vs entry) where
  -- ---- a token

  module _ (j q : ℕ) (t : Token) (st : TokenAt vs j q t) where
    token_kind : kind_of (value_of_token q t) ≡ t.kind
    token_kind =
        let at_head = scan_within mode false (region vs) q (head_at q t) (peek_scan mode false (region vs) q (head_at q t) (peeked file vs entry w j q t st)) in
        ap kind_of (sym (shows file vs entry w j q t st)) ∙ kind_value (region vs) q (head_at q t) at_head

    token_reads : read_of mode file q ≡ ok (value_of_token q t)
    token_reads = reads_token file vs entry w j q t st

    pub reads_lookup_kind : (key : List ℕ) → (t.kind ≡ 7 → ⊥) → lookup_of mode file q key ≡ error (fault WRONG_KIND q)
    reads_lookup_kind key other =
        kind_lookup mode file q key (record {
          value = value_of_token q t;
          read = token_reads;
          other = λ pairs items first same. other (sym token_kind ∙ ap kind_of same);
        })

    -- following ends without fault
    token_follows : (place : ℕ) × (hops : ℕ) × (follow_of mode file q ≡ ok (place, hops))
    token_follows =
        elim (ℕ_discrete t.kind 15) [
          | yes k ↦ let c = hops_pointer file vs entry w j q t st k in (get_or (starts 0 vs) c.number 0, c.hops, c.follows)
          | no k ↦ (q, 0, hops_none file vs entry w j q t st k)
        ]

    -- a pointer and its target are the same key
    module _ (key : List ℕ) (k : t.kind ≡ 15) where
      pointer_keyed : Keyed mode file (q - t.n - 1) key → Keyed mode file q key
      pointer_keyed c = record {
        place = c.place;
        hops = c.hops + 1;
        follows = follows_pointer file vs entry w j q t st k ∙ ap further c.follows;
        first = c.first;
        len = c.len;
        text = c.text;
        body = (reads_body_of_pointer file vs entry w j q t st k).1 ∙ c.body;
      }

      target_keyed : Keyed mode file q key → Keyed mode file (q - t.n - 1) key
      target_keyed c =
          further_by (follow_of mode file (q - t.n - 1)) c.place c.hops (sym (follows_pointer file vs entry w j q t st k) ∙ c.follows) (λ more e.
          record {
            place = c.place;
            hops = more;
            follows = e;
            first = c.first;
            len = c.len;
            text = c.text;
            body = sym (reads_body_of_pointer file vs entry w j q t st k).1 ∙ c.body;
          })

    text_keyed : (key : List ℕ) → t.kind ≡ 4 → t.body ≡ key → Keyed mode file q key
    unfolding value_of_token
    text_keyed key k same = record {
      place = q;
      hops = 0;
      follows = hops_none file vs entry w j q t st (λ p. omega arith);
      first = token_end q t - length t.body;
      len = length t.body;
      text = token_reads ∙ ap (λ x. ok (get_or (token_rows q t) x Null)) k;
      body = (reads_body file vs entry w j q t st (inl k)).1 ∙ same;
    }

    -- what is a key and not a pointer is a text
    keyed_text : (key : List ℕ) → (t.kind ≡ 15 → ⊥) → Keyed mode file q key → (t.kind ≡ 4) × (t.body ≡ key)
    keyed_text key k c =
        let stops = sym c.follows ∙ hops_none file vs entry w j q t st k in
        let pair : ◌≡◌ {A = ℕ × ℕ} (c.place, c.hops) (q, 0) = cc in
        let read = sym c.text ∙ ap (λ (y : ℕ × ℕ). read_of mode file y.0) pair ∙ token_reads in
        let value : Text c.first c.len ≡ value_of_token q t = cc in
        let kind : t.kind ≡ 4 = sym (ap kind_of value ∙ token_kind) in
        (kind, sym (reads_body file vs entry w j q t st (inl kind)).1 ∙ c.body)

  module _ (key : List ℕ) where
    is_key_keyed : (j q : ℕ) (t : Token) → TokenAt vs j q t → IsKey vs key q t → Keyed mode file q key
    is_key_keyed j q t st (text k same) = text_keyed j q t st key k same
    is_key_keyed j q t st (pointer k a v b e p i) =
        pointer_keyed j q t st key k (subst (λ x. Keyed mode file x key) p (is_key_keyed (length a) (length (region a)) v.head (head_token_at vs a v b e) i))

    -- the value that a pointer names, if its head is the key
    named : (j q : ℕ) (t : Token) (st : TokenAt vs j q t) → t.kind ≡ 15
        → ((i p : ℕ) (u : Token) → i < j → TokenAt vs i p u → Keyed mode file p key → IsKey vs key p u) → Keyed mode file q key → IsKey vs key q t
    named j q t st k more c =
        let (i, less, e) = target file vs entry w j q t st k in
        let long = ap length st.values ∙ length-append st.before (st.value ∷ st.after) in
        let v = value_number vs i (omega (arith, st.numbered)) in
        let a = v.before in
        let place : length (region a) ≡ q - t.n - 1 = start_at vs i v ∙ e in
        pointer k a v.value v.after v.same place
        (more (length a) (length (region a)) v.value.head (omega (arith, v.number)) (head_token_at vs a v.value v.after v.same)
        (subst (λ x. Keyed mode file x key) (sym place) (target_keyed j q t st key k c)))

    keyed_from : (f j q : ℕ) (t : Token) → j < f → TokenAt vs j q t → Keyed mode file q key → IsKey vs key q t
    keyed_from zero j q t l st c = absurd (omega arith)
    keyed_from (suc f) j q t l st c =
        elim (ℕ_discrete t.kind 15) [
          | yes k ↦ named j q t st k (λ i p u less here d. keyed_from f i p u (omega arith) here d) c
          | no k ↦ let r = keyed_text j q t st key k c in text r.0 r.1
        ]

    keyed_is_key : (j q : ℕ) (t : Token) → TokenAt vs j q t → Keyed mode file q key → IsKey vs key q t
    keyed_is_key j q t st c = keyed_from (suc j) j q t (le_refl _) st c

  -- ---- the items of a map

  module _ (a : List Value) (v : Value) (b : List Value) (e : vs ≡ a ++ (v ∷ b)) where
    abbrev at : ℕ
    at = length (region a)

    item_token : (i q : ℕ) (t : Token) → ItemAt at v i q t → TokenAt vs (length a) q t
    item_token i q t it = subst (λ x. TokenAt vs (length a) x t) (sym it.place) (item_token_at vs a v b e it.front t it.back it.items)

    item_is : (i q : ℕ) (t : Token) → ItemAt at v i q t → item_of mode file at i ≡ ok q
    item_is i q t it = rw (← it.numbered) (reads_item file vs entry w a v b e it.front t it.back q it.items it.place).0

    -- item number i
    item_number : (i : ℕ) → i < length v.items → (q : ℕ) × (t : Token) × ItemAt at v i q t
    item_number i less =
        let front = take i v.items in
        let t = get_or v.items i v.head in (
          token_end at v.head + length (bytes front),
          t,
          record {
            front = front;
            back = drop (suc i) v.items;
            items = split_at v.items i v.head less;
            numbered = length-take-le i v.items (omega arith);
            place = refl;
          },
        )

    module _ (kind : v.head.kind ≡ 7) (key : List ℕ) where
      map_reads : read_of mode file at ≡ ok (Map v.head.n (2 * v.head.n) (token_end at v.head))
      unfolding value_of_token
      map_reads = reads_value file vs entry w a v b e ∙ ap (λ x. ok (get_or (token_rows at v.head) x Null)) kind

      map_count : length v.items ≡ 2 * v.head.n
      unfolding rule
      map_count =
          let f = formed file vs entry w a v b e in
          let none : v.head.args ≡ 0 = f.head.allowed.alone (rw kind) in
          f.count ∙ rw (kind, none) (omega arith)

      another : (j : ℕ) → j < v.head.n → ((p : ℕ) (t : Token) → ItemAt at v (2 * j) p t → IsKey vs key p t → ⊥) → OtherKey mode file at j key
      another j less other =
          let (q, t, it) = item_number (2 * j) (omega (arith, map_count)) in
          let st = item_token (2 * j) q t it in
          let (place, hops, follows) = token_follows (length a) q t st in
          record {
            q = q;
            here = item_is (2 * j) q t it;
            place = place;
            hops = hops;
            follows = follows;
            other = λ c. other q t it (keyed_is_key key (length a) q t st c);
          }

      item_less : (i q : ℕ) (t : Token) → ItemAt at v i q t → i < length v.items
      item_less i q t it = omega (arith, it.numbered, ap length it.items, length-append it.front (t ∷ it.back))

      pub reads_lookup : (x : ℕ) → FirstPair vs at v key x → lookup_of mode file at key ≡ ok x
      reads_lookup x f =
          let less = item_less (2 * f.i) f.q f.own f.here in
          found_lookup mode file at key x (record {
            pairs = v.head.n;
            items = 2 * v.head.n;
            first = token_end at v.head;
            map = map_reads;
            i = f.i;
            q = f.q;
            here = item_is (2 * f.i) f.q f.own f.here;
            keyed = is_key_keyed key (length a) f.q f.own (item_token (2 * f.i) f.q f.own f.here) f.is_key;
            value = item_is (2 * f.i + 1) x f.token f.value;
            others = λ j l. another j (omega (arith, map_count)) (λ p t it i. f.others j p t l it i);
          })

      pub reads_no_lookup : NoPair vs at v key → lookup_of mode file at key ≡ error (fault NO_ITEM at)
      reads_no_lookup none =
          none_lookup mode file at key (record {
            pairs = v.head.n;
            items = 2 * v.head.n;
            first = token_end at v.head;
            map = map_reads;
            end = at + length (bytes (tokens v));
            skips = reads_end file vs entry w a v b e;
            others = λ j less. another j less (none j);
          })

      -- ---- one or the other

      -- the key of pair j is the one
      abbrev Has : ℕ → Type 0
      Has j = (q : ℕ) × (t : Token) × (ItemAt at v (2 * j) q t) × IsKey vs key q t

      has_or_not : (j : ℕ) → j < v.head.n → Has j ⊎ (Has j → ⊥)
      has_or_not j less =
          let (q, t, it) = item_number (2 * j) (omega (arith, map_count)) in
          let st = item_token (2 * j) q t it in
          let (place, hops, follows) = token_follows (length a) q t st in
          elim (keyed_or_not file q key place hops follows) [
            | inl c ↦ inl (q, t, it, keyed_is_key key (length a) q t st c)
            | inr other ↦ inr (λ h.
                let (p, u, here, i) = h in
                let one = sym (item_is (2 * j) p u here) ∙ item_is (2 * j) q t it in
                let same : p ≡ q = cc in
                other (subst (λ x. Keyed mode file x key) same (is_key_keyed key (length a) p u (item_token (2 * j) p u here) i)))
          ]

      -- the first of n pairs that has it, or none
      first_of : (n : ℕ) → n ≤ v.head.n → ((i : ℕ) × (i < n) × Has i × ((j : ℕ) → j < i → Has j → ⊥)) ⊎ ((j : ℕ) → j < n → Has j → ⊥)
      first_of zero most = inr (λ j less. absurd (omega arith))
      first_of (suc n) most =
          elim (first_of n (omega arith)) [
            | inl f ↦ let (i, less, has, others) = f in inl (i, omega arith, has, others)
            | inr none ↦
                elim (has_or_not n (omega arith)) [
                  | inl has ↦ inl (n, le_refl _, has, none)
                  | inr last ↦ inr (λ j less. split j n (none j) (λ l. let same : j ≡ n = omega arith in rw same last))
                ]
          ]

      -- so a map's lookups are settled
      pub first_pair : ((x : ℕ) × FirstPair vs at v key x) ⊎ NoPair vs at v key
      first_pair =
          elim (first_of v.head.n (le_refl _)) [
            | inl f ↦
                let (i, less, has, others) = f in
                let (q, t, it, k) = has in
                let (x, u, value) = item_number (2 * i + 1) (omega (arith, map_count)) in
                inl (
                  x,
                  record {
                    i = i;
                    q = q;
                    own = t;
                    here = it;
                    is_key = k;
                    token = u;
                    value = value;
                    others = λ j p r l here own. others j l (p, r, here, own);
                  },
                )
            | inr none ↦ inr (λ j p r here own. none j (omega (arith, map_count, item_less (2 * j) p r here)) (p, r, here, own))
          ]
