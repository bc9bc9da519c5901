-- For a well-formed file, the reader returns its values as the Twine pages have them.
--
-- In order: where the tokens of a value are (`head_token_at`, `item_token_at`); queries are answered in the region;
-- each value is formed, and its tokens fit and have their targets before it. A token: it is read as what the pages say
-- (`reads_token`), and so is its body (`reads_body`, `reads_body_of_pointer`, `reads_no_body`); an immediate ends where its own
-- bytes do (`reads_immediate_end`), and has no items (`reads_no_items`). A value: it is read (`reads_value`) and ends where its
-- bytes do (`reads_end`); its items come one after the other (`reads_item`), with none after the last (`reads_none`).
use mathlib.Core.Path.{◌≡◌, refl, sym, ap, ◌∙◌, subst}
use mathlib.Core.Bool.{true, false, ◌||◌}
use mathlib.Core.Logic.{◌⊎◌, inl, inr}
use mathlib.Core.List.{List, [], ◌∷◌, ◌++◌, append_assoc, append-nil}
use Prim.Native.Nat.{ℕ, ◌+◌, ◌-◌, ◌≤◌, ◌<◌}
use native.Mathlib.Nat.{zero-add, add-zero}
use native.Mathlib.Omega.{arith}
use lib.Dec.{eqb}
use lib.ListN.{length, take, drop, length-append}
use lib.Seq.{take-append_seam}
use borrow.Author.Tests.{le-leb, lt-leb, le-ltb, lt-ltb, ne_eqb}
use Rattle.prelude.specs.Answer.{Answer, ok, error, bind}
use Rattle.prelude.specs.Each.{Each}
use Rattle.prelude.proofs.Readers.{bind_ok}
use Rattle.prelude.proofs.Lists.{each_append}
use Rattle.error.specs.Error.{Fault, fault, LIMIT, NO_ITEM, WRONG_KIND}
use Rattle.leb128.specs.declared.Mode.{Mode}
use Rattle.kind.specs.Kind.{rule, immediate}
use Rattle.token.specs.Token.{Token, emit, Fits}
use Rattle.token.proofs.Laws.{emit_pos}
use Rattle.scan.specs.declared.Head.{Head}
use Rattle.scan.proofs.Places.{head_at}
use Rattle.values.specs.Values.{Value, tokens, bytes, region, starts, Item, Formed, HasTarget, HasTargets, TargetsEarlier, WellFormed}
use Rattle.values.proofs.Laws.{bytes_append, region_at, targets_earlier_append, fits_head, fits_item, immediate_counts}
use Rattle.reader_region.specs.Region.{region_len, in_region, peek_in}
use Rattle.reader_region.proofs.Laws.{in_region_ok}
use Rattle.reader_value.specs.Value.{value_on, read_in, read_of}
use Rattle.reader_items.specs.Items.{skip_items, skip_in, skip_of, starts_in, item_on, item_in, item_of}
use Rattle.reader_follow.proofs.Laws.{follow_from_end}
use Rattle.reader_body.specs.Body.{body_place_on, body_place_in, body_place_of, body_part, body_of}
use Rattle.guarantees.specs.TokenValues.{token_end, value_of_token}
use Rattle.guarantees.specs.Places.{TokenAt}
use Rattle.guarantees.proofs.Tokens.{drop_body, body_len, value_on_token, peek_emit, walk_emit}
use Rattle.guarantees.proofs.Pointers.{body_pointer}

-- ---- where tokens are

module _ (vs a : List Value) (v : Value) (b : List Value) (e : vs ≡ a ++ (v ∷ b)) where
  pub head_token_at : TokenAt vs (length a) (length (region a)) v.head
  unfolding bytes
  head_token_at = record {
    before = a;
    value = v;
    after = b;
    values = e;
    numbered = refl;
    front = [];
    back = v.items;
    tokens = refl;
    place = sym (add-zero (length (region a)));
  }

  pub item_token_at : (is : List Token) (t : Token) (js : List Token) → v.items ≡ is ++ (t ∷ js)
      → TokenAt vs (length a) (token_end (length (region a)) v.head + length (bytes is)) t
  unfolding bytes
  item_token_at is t js i = record {
    before = a;
    value = v;
    after = b;
    values = e;
    numbered = refl;
    front = v.head ∷ is;
    back = js;
    tokens = ap (λ l. v.head ∷ l) i;
    place = omega (arith, length-append (emit v.head) (bytes is));
  }

-- ---- a well-formed file

target_at : (done : List ℕ) (q : ℕ) (ts : List Token) (t : Token) (us : List Token) → HasTargets done q (ts ++ (t ∷ us))
    → HasTarget done (q + length (bytes ts)) t
unfolding bytes
target_at done q [] t us h = rw add-zero h.0
target_at done q (x ∷ ts) t us h =
    let sum : q + (length (emit x) + length (bytes ts)) ≡ q + length (emit x) + length (bytes ts) = omega arith in
    rw (length-append (emit x) (bytes ts), sum) (target_at done (q + length (emit x)) ts t us h.1)

module _ {mode : Mode} (file : List ℕ) (vs : List Value) (entry : ℕ) (w : WellFormed mode file vs entry) where
  region_is : (q : ℕ) → q < length (region vs) → ok (length (region vs)) ≡ region_len (length file) q
  unfolding region_len
  region_is q h =
      let long : length file ≡ length (region vs) + 1 = ap length w.same ∙ length-append (region vs) (w.delta ∷ []) in
      let len : length file - 1 ≡ length (region vs) = omega arith in
      rw (ne_eqb (length file) 0 (λ z. omega arith), le-ltb LIMIT (length file) w.short, len, lt-ltb q (length (region vs)) h)

  pub in_region_is : {A : Type 0} (k : List ℕ → Answer Fault A) (q : ℕ) → q < length (region vs) → in_region file q k ≡ k (region vs)
  in_region_is k q h =
      let same : take (length (region vs)) file ≡ region vs = rw w.same (take-append_seam (region vs) (w.delta ∷ [])) in
      sym (in_region_ok file q k (length (region vs)) (region_is q h) (ap k (sym same)))

  module _ (a : List Value) (v : Value) (b : List Value) (e : vs ≡ a ++ (v ∷ b)) where
    pub formed : Formed mode v
    formed = ((each_append (Formed mode) a (v ∷ b)).0 (subst (Each (Formed mode)) e w.values.formed)).1.0

    targeted : HasTargets (starts 0 a) (length (region a)) (tokens v)
    targeted = rw zero-add at ((targets_earlier_append [] 0 a (v ∷ b)).0 (subst (TargetsEarlier [] 0) e w.values.targets)).1.0

    fits : (ts : List Token) (t : Token) (us : List Token) → tokens v ≡ ts ++ (t ∷ us) → Fits mode false t (bytes us ++ region b)
    fits [] t us q =
        let head : v.head ≡ t = cc in
        let items : v.items ≡ us = cc in
        rw (← head, ← items) (fits_head v formed (region b))
    fits (x ∷ ts) t us q =
        let items : v.items ≡ ts ++ (t ∷ us) = cc in
        let i = fits_item t ((each_append (Item mode) ts (t ∷ us)).0 (subst (Each (Item mode)) items formed.items)).1.0 (bytes us ++ region b) in
        record { allowed = i.allowed; spelled = i.spelled; flat = refl; room = i.room }

  -- ---- a token

  module _ (j q : ℕ) (t : Token) (st : TokenAt vs j q t) where
    abbrev front : List ℕ
    front = region st.before ++ bytes st.front

    abbrev rest : List ℕ
    rest = bytes st.back ++ region st.after

    all : bytes (tokens st.value) ≡ bytes st.front ++ (emit t ++ bytes st.back)
    unfolding bytes
    all = ap bytes st.tokens ∙ bytes_append st.front (t ∷ st.back)

    same : region vs ≡ front ++ (emit t ++ rest)
    same = rw (st.values, region_at st.before st.value st.after, all) (simp append_assoc)

    place : q ≡ length front
    place = st.place ∙ sym (length-append (region st.before) (bytes st.front))

    pub within : q < length (region vs)
    within = omega (arith, ap length same, length-append front (emit t ++ rest), length-append (emit t) rest, emit_pos t, place)

    pub target_met : HasTarget (starts 0 st.before) q t
    target_met =
        rw st.place (target_at (starts 0 st.before) (length (region st.before)) st.front t st.back
        (subst (HasTargets _ _) st.tokens (targeted st.before st.value st.after st.values)))

    may : Fits mode false t rest
    may = fits st.before st.value st.after st.values st.front t st.back st.tokens

    pub peeked : ok (head_at q t) ≡ peek_in mode false (region vs) q
    peeked = rw (same, place) (peek_emit false front t rest may (λ k. omega (arith, (target_met k).0, place)))

    pub shows : value_on (region vs) q (head_at q t) ≡ value_of_token q t
    shows = rw (same, place) (value_on_token front t rest may.allowed)

    -- a query is answered by the token's head
    opened_as : {A : Type 0} (k : List ℕ → Head → Answer Fault A) → in_region file q (λ s. bind (peek_in mode false s q) (k s)) ≡ k (region vs) (head_at q t)
    opened_as k = in_region_is (λ s. bind (peek_in mode false s q) (k s)) q within ∙ sym (bind_ok _ peeked refl)

    pub reads_token : read_of mode file q ≡ ok (value_of_token q t)
    unfolding read_in
    reads_token = in_region_is (λ s. read_in mode s q) q within ∙ sym (bind_ok _ peeked (ap ok (sym shows)))

    -- ---- its body

    body_stop : (t.kind ≡ 15 → ⊥) → body_place_of mode file q ≡ body_place_on q (head_at q t)
    unfolding body_place_in
    body_stop k = in_region_is (λ s. body_place_in mode s q) q within ∙ sym (bind_ok _ (follow_from_end mode (region vs) q 0 (head_at q t) peeked k) refl)

    bytes_of_body : take (length t.body) (drop (token_end q t - length t.body) file) ≡ t.body
    bytes_of_body =
        let d : List ℕ = rest ++ (w.delta ∷ []) in
        let whole : file ≡ front ++ (emit t ++ d) = w.same ∙ rw same (simp append_assoc) in
        rw (whole, place, drop_body front t d) (take-append_seam t.body d)

    body_here : (t.kind ≡ 4) ⊎ (t.kind ≡ 5) → body_place_of mode file q ≡ ok (token_end q t - length t.body, length t.body)
    body_here k =
        let own : (eqb t.kind 4 || eqb t.kind 5) ≡ true = elim k [ inl k ↦ rw k | inr k ↦ rw k ] in
        body_stop (λ p. elim k [ inl k ↦ omega arith | inr k ↦ omega arith ]) ∙ rw (own, body_len q t)

    pub reads_body : (t.kind ≡ 4) ⊎ (t.kind ≡ 5)
        → (body_place_of mode file q ≡ ok (token_end q t - length t.body, length t.body)) × (body_of mode file q ≡ t.body)
    reads_body k = (body_here k, rw (body_here k) bytes_of_body)

    body_there : t.kind ≡ 15 → body_place_of mode file q ≡ body_place_of mode file (q - t.n - 1)
    body_there k =
        in_region_is (λ s. body_place_in mode s q) q within ∙ body_pointer mode (region vs) q (head_at q t) peeked k
        ∙ sym (in_region_is (λ s. body_place_in mode s (q - t.n - 1)) (q - t.n - 1) (omega (arith, within)))

    pub reads_body_of_pointer : t.kind ≡ 15
        → (body_place_of mode file q ≡ body_place_of mode file (q - t.n - 1)) × (body_of mode file q ≡ body_of mode file (q - t.n - 1))
    reads_body_of_pointer k = (body_there k, ap (body_part file) (body_there k))

    pub reads_no_body : (t.kind ≡ 4 → ⊥) → (t.kind ≡ 5 → ⊥) → (t.kind ≡ 15 → ⊥) → body_place_of mode file q ≡ error (fault WRONG_KIND q)
    reads_no_body text string pointer = body_stop pointer ∙ rw (ne_eqb _ _ text, ne_eqb _ _ string)

    -- ---- an immediate, which is a value or an item

    module _ (one : immediate (rule t.kind) ≡ true) where
      pub reads_immediate_end : skip_of mode file q ≡ ok (token_end q t)
      unfolding skip_in skip_items
      reads_immediate_end = opened_as (λ s h. skip_items mode s h.items h.end) ∙ rw (immediate_counts t may.allowed one).1

      pub reads_no_items : (i : ℕ) → item_of mode file q i ≡ error (fault WRONG_KIND q)
      unfolding item_in item_on
      reads_no_items i = opened_as (λ s. item_on mode s q i) ∙ rw one

  -- ---- a value, and its items

  module _ (a : List Value) (v : Value) (b : List Value) (e : vs ≡ a ++ (v ∷ b)) where
    abbrev at : ℕ
    at = length (region a)

    pub reads_value : read_of mode file at ≡ ok (value_of_token at v.head)
    reads_value = reads_token (length a) at v.head (head_token_at vs a v b e)

    head_opened : {A : Type 0} (k : List ℕ → Head → Answer Fault A)
        → in_region file at (λ s. bind (peek_in mode false s at) (k s)) ≡ k (region vs) (head_at at v.head)
    head_opened k = opened_as (length a) at v.head (head_token_at vs a v b e) k

    -- a value with items is of a kind that has them
    holds : 0 < length v.items → immediate (rule v.head.kind) ≡ false
    holds some =
        let f = formed a v b e in
        (elim (immediate (rule v.head.kind)) as (λ x. immediate (rule v.head.kind) ≡ x → x ≡ false) [
          | true ↦ λ k. absurd (omega (arith, f.count, (immediate_counts v.head f.head.allowed k).1))
          | false ↦ λ k. refl
        ]) refl

    walks : (is js : List Token) → v.items ≡ is ++ js
        → skip_items mode (region vs) (length is) (token_end at v.head) ≡ ok (token_end at v.head + length (bytes is))
    unfolding bytes
    walks is js i =
        let long = length-append (region a) (emit v.head) in
        let all : region vs ≡ (region a ++ emit v.head) ++ (bytes (is ++ js) ++ region b) = rw (e, region_at a v b, ← i) (simp append_assoc) in
        rw (all, ← long) (walk_emit mode (starts 0 a) (region a ++ emit v.head) is js (region b) (subst (Each (Item mode)) i (formed a v b e).items)
        (rw long (subst (HasTargets _ _) i (targeted a v b e).1)))

    pub reads_end : skip_of mode file at ≡ ok (at + length (bytes (tokens v)))
    unfolding skip_in bytes
    reads_end =
        let all = length-append (emit v.head) (bytes v.items) in
        let sum : at + length (bytes (tokens v)) ≡ token_end at v.head + length (bytes v.items) = omega arith in
        head_opened (λ s h. skip_items mode s h.items h.end) ∙ rw (sum, ← (formed a v b e).count) (walks v.items [] (sym (append-nil v.items)))

    item_at : (is : List Token) (t : Token) (js : List Token) (q : ℕ) → v.items ≡ is ++ (t ∷ js) → q ≡ token_end at v.head + length (bytes is)
        → q < length (region vs) → item_of mode file at (length is) ≡ ok q
    unfolding item_in item_on starts_in bind
    item_at is t js q i p here =
        let less : length is < length v.items = omega (arith, ap length i, length-append is (t ∷ js)) in
        head_opened (λ s. item_on mode s at (length is))
        ∙ rw (holds (omega arith), ← (formed a v b e).count, lt-leb _ _ less, walks is (t ∷ js) i, ← p, lt-ltb _ _ here)

    pub reads_item : (is : List Token) (t : Token) (js : List Token) (q : ℕ) → v.items ≡ is ++ (t ∷ js) → q ≡ token_end at v.head + length (bytes is)
        → (item_of mode file at (length is) ≡ ok q) × (read_of mode file q ≡ ok (value_of_token q t))
    reads_item is t js q i p =
        let st = rw (← p) at (item_token_at vs a v b e is t js i) in
        (item_at is t js q i p (within (length a) q t st), reads_token (length a) q t st)

    pub reads_none : (i : ℕ) → length v.items ≤ i → immediate (rule v.head.kind) ≡ false → item_of mode file at i ≡ error (fault NO_ITEM at)
    unfolding item_in item_on
    reads_none i past k = head_opened (λ s. item_on mode s at i) ∙ rw (k, ← (formed a v b e).count, le-leb _ _ past)
