-- What lookup answers means what specs/Lookup.antt says, of every file.
--
-- In order: a key on the file is a key in the region (`keyed_in`, `in_keyed`), and so is one that is another; the items of a map; then a value that
-- is found (`lookup_found`, `found_lookup`), a key that is not there (`lookup_none`, `none_lookup`), and a value that is not a map, each exactly
-- (`lookup_found_exactly`, `lookup_none_exactly`, `lookup_kind_exactly`).
use mathlib.Core.Path.{◌≡◌, refl, sym, ap, ◌∙◌}
use mathlib.Core.Bool.{Bool, true, false, false≢true}
use mathlib.Core.Logic.{◌⊎◌, inl, inr, ◌↔◌}
use mathlib.Core.List.{List}
use Prim.Native.Nat.{ℕ, ◌+◌, ◌-◌, ◌*◌, ◌≤◌, ◌<◌}
use native.Mathlib.Omega.{arith}
use lib.Dec.{eqb}
use lib.ListN.{length, take, drop, length-drop, take-append-drop}
use lib.Seq.{take-append-le, drop-append-le}
use borrow.Author.Tests.{ne_eqb, eqb-true, eqb-false}
use Rattle.prelude.specs.Pick.{pick}
use Rattle.prelude.specs.Answer.{Answer, ok, error}
use Rattle.prelude.specs.Search.{among}
use Rattle.prelude.proofs.Tests.{and_l, and_r}
use Rattle.prelude.proofs.Readers.{bind_ok, bind_ok_by, bind_error_by}
use Rattle.error.specs.Error.{Fault, fault, NO_ITEM, WRONG_KIND}
use Rattle.leb128.specs.declared.Mode.{Mode}
use Rattle.leb128.specs.declared.Mode.TheVariants.{Strict}
use Rattle.kind.specs.Kind.{rule, immediate}
use Rattle.scan.specs.Answers.{body_on}
use Rattle.scan.specs.declared.Head.{Head}
use Rattle.scan.proofs.Places.{Within, scan_within}
use Rattle.reader_region.specs.Region.{region_len, in_region, peek_in}
use Rattle.reader_region.proofs.Laws.{length_region, peek_scan}
use Rattle.reader_value.specs.Value.{value_on, read_in, read_of}
use Rattle.reader_value.specs.declared.Value.{Value}
use Rattle.reader_value.specs.declared.Value.TheVariants.{Text, Map}
use Rattle.reader_value.proofs.Laws.{value_kind}
use Rattle.reader_items.specs.Items.{skip_items, skip_in, item_in, item_of}
use Rattle.reader_follow.specs.Follow.{Followed, position, follow_from, follow_in, follow_of}
use Rattle.reader_follow.proofs.Laws.{follow_head_inv, followed_within}
use Rattle.reader_body.specs.Body.{body_place_in, body_place_of, body_of}
use Rattle.reader_lookup.specs.Lookup.{same, is_key, pairs, lookup_in, lookup_of}
use Rattle.reader_lookup.proofs.Laws.{same_is}
use Rattle.guarantees.specs.Errors.{skip_errors}
use Rattle.guarantees.specs.Lookup.{Keyed, OtherKey, Found, Missing, NoMap}
use Rattle.guarantees.proofs.ReadErrors.{region_known, value_known, pairs_known}
use Rattle.guarantees.proofs.Heads.{kind_of, kind_value, read_by}
use Rattle.guarantees.proofs.Queries.{item_found, item_in_on, region_any, region_lt, in_region_of}
use Rattle.guarantees.proofs.Pairs.{KeyIn, OtherIn, FoundIn, MissingIn, pairs_found, pairs_missing, found_pairs, missing_pairs}

-- a part of the first n bytes is a part of all
part_front : (n a b : ℕ) (l : List ℕ) → a + b ≤ length (take n l) → take b (drop a (take n l)) ≡ take b (drop a l)
part_front n a b l h =
    let f = take n l in
    let r = drop n l in
    sym (ap (λ x. take b (drop a x)) (sym (take-append-drop n l))
    ∙ ap (take b) (drop-append-le a f r (omega arith))
    ∙ take-append-le b (drop a f) r (omega (arith, length-drop a f)))

module _ (mode : Mode) (file : List ℕ) (at n : ℕ) (opened : ok n ≡ region_len (length file) at) where
  abbrev s : List ℕ
  s = take n file

  -- a query at an offset of the region
  asked : {A : Type 0} (q : ℕ) → q < length s → (k : List ℕ → Answer Fault A) → in_region file q k ≡ k s
  asked q h k = in_region_of file q n (region_any (length file) at n opened q (omega (arith, length_region file at n opened))) k

  reads : (p : ℕ) (h : Head) → p < length s → ok h ≡ peek_in mode false s p → read_of mode file p ≡ ok (value_on s p h)
  unfolding read_in
  reads p h less peeked = asked p less (λ s. read_in mode s p) ∙ sym (bind_ok _ peeked refl)

  -- ---- keys

  module _ (key : List ℕ) (q : ℕ) (less : q < length s) where
    follows_in : follow_of mode file q ≡ follow_in mode s q
    follows_in = asked q less (λ s. follow_in mode s q)

    -- where following leads
    module _ (m : Followed) (e : ok m ≡ follow_from mode s (position q 0)) where
      follows_to : follow_of mode file q ≡ ok (m.place, m.hops)
      unfolding follow_in
      follows_to = follows_in ∙ sym (bind_ok _ e refl)

      reads_there : read_of mode file m.place ≡ ok (value_on s m.place m.head)
      reads_there =
          let f = follow_head_inv mode s (position q 0) m e in
          reads m.place m.head (omega (arith, f.down)) f.peeked

      text_body : m.head.kind ≡ 4 → body_of mode file q ≡ body_on s m.head
      unfolding body_place_in
      text_body k =
          let w = followed_within mode s (position q 0) m e in
          let h = m.head in
          let place : body_place_of mode file q ≡ ok (h.first, h.end - h.first) = asked q less (λ s. body_place_in mode s q) ∙ sym (bind_ok _ e (rw k)) in
          rw place (sym (part_front n h.first (h.end - h.first) file (omega (arith, w.body, w.end))))

    follow_by : {X : Type 0} (place hops : ℕ) → follow_of mode file q ≡ ok (place, hops)
        → ((m : Followed) → ok m ≡ follow_from mode s (position q 0) → m.place ≡ place → X) → X
    unfolding follow_in
    follow_by place hops e k =
        bind_ok_by _ _ (sym e ∙ follows_in) (λ m f r.
        let pair : ◌≡◌ {A = ℕ × ℕ} (place, hops) (m.place, m.hops) = cc in
        k m f (sym (ap (λ (y : ℕ × ℕ). y.0) pair)))

    in_keyed : KeyIn mode s key true q → Keyed mode file q key
    in_keyed i =
        let m = i.followed in
        let h = m.head in
        let text : h.kind ≡ 4 = eqb-true h.kind 4 (and_l (eqb h.kind 4) _ i.decided) in
        record {
          place = m.place;
          hops = m.hops;
          follows = follows_to m i.follows;
          first = h.first;
          len = h.end - h.first;
          text = reads_there m i.follows ∙ ap ok (sym (value_kind s m.place h 4 text));
          body = text_body m i.follows text ∙ (same_is (body_on s h) key).0 (and_r (eqb h.kind 4) _ i.decided);
        }

    keyed_in : Keyed mode file q key → KeyIn mode s key true q
    keyed_in k =
        follow_by k.place k.hops k.follows (λ m e there.
        let h = m.head in
        let w = followed_within mode s (position q 0) m e in
        let read : ok (Text k.first k.len) ≡ ok (value_on s m.place h) = sym k.text ∙ ap (read_of mode file) (sym there) ∙ reads_there m e in
        let value : Text k.first k.len ≡ value_on s m.place h = cc in
        let text : h.kind ≡ 4 = sym (ap kind_of value ∙ kind_value s m.place h w) in
        let equal : same (body_on s h) key ≡ true = (same_is (body_on s h) key).1 (sym (text_body m e text) ∙ k.body) in
        record { followed = m; follows = e; decided = rw (text, equal) })

    -- a key that is followed and is another
    in_other : KeyIn mode s key false q → Keyed mode file q key → ⊥
    in_other i k =
        let j = keyed_in k in
        let one : i.followed ≡ j.followed = cc (i.follows, j.follows) in
        false≢true (sym i.decided ∙ ap (λ (m : Followed). is_key s key m.head) one ∙ j.decided)

    decide : (m : Followed) → ok m ≡ follow_from mode s (position q 0) → (t : Bool) → is_key s key m.head ≡ t
        → Keyed mode file q key ⊎ (Keyed mode file q key → ⊥)
    decide m f true t = inl (in_keyed (record { followed = m; follows = f; decided = t }))
    decide m f false t = inr (in_other (record { followed = m; follows = f; decided = t }))

    other_in : (place hops : ℕ) → follow_of mode file q ≡ ok (place, hops) → (Keyed mode file q key → ⊥) → KeyIn mode s key false q
    other_in place hops e other = follow_by place hops e (λ m f there. by_cases m f (is_key s key m.head) refl)
      where
        by_cases : (m : Followed) → ok m ≡ follow_from mode s (position q 0) → (t : Bool) → is_key s key m.head ≡ t → KeyIn mode s key false q
        by_cases m f true t = absurd (other (in_keyed (record { followed = m; follows = f; decided = t })))
        by_cases m f false t = record { followed = m; follows = f; decided = t }

  -- ---- a map

  module _ (h : Head) (peeked : ok h ≡ peek_in mode false s at) where
    within : Within s at h
    within = scan_within mode false s at h (peek_scan mode false s at h peeked)

    start : at < length s
    start = omega (arith, within.numbers, within.body, within.end)

    module _ (kind : h.kind ≡ 7) (key : List ℕ) where
      map_value : read_of mode file at ≡ ok (Map h.n h.items h.first)
      map_value = reads at h start peeked ∙ ap ok (sym (value_kind s at h 7 kind))

      map_items : h.items ≡ 2 * h.n
      unfolding rule
      map_items = within.counted (rw kind) ∙ rw kind (omega arith)

      holds : immediate (rule h.kind) ≡ false
      unfolding rule
      holds = rw kind

      item_found_at : (i p : ℕ) → i < h.items → ok p ≡ skip_items mode s i h.end → p < length s → item_of mode file at i ≡ ok p
      item_found_at i p less walked inside =
          asked at start (λ s. item_in mode s at i)
          ∙ sym (item_in_on mode s at i p (record { head = h; peeked = peeked; holds = holds; less = less; walked = walked; inside = inside }))

      item_by : {X : Type 0} (i p : ℕ) → item_of mode file at i ≡ ok p → (i < h.items → ok p ≡ skip_items mode s i h.end → p < length s → X) → X
      item_by i p e k =
          let f = item_found mode s at i p (sym e ∙ asked at start (λ s. item_in mode s at i)) in
          let one : f.head ≡ h = cc f.peeked in
          k (rw one at f.less) (rw one at f.walked) f.inside

      other_of : (j : ℕ) → j < h.n → OtherIn mode s key h.end j → OtherKey mode file at j key
      other_of j less o =
          let m = o.other.followed in
          record {
            q = o.place;
            here = item_found_at (2 * j) o.place (omega (arith, map_items)) o.walked o.inside;
            place = m.place;
            hops = m.hops;
            follows = follows_to key o.place o.inside m o.other.follows;
            other = in_other key o.place o.inside o.other;
          }

      of_other : (j : ℕ) → OtherKey mode file at j key → OtherIn mode s key h.end j
      of_other j o =
          item_by (2 * j) o.q o.here (λ less walked inside.
          record { place = o.q; walked = walked; inside = inside; other = other_in key o.q inside o.place o.hops o.follows o.other })

      found_of : (x : ℕ) → FoundIn mode s key h.n h.end x → Found mode file at key x
      found_of x f = record {
        pairs = h.n;
        items = h.items;
        first = h.first;
        map = map_value;
        i = f.i;
        q = f.place;
        here = item_found_at (2 * f.i) f.place (omega (arith, map_items, f.less)) f.walked f.start;
        keyed = in_keyed key f.place f.start f.keyed;
        value = item_found_at (2 * f.i + 1) x (omega (arith, map_items, f.less)) f.next f.inside;
        others = λ j less. other_of j (omega (arith, f.less)) (f.others j less);
      }

      of_found : (x : ℕ) → Found mode file at key x → FoundIn mode s key h.n h.end x
      of_found x f =
          item_by (2 * f.i) f.q f.here (λ less walked start.
          item_by (2 * f.i + 1) x f.value (λ more next inside.
          record {
            i = f.i;
            less = omega (arith, map_items);
            place = f.q;
            walked = walked;
            start = start;
            keyed = keyed_in key f.q start f.keyed;
            next = next;
            inside = inside;
            others = λ j l. of_other j (f.others j l);
          }))

      missing_of : MissingIn mode s key h.n h.end → Missing mode file at key
      unfolding skip_in
      missing_of m = record {
        pairs = h.n;
        items = h.items;
        first = h.first;
        map = map_value;
        end = m.end;
        skips = asked at start (λ s. skip_in mode s at) ∙ sym (bind_ok _ peeked (rw map_items m.walked));
        others = λ j less. other_of j less (m.others j less);
      }

      of_missing : (m : Missing mode file at key) → m.pairs ≡ h.n → MissingIn mode s key h.n h.end
      unfolding skip_in
      of_missing m one = record {
        end = m.end;
        walked = bind_ok_by _ _ (sym m.skips ∙ asked at start (λ s. skip_in mode s at)) (λ g e w. let same : g ≡ h = cc in rw (← map_items) (rw same at w));
        others = λ j less. of_other j (m.others j (rw one less));
      }

      looks : lookup_of mode file at key ≡ pairs mode s at key h.n h.end
      unfolding lookup_in
      looks = asked at start (λ s. lookup_in mode s at key) ∙ sym (bind_ok _ peeked (rw kind))

-- what is followed without fault is the key, or is not
pub keyed_or_not : {mode : Mode} (file : List ℕ) (q : ℕ) (key : List ℕ) (place hops : ℕ) → follow_of mode file q ≡ ok (place, hops)
    → Keyed mode file q key ⊎ (Keyed mode file q key → ⊥)
unfolding in_region
keyed_or_not {mode} file q key place hops e =
    bind_ok_by _ _ (sym e) (λ n opened r.
    let less : q < length (take n file) = omega (arith, region_lt (length file) q n opened, length_region file q n opened) in
    follow_by mode file q n opened key q less place hops e (λ m f there. decide mode file q n opened key q less m f (is_key (take n file) key m.head) refl))

-- ---- what is answered

-- by the head of a value that reads
head_by : (mode : Mode) {X : Type 0} (file : List ℕ) (at : ℕ) (v : Value) → read_of mode file at ≡ ok v
    → ((n : ℕ) (opened : ok n ≡ region_len (length file) at) (h : Head) (peeked : ok h ≡ peek_in mode false (take n file) at)
    → v ≡ value_on (take n file) at h → h.kind ≡ kind_of v → X) → X
head_by mode file at v e k =
    read_by mode file at v e (λ n h opened peeked same.
    k n opened h peeked same (sym (ap kind_of same ∙ kind_value (take n file) at h (within mode file at n opened h peeked))))

pick_ok_by : {X : Type 0} {x : ℕ} (t : Bool) (r : Answer Fault ℕ) (f : Fault) → ok x ≡ pick t r (error f) → (t ≡ true → ok x ≡ r → X) → X
pick_ok_by true r f e k = k refl e
pick_ok_by false r f e k = let z : ◌≡◌ {A = ℕ} 0 1 = cc in absurd (omega arith)

pick_error_by : {X : Type 0} {g : Fault} (t : Bool) (r : Answer Fault ℕ) (f : Fault) → error g ≡ pick t r (error f) → (t ≡ true → error g ≡ r → X)
    → (t ≡ false → g ≡ f → X) → X
pick_error_by true r f e k l = k refl e
pick_error_by false r f e k l = l refl (cc)

module _ (mode : Mode) (file : List ℕ) (at : ℕ) (key : List ℕ) where
  pub lookup_found : (x : ℕ) → lookup_of mode file at key ≡ ok x → Found mode file at key x
  unfolding in_region lookup_in
  lookup_found x e =
      bind_ok_by _ _ (sym e) (λ n opened q.
      bind_ok_by _ _ q (λ h peeked r.
      pick_ok_by (eqb h.kind 7) _ _ r (λ t p.
      found_of mode file at n opened h peeked (eqb-true h.kind 7 t) key x (pairs_found mode (take n file) key at h.n h.end x p))))

  pub found_lookup : (x : ℕ) → Found mode file at key x → lookup_of mode file at key ≡ ok x
  found_lookup x f =
      head_by mode file at (Map f.pairs f.items f.first) f.map (λ n opened h peeked same kind.
      looks mode file at n opened h peeked kind key
      ∙ sym (found_pairs mode (take n file) key at h.n h.end x (of_found mode file at n opened h peeked kind key x f)))

  pub lookup_found_exactly : (x : ℕ) → (lookup_of mode file at key ≡ ok x) ↔ Found mode file at key x
  lookup_found_exactly x = (lookup_found x, found_lookup x)

  -- an error is one of the token or of skipping, or comes from the pairs of a map, or from another kind
  error_by : {X : Type 0} (f : Fault) → lookup_of mode file at key ≡ error f → (among f.number (skip_errors Strict) ≡ true → X)
      → ((n : ℕ) (opened : ok n ≡ region_len (length file) at) (h : Head) → ok h ≡ peek_in mode false (take n file) at → h.kind ≡ 7
      → error f ≡ pairs mode (take n file) at key h.n h.end → X)
      → ((n : ℕ) (opened : ok n ≡ region_len (length file) at) (h : Head) → ok h ≡ peek_in mode false (take n file) at → (h.kind ≡ 7 → ⊥)
      → f ≡ fault WRONG_KIND at → X)
      → X
  unfolding in_region lookup_in
  error_by f e own map other =
      bind_error_by _ _ (sym e) (λ q. own (region_known (length file) at f q)) (λ n opened q.
      bind_error_by _ _ q (λ r. own (value_known mode (take n file) at f r)) (λ h peeked r.
      pick_error_by (eqb h.kind 7) _ _ r (λ t p. map n opened h peeked (eqb-true h.kind 7 t) p)
      (λ t p. other n opened h peeked (eqb-false h.kind 7 t) p)))

  pub lookup_none : (p : ℕ) → lookup_of mode file at key ≡ error (fault NO_ITEM p) → Missing mode file at key
  unfolding among
  lookup_none p e =
      error_by (fault NO_ITEM p) e (λ q. absurd (false≢true q))
      (λ n opened h peeked kind q. missing_of mode file at n opened h peeked kind key (pairs_missing mode (take n file) key at h.n h.end p q))
      (λ n opened h peeked kind q. absurd (omega (arith, ap (λ (x : Fault). x.number) q)))

  pub none_lookup : Missing mode file at key → lookup_of mode file at key ≡ error (fault NO_ITEM at)
  none_lookup m =
      head_by mode file at (Map m.pairs m.items m.first) m.map (λ n opened h peeked same kind.
      let s = take n file in
      let value : Map m.pairs m.items m.first ≡ Map h.n h.items h.first = same ∙ sym (value_kind s at h 7 kind) in
      let count : m.pairs ≡ h.n = cc in
      looks mode file at n opened h peeked kind key ∙ sym (missing_pairs mode s key at h.n h.end
      (of_missing mode file at n opened h peeked kind key m count)))

  pub lookup_none_exactly : (p : ℕ) → (lookup_of mode file at key ≡ error (fault NO_ITEM p)) ↔ ((p ≡ at) × Missing mode file at key)
  lookup_none_exactly p = (
    λ e.
        let m = lookup_none p e in
        let q = sym e ∙ none_lookup m in
        let one : fault NO_ITEM p ≡ fault NO_ITEM at = cc in
        (ap (λ (x : Fault). x.place) one, m),
    λ m. rw m.0 (none_lookup m.1),
  )

  -- ---- another kind

  pub lookup_kind : (p : ℕ) → lookup_of mode file at key ≡ error (fault WRONG_KIND p) → (p ≡ at) × NoMap mode file at
  unfolding among
  lookup_kind p e =
      error_by (fault WRONG_KIND p) e (λ q. absurd (false≢true q))
      (λ n opened h peeked kind q. absurd (false≢true (pairs_known mode (take n file) at key h.n h.end (fault WRONG_KIND p) q)))
      (λ n opened h peeked kind q. (
        ap (λ (x : Fault). x.place) q,
        record {
          value = value_on (take n file) at h;
          read = reads mode file at n opened at h (start mode file at n opened h peeked) peeked;
          other = λ pairs items first same. kind (sym (kind_value (take n file) at h (within mode file at n opened h peeked)) ∙ ap kind_of same);
        },
      ))

  pub kind_lookup : NoMap mode file at → lookup_of mode file at key ≡ error (fault WRONG_KIND at)
  unfolding lookup_in
  kind_lookup o =
      head_by mode file at o.value o.read (λ n opened h peeked same kind.
      let other : h.kind ≡ 7 → ⊥ = λ k. o.other h.n h.items h.first (same ∙ sym (value_kind (take n file) at h 7 k)) in
      asked mode file at n opened at (start mode file at n opened h peeked) (λ s. lookup_in mode s at key)
      ∙ sym (bind_ok _ peeked (rw (ne_eqb h.kind 7 other))))

  pub lookup_kind_exactly : (p : ℕ) → (lookup_of mode file at key ≡ error (fault WRONG_KIND p)) ↔ ((p ≡ at) × NoMap mode file at)
  lookup_kind_exactly p = (lookup_kind p, λ o. rw o.0 (kind_lookup o.1))
