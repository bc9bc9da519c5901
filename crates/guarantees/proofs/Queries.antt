-- What the queries promise, for every file.
--
-- In order: an item number at or past the count is NO_ITEM (`no_item_on`); in a value that `skip` accepts, item i + 1
-- starts where skipping item i ends (`item_next`), and the last item ends where the value does (`item_last`); following
-- goes down by each hop (`follow_down`); a body is the text or byte string that reading returns at the offset that
-- following reaches (`body_read`).
use mathlib.Core.Path.{◌≡◌, refl, sym, ap, ◌∙◌, subst}
use Prim.Native.Nat.{ℕ, zero, suc, ◌+◌, ◌-◌, ◌≤◌, ◌<◌}
use native.Mathlib.Nat.{zero-add, suc-add}
use mathlib.Core.Bool.{Bool, true, false, ◌||◌}
use mathlib.Core.Logic.{◌⊎◌, inl, inr}
use mathlib.Core.List.{List}
use native.Mathlib.Omega.{arith}
use lib.ListN.{length, take}
use lib.Dec.{eqb, leb, ltb}
use borrow.Author.Tests.{le-leb, lt-leb, lt-ltb, ltb-true, eqb-true}
use Rattle.prelude.specs.Answer.{Answer, ok, error, bind}
use Rattle.prelude.specs.Pick.{pick}
use Rattle.prelude.proofs.Tests.{pick_elim, or_true, facts}
use Rattle.prelude.proofs.Readers.{bind_ok}
use Rattle.error.specs.Error.{Fault, fault, LIMIT, BAD_TARGET, NO_ITEM}
use Rattle.leb128.specs.declared.Mode.{Mode}
use Rattle.kind.specs.Kind.{rule, immediate}
use Rattle.scan.specs.declared.Head.{Head}
use Rattle.scan.proofs.Places.{scan_within, scan_at_item}
use Rattle.reader_region.specs.Region.{region_len, in_region, below, peek_in}
use Rattle.reader_region.proofs.Laws.{in_region_ok, peek_scan}
use Rattle.reader_value.specs.Value.{value_on, read_in, read_of}
use Rattle.reader_value.specs.declared.Value.TheVariants.{Text, Bytes}
use Rattle.reader_value.proofs.Laws.{value_kind}
use Rattle.reader_items.specs.Items.{skip_items, skip_in, starts_in, item_on, item_in, item_of}
use Rattle.reader_items.proofs.Laws.{walk_none}
use Rattle.reader_follow.specs.Follow.{Followed, position, follow_from, follow_in, follow_of}
use Rattle.reader_follow.proofs.Laws.{follow_head_inv, follow_leads, FollowsTo}
use Rattle.reader_body.specs.Body.{body_place_on, body_place_in, body_place_of}

-- for a value that reads without fault and has items, whatever comes after it
pub no_item_on : (mode : Mode) (file : List ℕ) (at i n : ℕ) (h : Head) → ok n ≡ region_len (length file) at → ok h ≡ peek_in mode false (take n file) at
    → immediate (rule h.kind) ≡ false → h.items ≤ i → error (fault NO_ITEM at) ≡ item_of mode file at i
unfolding item_in item_on
no_item_on mode file at i n h in_region peeked kind past =
    in_region_ok file at (λ s. item_in mode s at i) n in_region (bind_ok (item_on mode (take n file) at i) peeked (rw (kind, le-leb _ _ past)))

-- ---- items one after the other

module _ (mode : Mode) (s : List ℕ) where
  -- an item, skipped as a value of its own, ends where it ends as an item
  skip_item : (q : ℕ) (h : Head) → ok h ≡ peek_in mode true s q → ok h.end ≡ skip_in mode s q
  unfolding peek_in skip_in bind
  skip_item q h e =
      let scanned = peek_scan mode true s q h e in
      let i = scan_at_item mode s q h scanned in
      let peeked : ok h ≡ pick (below q h) (error (fault BAD_TARGET q)) (ok h) = rw (← scanned) at e in
      bind_ok _ (bind_ok _ i.value peeked) (walk_none mode s h.end h.items (omega (arith, i.none)))

  -- one item more
  pub walk_suc : (k q : ℕ) → skip_items mode s (suc k) q ≡ bind (skip_items mode s k q) (λ p. bind (peek_in mode true s p) (λ h. ok h.end))
  unfolding skip_items bind
  walk_suc zero q = refl
  walk_suc (suc k) q = by_cases (peek_in mode true s q) (walk_suc k)
    where
      by_cases : (a : Answer Fault Head)
          → ((p : ℕ) → skip_items mode s (suc k) p ≡ bind (skip_items mode s k p) (λ p. bind (peek_in mode true s p) (λ h. ok h.end)))
          → bind a (λ h. skip_items mode s (suc k) h.end)
          ≡ bind (bind a (λ h. skip_items mode s k h.end)) (λ p. bind (peek_in mode true s p) (λ h. ok h.end))
      by_cases (ok h) more = more h.end
      by_cases (error e) more = refl

  walk_next : (k q p e : ℕ) → ok p ≡ skip_items mode s k q → ok e ≡ skip_items mode s (suc k) q → ok e ≡ skip_in mode s p
  unfolding bind
  walk_next k q p e here next = by_cases (peek_in mode true s p) refl (rw (walk_suc k q, ← here) at next)
    where
      by_cases : (a : Answer Fault Head) → peek_in mode true s p ≡ a → ok e ≡ bind a (λ h. ok h.end) → ok e ≡ skip_in mode s p
      by_cases (ok h) q e' = e' ∙ skip_item p h (sym q)
      by_cases (error f) q e' = let z : ◌≡◌ {A = ℕ} 0 1 = cc in absurd (omega arith)

  -- some items, and then some more
  walk_add : (j k q : ℕ) → skip_items mode s (j + k) q ≡ bind (skip_items mode s j q) (skip_items mode s k)
  unfolding skip_items bind
  walk_add zero k q = rw zero-add
  walk_add (suc j) k q = rw (suc-add j k) (by_cases (peek_in mode true s q) (walk_add j k))
    where
      by_cases : (a : Answer Fault Head) → ((p : ℕ) → skip_items mode s (j + k) p ≡ bind (skip_items mode s j p) (skip_items mode s k))
          → bind a (λ h. skip_items mode s (j + k) h.end) ≡ bind (bind a (λ h. skip_items mode s j h.end)) (skip_items mode s k)
      by_cases (ok h) more = more h.end
      by_cases (error e) more = refl

  -- a token that was looked at starts in the region
  pub peek_lt : (inner : Bool) (q : ℕ) (h : Head) → ok h ≡ peek_in mode inner s q → q < length s
  peek_lt inner q h e = let w = scan_within mode inner s q h (peek_scan mode inner s q h e) in omega (arith, w.numbers, w.body, w.end)

  -- an item that was skipped started in the region
  walk_lt : (k q e : ℕ) → ok e ≡ skip_items mode s (suc k) q → q < length s
  unfolding skip_items bind
  walk_lt k q e w = by_cases (peek_in mode true s q) refl w
    where
      by_cases : (a : Answer Fault Head) → peek_in mode true s q ≡ a → ok e ≡ bind a (λ h. skip_items mode s k h.end) → q < length s
      by_cases (ok h) l e' = peek_lt true q h (sym l)
      by_cases (error f) l e' = let z : ◌≡◌ {A = ℕ} 0 1 = cc in absurd (omega arith)

  -- what an item's offset rests on
  pub record ItemFound (at i p : ℕ) : Type 0 where
    pub head : Head
    pub peeked : ok head ≡ peek_in mode false s at
    pub holds : immediate (rule head.kind) ≡ false
    pub less : i < head.items
    pub walked : ok p ≡ skip_items mode s i head.end
    pub inside : p < length s

  abbrev Finds : ℕ → ℕ → Answer Fault ℕ → Type 0
  Finds at i (ok p) = ItemFound at i p
  Finds at i (error e) = Unit {0}

  finds : (at i : ℕ) → Finds at i (item_in mode s at i)
  unfolding item_in item_on starts_in bind
  finds at i = by_head (peek_in mode false s at) refl
    where
      by_walk : (h : Head) → ok h ≡ peek_in mode false s at → immediate (rule h.kind) ≡ false → i < h.items → (a : Answer Fault ℕ)
          → a ≡ skip_items mode s i h.end
          → Finds at i (bind a (starts_in (length s)))
      by_walk h e k l (ok p) w =
          pick_elim (Finds at i) (ltb p (length s))
          (λ t. record { head = h; peeked = e; holds = k; less = l; walked = w; inside = ltb-true p (length s) t }) (λ t. tt)
      by_walk h e k l (error f) w = tt

      by_head : (a : Answer Fault Head) → peek_in mode false s at ≡ a → Finds at i (bind a (item_on mode s at i))
      by_head (ok h) e =
          pick_elim (Finds at i) (immediate (rule h.kind)) (λ t. tt)
          (λ t. pick_elim (Finds at i) (leb h.items i) (λ u. tt) (λ u. by_walk h (sym e) t (omega facts) (skip_items mode s i h.end) refl))
      by_head (error f) e = tt

  pub item_found : (at i p : ℕ) → ok p ≡ item_in mode s at i → ItemFound at i p
  item_found at i p e = subst (Finds at i) (sym e) (finds at i)

  pub item_in_on : (at i p : ℕ) → ItemFound at i p → ok p ≡ item_in mode s at i
  unfolding item_in item_on starts_in
  item_in_on at i p f = bind_ok _ f.peeked (rw (f.holds, lt-leb _ _ f.less) (bind_ok _ f.walked (rw (lt-ltb _ _ f.inside))))

  -- of a value that `skip` accepts, item i + 1 starts where skipping item i ends
  pub item_in_next : (at i p e : ℕ) (h : Head) → ok h ≡ peek_in mode false s at → ok e ≡ skip_in mode s at → suc i < h.items → ok p ≡ item_in mode s at i
      → item_in mode s at (suc i) ≡ skip_in mode s p
  unfolding skip_in item_in item_on starts_in bind
  item_in_next at i p e h peeked end more here =
      let f = item_found at i p here in
      let same : f.head ≡ h = cc f.peeked in
      let holds : immediate (rule h.kind) ≡ false = rw same at f.holds in
      let walked : ok p ≡ skip_items mode s i h.end = rw same at f.walked in
      let count : h.items ≡ suc i + suc (h.items - suc i - 1) = omega arith in
      let all : ok e ≡ skip_items mode s h.items h.end = rw (← peeked) at end in
      by_cases holds walked (skip_items mode s (suc i) h.end) refl (rw (count, walk_add (suc i) (suc (h.items - suc i - 1)) h.end) at all)
    where
      by_cases : immediate (rule h.kind) ≡ false → ok p ≡ skip_items mode s i h.end → (a : Answer Fault ℕ) → skip_items mode s (suc i) h.end ≡ a
          → ok e ≡ bind a (skip_items mode s (suc (h.items - suc i - 1))) → item_in mode s at (suc i) ≡ skip_in mode s p
      by_cases k w (ok x) q rest =
          let lt = walk_lt (h.items - suc i - 1) x e rest in
          rw (← peeked, k, lt-leb h.items (suc i) more, q, lt-ltb x (length s) lt) (walk_next i h.end p x w (sym q))
      by_cases k w (error f) q rest = let z : ◌≡◌ {A = ℕ} 0 1 = cc in absurd (omega arith)

  pub item_in_last : (at i p e : ℕ) (h : Head) → ok h ≡ peek_in mode false s at → h.items ≡ suc i → ok p ≡ item_in mode s at i → ok e ≡ skip_in mode s at
      → ok e ≡ skip_in mode s p
  unfolding skip_in bind
  item_in_last at i p e h peeked count here end =
      let f = item_found at i p here in
      let same : f.head ≡ h = cc f.peeked in
      let all : ok e ≡ skip_items mode s (suc i) h.end = rw count at (rw (← peeked) at end) in
      walk_next i h.end p e (rw same at f.walked) all

-- ---- following

-- the offset reached and the pointers met add up to no more than the offset asked for
abbrev Down : ℕ → Answer Fault (ℕ × ℕ) → Type 0
Down at (ok p) = p.0 + p.1 ≤ at
Down at (error e) = Unit {0}

follow_in_down : (mode : Mode) (s : List ℕ) (at : ℕ) → Down at (follow_in mode s at)
unfolding follow_in bind
follow_in_down mode s at = by_cases (follow_from mode s (position at 0)) (follow_leads mode s (position at 0))
  where
    by_cases : (a : Answer Fault Followed) → FollowsTo mode s (position at 0) a → Down at (bind a (λ m. ok (m.place, m.hops)))
    by_cases (ok m) r = omega (arith, r.down)
    by_cases (error e) r = tt

follow_downs : (mode : Mode) (file : List ℕ) (at : ℕ) → Down at (follow_of mode file at)
unfolding in_region bind
follow_downs mode file at = by_cases (region_len (length file) at)
  where
    by_cases : (a : Answer Fault ℕ) → Down at (bind a (λ n. follow_in mode (take n file) at))
    by_cases (ok n) = follow_in_down mode (take n file) at
    by_cases (error e) = tt

pub follow_down : (mode : Mode) (file : List ℕ) (at place hops : ℕ) → ok (place, hops) ≡ follow_of mode file at → place + hops ≤ at
follow_down mode file at place hops e = subst (Down at) (sym e) (follow_downs mode file at)

-- ---- bodies

-- the region is the same for every offset up to this one
abbrev Opened : ℕ → ℕ → Answer Fault ℕ → Type 0
Opened len at (ok n) = (at < n) × ((p : ℕ) → p < n → ok n ≡ region_len len p)
Opened len at (error e) = Unit {0}

opened : (len at : ℕ) → Opened len at (region_len len at)
unfolding region_len
opened len at =
    pick_elim (Opened len at) (eqb len 0) (λ e. tt)
    (λ e. pick_elim (Opened len at) (ltb LIMIT len) (λ f. tt)
    (λ f. pick_elim (Opened len at) (ltb at (len - 1)) (λ g. (ltb-true at (len - 1) g, λ p h. rw (e, f, lt-ltb p (len - 1) h))) (λ g. tt)))

module _ (len at n : ℕ) (e : ok n ≡ region_len len at) where
  pub region_lt : at < n
  region_lt = (subst (Opened len at) (sym e) (opened len at)).0

  pub region_any : (p : ℕ) → p < n → ok n ≡ region_len len p
  region_any p h = (subst (Opened len at) (sym e) (opened len at)).1 p h

-- a query at an offset of a region is answered in it
pub in_region_of : {A : Type 0} (file : List ℕ) (at n : ℕ) → ok n ≡ region_len (length file) at → (k : List ℕ → Answer Fault A)
    → in_region file at k ≡ k (take n file)
in_region_of file at n e k = sym (in_region_ok file at k n e refl)

-- the part of len bytes from `first` on is the text or byte string that reading returns at the offset that following
-- from `at` reaches
pub record Body (mode : Mode) (file : List ℕ) (at first len : ℕ) : Type 0 where
  pub place : ℕ
  pub hops : ℕ
  pub follows : ok (place, hops) ≡ follow_of mode file at
  pub reads : (ok (Text first len) ≡ read_of mode file place) ⊎ (ok (Bytes first len) ≡ read_of mode file place)

abbrev Bodied : Mode → List ℕ → ℕ → Answer Fault (ℕ × ℕ) → Type 0
Bodied mode file at (ok p) = Body mode file at p.0 p.1
Bodied mode file at (error e) = Unit {0}

module _ (mode : Mode) (file : List ℕ) (at n : ℕ) (opened : ok n ≡ region_len (length file) at) where
  abbrev region : List ℕ
  region = take n file

  body_followed : (m : Followed) → ok m ≡ follow_from mode region (position at 0) → Bodied mode file at (body_place_on m.place m.head)
  unfolding follow_in read_in
  body_followed m e =
      let r = follow_head_inv mode region (position at 0) m e in
      let h = m.head in
      let here = region_any (length file) at n opened m.place (omega (arith, r.down, region_lt (length file) at n opened)) in
      let follows : ok (m.place, m.hops) ≡ follow_of mode file at = in_region_ok file at (λ s. follow_in mode s at) n opened (bind_ok _ e refl) in
      let reads : ok (value_on region m.place h) ≡ read_of mode file m.place = in_region_ok file m.place (λ s. read_in mode s m.place) n here
      (bind_ok _ r.peeked refl) in
      pick_elim (Bodied mode file at) (eqb h.kind 4 || eqb h.kind 5)
      (λ t. record {
        place = m.place;
        hops = m.hops;
        follows = follows;
        reads = or_true (eqb h.kind 4) (eqb h.kind 5) t
            (λ k. inl (ap ok (value_kind region m.place h 4 (eqb-true h.kind 4 k)) ∙ reads))
            (λ k. inr (ap ok (value_kind region m.place h 5 (eqb-true h.kind 5 k)) ∙ reads));
      })
      (λ t. tt)

  body_bodied : Bodied mode file at (body_place_in mode region at)
  unfolding body_place_in bind
  body_bodied = by_cases (follow_from mode region (position at 0)) refl
    where
      by_cases : (a : Answer Fault Followed) → follow_from mode region (position at 0) ≡ a → Bodied mode file at (bind a (λ m. body_place_on m.place m.head))
      by_cases (ok m) e = body_followed m (sym e)
      by_cases (error f) e = tt

body_bodies : (mode : Mode) (file : List ℕ) (at : ℕ) → Bodied mode file at (body_place_of mode file at)
unfolding in_region bind
body_bodies mode file at = by_cases (region_len (length file) at) refl
  where
    by_cases : (a : Answer Fault ℕ) → region_len (length file) at ≡ a → Bodied mode file at (bind a (λ n. body_place_in mode (take n file) at))
    by_cases (ok n) e = body_bodied mode file at n (sym e)
    by_cases (error f) e = tt

pub body_read : {mode : Mode} (file : List ℕ) (at first len : ℕ) → ok (first, len) ≡ body_place_of mode file at → Body mode file at first len
body_read {mode} file at first len e = subst (Bodied mode file at) (sym e) (body_bodies mode file at)
