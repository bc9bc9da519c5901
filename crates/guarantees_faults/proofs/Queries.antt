-- The queries answer, and refuse, exactly as specs/Queries.antt says, on every file.
--
-- In order: a file and its region; a token that is read, or refused, and what is made of it (`peek_on`, `peek_fails`, `peek_elim`); items one after the
-- other; skipping; the query for an item; following; the query for a body. Of each first that its answer is a row (`..-row`), then that a row is its
-- answer (`..-is`); last, both ways, of files.
use mathlib.Core.Path.{◌≡◌, refl, sym, ap, ◌∙◌, subst}
use mathlib.Core.Logic.{◌↔◌, ◌⊎◌, inl, inr}
use mathlib.Core.Bool.{Bool, true, false, ◌&&◌, ◌||◌}
use mathlib.Core.List.{List}
use Prim.Native.Nat.{ℕ, zero, suc, ◌+◌, ◌-◌, ◌/◌, ◌≤◌, ◌<◌}
use native.Mathlib.Omega.{arith}
use borrow.Author.Tests.{eqb-true, eqb-false, eq-eqb, ne_eqb, leb-true, leb-false, le-leb, lt-leb, ltb-true, ltb-false, lt-ltb, le-ltb}
use lib.Dec.{eqb, ltb, leb}
use lib.ListN.{length, take}
use Rattle.prelude.specs.Pick.{pick}
use Rattle.prelude.specs.Answer.{Answer, ok, error, bind}
use Rattle.prelude.proofs.Tests.{pick_elim, and_l, and_r, or_true, or_false, facts}
use Rattle.error.specs.Error.{Fault, fault, LIMIT, BAD_TARGET}
use Rattle.leb128.specs.declared.Mode.{Mode}
use Rattle.kind.specs.Kind.{rule, size, immediate}
use Rattle.scan.specs.Answers.{scan_at, body_on}
use Rattle.scan.specs.declared.Head.{Head}
use Rattle.reader_region.specs.Region.{region_len, in_region, below, peek_in, peek_of}
use Rattle.reader_value.specs.Value.{value_on, read_in, read_of}
use Rattle.reader_value.specs.declared.Value.{Value}
use Rattle.reader_items.specs.Items.{skip_items, skip_in, skip_of, starts_in, item_on, item_in, item_of}
use Rattle.reader_follow.specs.Follow.{Followed, followed, position, follow_from, follow_in, follow_of}
use Rattle.reader_follow.proofs.Laws.{follow_from_pointer, follow_from_end, follow_from_error}
use Rattle.reader_body.specs.Body.{body_place_in, body_place_of}
use Rattle.guarantees_faults.specs.Faults.{Whole}
use Rattle.guarantees_faults.specs.Queries as queries
use Rattle.guarantees_faults.specs.Queries.{AnsweredQuery, RefusedQuery, Read, head_of, RefusedRead}
use Rattle.guarantees_faults.specs.Queries.{Items, RefusedItems, Skips, RefusedSkip, HasItem, RefusedItem}
use Rattle.guarantees_faults.specs.Queries.{Reaches, RefusedFollow, HasBody, RefusedBody}
use Rattle.guarantees_faults.proofs.Heads.{head_of_whole, whole_body, whole_first, whole_end, whole_size, scan_at_whole, error_of_head, Scans, scan_at_scans}
use Rattle.guarantees_faults.proofs.Refused.{excluded, excluded_by}

-- an answer is one of the rows G, an error one of the rows P
abbrev pub Row : {A : Type 0} → (A → Type 0) → (Fault → Type 0) → Answer Fault A → Type 0
Row G P (ok a) = G a
Row G P (error f) = P f

-- ---- a file and its region

module _ {A : Type 0} (k : List ℕ → Answer Fault A) (G : List ℕ → A → Type 0) (P : List ℕ → Fault → Type 0) (file : List ℕ) (at : ℕ) where
  abbrev pub Asked : Answer Fault A → Type 0
  Asked = Row (λ a. AnsweredQuery file at (λ s. G s a)) (RefusedQuery file at P)

  abbrev Asks : Answer Fault ℕ → Type 0
  Asks r = Asked (bind r (λ n. k (take n file)))

  query_row : ((s : List ℕ) → Row (G s) (P s) (k s)) → Asked (in_region file at k)
  unfolding in_region region_len bind
  query_row in_region_len =
      pick_elim Asks (eqb (length file) 0) (λ e. queries.empty (eqb-true _ _ e)) (λ some.
      let pos = eqb-false (length file) 0 some in
      pick_elim Asks (ltb LIMIT (length file)) (λ e. queries.long (ltb-true _ _ e)) (λ short.
      pick_elim Asks (ltb at (length file - 1)) (λ low. by_cases (ltb-false _ _ short) (ltb-true _ _ low) (k (take (length file - 1) file)) (in_region_len _))
      (λ out. queries.outside (omega arith) (omega facts) (omega facts))))
    where
      by_cases : length file ≤ LIMIT → at < length file - 1 → (a : Answer Fault A)
          → Row (G (take (length file - 1) file)) (P (take (length file - 1) file)) a → Asked a
      by_cases short low (ok a) x = record { short = short; inside = low; answers = x }
      by_cases short low (error f) x = queries.inside short low x

  query_is : ((s : List ℕ) (a : Answer Fault A) → Row (G s) (P s) a → k s ≡ a) → (a : Answer Fault A) → Asked a → in_region file at k ≡ a
  unfolding in_region region_len bind
  query_is in_region_len (ok a) x =
      let low = x.inside in
      rw (ne_eqb (length file) 0 (λ e. omega arith), le-ltb _ _ x.short, lt-ltb _ _ low) (in_region_len _ (ok a) x.answers)
  query_is in_region_len (error f) (queries.empty z) = rw (eq-eqb _ _ z)
  query_is in_region_len (error f) (queries.long l) = rw (ne_eqb (length file) 0 (λ e. omega arith), lt-ltb _ _ l)
  query_is in_region_len (error f) (queries.outside pos l out) =
      rw (ne_eqb (length file) 0 (λ e. omega arith), le-ltb LIMIT (length file) (omega arith), le-ltb at (length file - 1) (omega arith))
  query_is in_region_len (error f) (queries.inside l low x) =
      rw (ne_eqb (length file) 0 (λ e. omega arith), le-ltb _ _ l, lt-ltb _ _ low) (in_region_len _ (error f) x)

  abbrev pub Exactly : Type 0
  Exactly = (a : Answer Fault A) → (in_region file at k ≡ a) ↔ Asked a

  pub query_exactly : ((s : List ℕ) → Row (G s) (P s) (k s)) → ((s : List ℕ) (a : Answer Fault A) → Row (G s) (P s) a → k s ≡ a) → Exactly
  query_exactly row is a = (λ e. subst Asked e (query_row row), query_is is a)

module _ (mode : Mode) (s : List ℕ) where
  -- ---- a token

  module _ (inner : Bool) (q : ℕ) where
    same_head : (r : Read mode s inner q) → head_of_whole mode s inner q r.whole ≡ head_of mode s r
    same_head r =
        let kind : r.header / 16 ≡ r.kind = sym r.kind_is in
        let items : (head_of_whole mode s inner q r.whole).items ≡ r.items = rw kind (sym r.items_are) in
        let first : (head_of_whole mode s inner q r.whole).first ≡ r.first = whole_first mode s inner q r.whole ∙ sym r.first_is in
        let end : (head_of_whole mode s inner q r.whole).end ≡ r.end = whole_end mode s inner q r.whole ∙ sym (r.end_is ∙ rw (r.first_is, r.kind_is)) in
        λ i. record { kind = kind i; n = r.n; items = items i; first = first i; end = end i }

    -- its body is where the head says
    pub body_read : (r : Read mode s inner q) → body_on s (head_of mode s r) ≡ r.body
    body_read r = sym (ap (body_on s) (same_head r)) ∙ whole_body mode s inner q r.whole

    body_len : (r : Read mode s inner q) → length r.body ≡ r.end - r.first
    body_len r = let size : length r.body ≡ size (rule r.kind) r.n = rw r.kind_is (whole_size mode s inner q r.whole) in omega (arith, r.end_is)

    abbrev targeted : Head → Answer Fault Head
    targeted h = pick (below q h) (error (fault BAD_TARGET q)) (ok h)

    peek_read : (r : Read mode s inner q) → peek_in mode inner s q ≡ ok (head_of mode s r)
    unfolding peek_in bind
    peek_read r =
        let above = excluded (leb 14 r.kind) (leb q r.n) (λ e. lt-leb q r.n (omega (arith, r.target (leb-true _ _ e)))) in
        rw (scan_at_whole mode s inner q r.whole ∙ ap ok (same_head r), above)

    peek_refused : {f : Fault} → RefusedRead mode s inner q f → peek_in mode inner s q ≡ error f
    unfolding peek_in bind
    peek_refused (queries.head x) = rw (error_of_head mode s inner q x)
    peek_refused (queries.target {h} {n} w ref low) = rw (scan_at_whole mode s inner q w, le-leb _ _ ref, le-leb q n (omega arith))

    abbrev Peeks : Answer Fault Head → Type 0
    Peeks = Row (λ h. (r : Read mode s inner q) × (head_of mode s r ≡ h)) (RefusedRead mode s inner q)

    whole_peeks : {h n : ℕ} {b : List ℕ} (w : Whole mode s inner q h n b) → Peeks (targeted (head_of_whole mode s inner q w))
    whole_peeks {h} {n} w =
        pick_elim Peeks (leb 14 (h / 16) && leb q n)
        (λ e. queries.target w (leb-true _ _ (and_l (leb 14 (h / 16)) _ e)) (leb-true _ _ (and_r (leb 14 (h / 16)) _ e)))
        (λ e.
        let r : Read mode s inner q = record {
          header = h;
          n = n;
          body = _;
          whole = w;
          kind = h / 16;
          kind_is = refl;
          items = (head_of_whole mode s inner q w).items;
          items_are = refl;
          first = (head_of_whole mode s inner q w).first;
          first_is = whole_first mode s inner q w;
          end = (head_of_whole mode s inner q w).end;
          end_is = whole_end mode s inner q w ∙ rw (whole_first mode s inner q w);
          target = λ l. leb-false _ _ (excluded_by (leb 14 (h / 16)) _ e (le-leb _ _ l));
        } in
        (r, refl))

    scans_peeks : (a : Answer Fault Head) → Scans mode s inner q a → Peeks (bind a targeted)
    unfolding bind
    scans_peeks (ok h) x = subst (λ h. Peeks (targeted h)) (sym x.same) (whole_peeks x.whole)
    scans_peeks (error f) x = queries.head x

    peeks : Peeks (peek_in mode inner s q)
    unfolding peek_in
    peeks = scans_peeks (scan_at mode inner s q) (scan_at_scans mode s inner q)

    peek_is : (a : Answer Fault Head) → Peeks a → peek_in mode inner s q ≡ a
    peek_is (ok h) x = peek_read x.0 ∙ ap ok x.1
    peek_is (error f) x = peek_refused x

    -- ---- what is made of a token

    module _ {A : Type 0} (k : Head → Answer Fault A) where
      pub peek_on : (r : Read mode s inner q) → bind (peek_in mode inner s q) k ≡ k (head_of mode s r)
      unfolding bind
      peek_on r = rw (peek_read r)

      pub peek_fails : {f : Fault} → RefusedRead mode s inner q f → bind (peek_in mode inner s q) k ≡ error f
      unfolding bind
      peek_fails x = rw (peek_refused x)

      pub peek_elim : (P : Answer Fault A → Type 0) → ((f : Fault) → RefusedRead mode s inner q f → P (error f))
          → ((r : Read mode s inner q) → P (k (head_of mode s r)))
          → P (bind (peek_in mode inner s q) k)
      unfolding bind
      peek_elim P bads goods = by_cases (peek_in mode inner s q) peeks
        where
          by_cases : (a : Answer Fault Head) → Peeks a → P (bind a k)
          by_cases (ok h) x = subst (λ h. P (k h)) x.1 (goods x.0)
          by_cases (error f) x = bads f x

  -- ---- items one after the other

  items_read : {k q e : ℕ} → Items mode s k q e → skip_items mode s k q ≡ ok e
  unfolding skip_items
  items_read queries.none = refl
  items_read (queries.next r x) = peek_on true _ _ r ∙ items_read x

  items_stop : (k : ℕ) {i q p : ℕ} {f : Fault} → i < k → Items mode s i q p → RefusedRead mode s true p f → skip_items mode s k q ≡ error f
  unfolding skip_items
  items_stop zero l x y = absurd (omega arith)
  items_stop (suc k) l queries.none y = peek_fails true _ _ y
  items_stop (suc k) l (queries.next r x) y = peek_on true _ _ r ∙ items_stop k (omega arith) x y

  items_refused : {k q : ℕ} {f : Fault} → RefusedItems mode s k q f → skip_items mode s k q ≡ error f
  items_refused {k} x = items_stop k x.less x.before x.refused

  abbrev Walks : ℕ → ℕ → Answer Fault ℕ → Type 0
  Walks k q = Row (Items mode s k q) (RefusedItems mode s k q)

  walks_on : (k q : ℕ) (r : Read mode s true q) (a : Answer Fault ℕ) → Walks k r.end a → Walks (suc k) q a
  walks_on k q r (ok e) x = queries.next r x
  walks_on k q r (error f) x = record { i = suc x.i; less = omega (arith, x.less); p = x.p; before = queries.next r x.before; refused = x.refused }

  walks : (k q : ℕ) → Walks k q (skip_items mode s k q)
  unfolding skip_items
  walks zero q = queries.none
  walks (suc k) q =
      peek_elim true q _ (Walks (suc k) q) (λ f x. record { i = 0; less = omega arith; p = q; before = queries.none; refused = x })
      (λ r. walks_on k q r (skip_items mode s k r.end) (walks k r.end))

  -- what is made of the items
  walk_elim : {A : Type 0} (P : Answer Fault A → Type 0) (j : ℕ → Answer Fault A) (k q : ℕ) → ((f : Fault) → RefusedItems mode s k q f → P (error f))
      → ((e : ℕ) → Items mode s k q e → P (j e)) → P (bind (skip_items mode s k q) j)
  unfolding bind
  walk_elim P j k q bads goods = by_cases (skip_items mode s k q) (walks k q)
    where
      by_cases : (a : Answer Fault ℕ) → Walks k q a → P (bind a j)
      by_cases (ok e) x = goods e x
      by_cases (error f) x = bads f x

  -- ---- reading, skipping, and the query for an item

  module _ (q : ℕ) where
    abbrev Shows : Answer Fault Value → Type 0
    Shows = Row (λ v. (r : Read mode s false q) × (value_on s q (head_of mode s r) ≡ v)) (RefusedRead mode s false q)

    read_row_is : Shows (read_in mode s q)
    unfolding read_in
    read_row_is = peek_elim false q _ Shows (λ f x. x) (λ r. (r, refl))

    read_is : (a : Answer Fault Value) → Shows a → read_in mode s q ≡ a
    unfolding read_in
    read_is (ok v) x = peek_on false q _ x.0 ∙ ap ok x.1
    read_is (error f) x = peek_fails false q _ x

    skip_row : Row (Skips mode s q) (RefusedSkip mode s q) (skip_in mode s q)
    unfolding skip_in
    skip_row =
        peek_elim false q _ (Row (Skips mode s q) (RefusedSkip mode s q)) (λ f x. queries.value x)
        (λ r. by_cases r (skip_items mode s r.items r.end) (walks r.items r.end))
      where
        by_cases : (r : Read mode s false q) (a : Answer Fault ℕ) → Walks r.items r.end a → Row (Skips mode s q) (RefusedSkip mode s q) a
        by_cases r (ok e) x = record { value = r; items = x }
        by_cases r (error f) x = queries.items r x

    skip_is : (a : Answer Fault ℕ) → Row (Skips mode s q) (RefusedSkip mode s q) a → skip_in mode s q ≡ a
    unfolding skip_in
    skip_is (ok e) x = peek_on false q _ x.value ∙ items_read x.items
    skip_is (error f) (queries.value x) = peek_fails false q _ x
    skip_is (error f) (queries.items r x) = peek_on false q _ r ∙ items_refused x

    module _ (i : ℕ) where
      abbrev Picks : Answer Fault ℕ → Type 0
      Picks = Row (HasItem mode s q i) (RefusedItem mode s q i)

      item_row : Picks (item_in mode s q i)
      unfolding item_in item_on starts_in
      item_row =
          peek_elim false q _ Picks (λ f x. queries.value x) (λ r.
          pick_elim Picks (immediate (rule r.kind)) (λ flat. queries.kind r flat) (λ deep.
          pick_elim Picks (leb r.items i) (λ e. queries.past r deep (leb-true _ _ e)) (λ e.
          let less = leb-false r.items i e in
          walk_elim Picks _ i r.end (λ f x. queries.before r deep (omega arith) x) (λ p x.
          pick_elim Picks (ltb p (length s)) (λ e. record { value = r; kind = deep; less = less; before = x; inside = ltb-true _ _ e })
          (λ out. queries.ended r deep less x (ltb-false _ _ out))))))

      item_is : (a : Answer Fault ℕ) → Picks a → item_in mode s q i ≡ a
      unfolding item_in item_on starts_in bind
      item_is (ok p) x =
          let below = lt-leb x.value.items i (omega (arith, x.less)) in
          peek_on false q _ x.value ∙ rw (x.kind, below, items_read x.before, lt-ltb _ _ x.inside)
      item_is (error f) (queries.value x) = peek_fails false q _ x
      item_is (error f) (queries.kind r flat) = peek_on false q _ r ∙ rw flat
      item_is (error f) (queries.past r deep l) = peek_on false q _ r ∙ rw (deep, le-leb _ _ l)
      item_is (error f) (queries.before r deep l x) = peek_on false q _ r ∙ rw (deep, lt-leb r.items i (omega arith), items_refused x)
      item_is (error f) (queries.ended r deep l x out) =
          peek_on false q _ r ∙ rw (deep, lt-leb r.items i (omega arith), items_read x, le-ltb _ _ out)

  -- ---- following

  -- after `met` pointers
  pub follow_reaches : {q hops p : ℕ} {v : Read mode s false p} → Reaches mode s q hops p v → (met : ℕ)
      → follow_from mode s (position q met) ≡ ok (followed p (hops + met) (head_of mode s v))
  follow_reaches (queries.here {q} r other) met =
      let none : met ≡ 0 + met = omega arith in
      sym (follow_from_end mode s q met _ (sym (peek_read false q r)) other) ∙ ap (λ n. ok (followed q n (head_of mode s r))) none
  follow_reaches (queries.pointer {q} {hops} {p} {v} r k x) met =
      let one_more : hops + (met + 1) ≡ suc hops + met = omega arith in
      sym (follow_from_pointer mode s q met _ (sym (peek_read false q r)) k) ∙ follow_reaches x (met + 1)
      ∙ ap (λ n. ok (followed p n (head_of mode s v))) one_more

  pub follow_refused : {q : ℕ} {f : Fault} → RefusedFollow mode s q f → (met : ℕ) → follow_from mode s (position q met) ≡ error f
  follow_refused (queries.value x) met = sym (follow_from_error mode s _ met _ (sym (peek_refused false _ x)))
  follow_refused (queries.pointer r k x) met = sym (follow_from_pointer mode s _ met _ (sym (peek_read false _ r)) k) ∙ follow_refused x (met + 1)

  -- what following from q leads to, after `met` pointers
  record Led (q met : ℕ) (m : Followed) : Type 0 where
    pub hops : ℕ
    pub p : ℕ
    pub v : Read mode s false p
    pub reaches : Reaches mode s q hops p v
    pub same : followed p (hops + met) (head_of mode s v) ≡ m

  abbrev Follows : ℕ → ℕ → Answer Fault Followed → Type 0
  Follows q met = Row (Led q met) (RefusedFollow mode s q)

  follows_on : {q : ℕ} (met : ℕ) (r : Read mode s false q) → r.kind ≡ 15 → (a : Answer Fault Followed) → Follows (q - r.n - 1) (met + 1) a → Follows q met a
  follows_on met r k (ok m) x =
      let one_more : suc x.hops + met ≡ x.hops + (met + 1) = omega arith in
      record {
        hops = suc x.hops;
        p = x.p;
        v = x.v;
        reaches = queries.pointer r k x.reaches;
        same = ap (λ n. followed x.p n (head_of mode s x.v)) one_more ∙ x.same;
      }
  follows_on met r k (error f) x = queries.pointer r k x

  -- .. if following from every offset below does so
  follow_turns : (q met : ℕ) → ((p : ℕ) → p < q → Follows p (met + 1) (follow_from mode s (position p (met + 1))))
      → Follows q met (follow_from mode s (position q met))
  follow_turns q met lower = by_cases (peek_in mode false s q) refl (peeks false q)
    where
      by_kind : (r : Read mode s false q) (t : Bool) → eqb r.kind 15 ≡ t → Follows q met (follow_from mode s (position q met))
      by_kind r true e =
          let k = eqb-true r.kind 15 e in
          let down : q - r.n - 1 < q = omega (arith, r.target (omega arith)) in
          subst (Follows q met) (follow_from_pointer mode s q met _ (sym (peek_read false q r)) k)
          (follows_on met r k (follow_from mode s (position (q - r.n - 1) (met + 1))) (lower (q - r.n - 1) down))
      by_kind r false e =
          let other = eqb-false r.kind 15 e in
          let none : 0 + met ≡ met = omega arith in
          subst (Follows q met) (follow_from_end mode s q met _ (sym (peek_read false q r)) other)
          (record { hops = 0; p = q; v = r; reaches = queries.here r other; same = ap (λ n. followed q n (head_of mode s r)) none })

      by_cases : (a : Answer Fault Head) → peek_in mode false s q ≡ a → Peeks false q a → Follows q met (follow_from mode s (position q met))
      by_cases (ok h) e x = by_kind x.0 _ refl
      by_cases (error f) e x = subst (Follows q met) (follow_from_error mode s q met f (sym e)) (queries.value x)

  follows : (most q met : ℕ) → q < most → Follows q met (follow_from mode s (position q met))
  follows zero q met l = absurd (omega arith)
  follows (suc most) q met l = follow_turns q met (λ p down. follows most p (met + 1) (omega arith))

  -- what is made of where it leads
  pub follow_elim : {A : Type 0} (P : Answer Fault A → Type 0) (j : Followed → Answer Fault A) (q : ℕ) → ((f : Fault) → RefusedFollow mode s q f → P (error f))
      → ((hops p : ℕ) (v : Read mode s false p) → Reaches mode s q hops p v → P (j (followed p hops (head_of mode s v))))
      → P (bind (follow_from mode s (position q 0)) j)
  unfolding bind
  follow_elim P j q bads goods = by_cases (follow_from mode s (position q 0)) (follows (suc q) q 0 (omega arith))
    where
      by_cases : (a : Answer Fault Followed) → Follows q 0 a → P (bind a j)
      by_cases (ok m) x =
          let none : x.hops ≡ x.hops + 0 = omega arith in
          subst (λ m. P (j m)) (ap (λ n. followed x.p n (head_of mode s x.v)) none ∙ x.same) (goods x.hops x.p x.v x.reaches)
      by_cases (error f) x = bads f x

  module _ (q : ℕ) where
    abbrev Ends : Answer Fault (ℕ × ℕ) → Type 0
    Ends = Row (λ r. (v : Read mode s false r.0) × Reaches mode s q r.1 r.0 v) (RefusedFollow mode s q)

    follow_row : Ends (follow_in mode s q)
    unfolding follow_in
    follow_row = follow_elim Ends _ q (λ f x. x) (λ hops p v x. (v, x))

    follow_is : (a : Answer Fault (ℕ × ℕ)) → Ends a → follow_in mode s q ≡ a
    unfolding follow_in bind
    follow_is (ok r) x = let none : r.1 + 0 ≡ r.1 = omega arith in rw (follow_reaches x.1 0) (ap (λ n. ok (r.0, n)) none)
    follow_is (error f) x = rw (follow_refused x 0)

    -- ---- the query for a body

    abbrev Bodies : Answer Fault (ℕ × ℕ) → Type 0
    Bodies = Row (λ r. HasBody mode s q r.0 r.1) (RefusedBody mode s q)

    body_row : Bodies (body_place_in mode s q)
    unfolding body_place_in
    body_row =
        follow_elim Bodies _ q (λ f x. queries.follow x) (λ hops p v x.
        pick_elim Bodies (eqb v.kind 4 || eqb v.kind 5)
        (λ e. record {
          hops = hops;
          p = p;
          value = v;
          reaches = x;
          kind = or_true (eqb v.kind 4) _ e (λ text. inl (eqb-true _ _ text)) (λ bytes. inr (eqb-true _ _ bytes));
          first_is = refl;
          len_is = sym (body_len false p v);
        })
        (λ e. or_false (eqb v.kind 4) _ e (λ text bytes. queries.kind x (eqb-false _ _ text) (eqb-false _ _ bytes))))

    has_body : (k : ℕ) → (k ≡ 4) ⊎ (k ≡ 5) → eqb k 4 || eqb k 5 ≡ true
    has_body k (inl e) = rw e
    has_body k (inr e) = rw e

    body_is : (a : Answer Fault (ℕ × ℕ)) → Bodies a → body_place_in mode s q ≡ a
    unfolding body_place_in bind
    body_is (ok r) x =
        let len : x.value.end - x.value.first ≡ r.1 = sym (x.len_is ∙ body_len false _ x.value) in
        let place : (x.value.first, x.value.end - x.value.first) ≡ r = λ i. (sym x.first_is i, len i) in
        rw (follow_reaches x.reaches 0, has_body _ x.kind) (ap ok place)
    body_is (error f) (queries.follow x) = rw (follow_refused x 0)
    body_is (error f) (queries.kind x text bytes) = rw (follow_reaches x 0, ne_eqb _ _ text, ne_eqb _ _ bytes)

-- ---- both ways

module _ (mode : Mode) (file : List ℕ) (at : ℕ) where
  peek_exactly : Exactly (λ s. peek_in mode false s at) (λ s h. (r : Read mode s false at) × (head_of mode s r ≡ h)) (λ s. RefusedRead mode s false at) file at
  peek_exactly = query_exactly _ _ _ file at (λ s. peeks mode s false at) (λ s. peek_is mode s false at)

  pub peek_answers_exactly : (h : Head) → (peek_of mode file at ≡ ok h) ↔ AnsweredQuery file at (λ s. (r : Read mode s false at) × (head_of mode s r ≡ h))
  peek_answers_exactly h = peek_exactly (ok h)

  pub peek_refused_exactly : (f : Fault) → (peek_of mode file at ≡ error f) ↔ RefusedQuery file at (λ s. RefusedRead mode s false at) f
  peek_refused_exactly f = peek_exactly (error f)

  read_exactly : Exactly (λ s. read_in mode s at) (λ s v. (r : Read mode s false at) × (value_on s at (head_of mode s r) ≡ v))
      (λ s. RefusedRead mode s false at) file at
  read_exactly = query_exactly _ _ _ file at (λ s. read_row_is mode s at) (λ s. read_is mode s at)

  pub read_answers_exactly : (v : Value) → (read_of mode file at ≡ ok v)
      ↔ AnsweredQuery file at (λ s. (r : Read mode s false at) × (value_on s at (head_of mode s r) ≡ v))
  read_answers_exactly v = read_exactly (ok v)

  pub read_refused_exactly : (f : Fault) → (read_of mode file at ≡ error f) ↔ RefusedQuery file at (λ s. RefusedRead mode s false at) f
  read_refused_exactly f = read_exactly (error f)

  skip_exactly : Exactly (λ s. skip_in mode s at) (λ s. Skips mode s at) (λ s. RefusedSkip mode s at) file at
  skip_exactly = query_exactly _ _ _ file at (λ s. skip_row mode s at) (λ s. skip_is mode s at)

  pub skip_answers_exactly : (e : ℕ) → (skip_of mode file at ≡ ok e) ↔ AnsweredQuery file at (λ s. Skips mode s at e)
  skip_answers_exactly e = skip_exactly (ok e)

  pub skip_refused_exactly : (f : Fault) → (skip_of mode file at ≡ error f) ↔ RefusedQuery file at (λ s. RefusedSkip mode s at) f
  skip_refused_exactly f = skip_exactly (error f)

  item_exactly : (i : ℕ) → Exactly (λ s. item_in mode s at i) (λ s. HasItem mode s at i) (λ s. RefusedItem mode s at i) file at
  item_exactly i = query_exactly _ _ _ file at (λ s. item_row mode s at i) (λ s. item_is mode s at i)

  pub item_answers_exactly : (i p : ℕ) → (item_of mode file at i ≡ ok p) ↔ AnsweredQuery file at (λ s. HasItem mode s at i p)
  item_answers_exactly i p = item_exactly i (ok p)

  pub item_refused_exactly : (i : ℕ) (f : Fault) → (item_of mode file at i ≡ error f) ↔ RefusedQuery file at (λ s. RefusedItem mode s at i) f
  item_refused_exactly i f = item_exactly i (error f)

  follow_exactly : Exactly (λ s. follow_in mode s at) (λ s r. (v : Read mode s false r.0) × Reaches mode s at r.1 r.0 v)
      (λ s. RefusedFollow mode s at) file at
  follow_exactly = query_exactly _ _ _ file at (λ s. follow_row mode s at) (λ s. follow_is mode s at)

  pub follow_answers_exactly : (p hops : ℕ) → (follow_of mode file at ≡ ok (p, hops))
      ↔ AnsweredQuery file at (λ s. (v : Read mode s false p) × Reaches mode s at hops p v)
  follow_answers_exactly p hops = follow_exactly (ok (p, hops))

  pub follow_refused_exactly : (f : Fault) → (follow_of mode file at ≡ error f) ↔ RefusedQuery file at (λ s. RefusedFollow mode s at) f
  follow_refused_exactly f = follow_exactly (error f)

  body_exactly : Exactly (λ s. body_place_in mode s at) (λ s r. HasBody mode s at r.0 r.1) (λ s. RefusedBody mode s at) file at
  body_exactly = query_exactly _ _ _ file at (λ s. body_row mode s at) (λ s. body_is mode s at)

  pub body_answers_exactly : (first len : ℕ) → (body_place_of mode file at ≡ ok (first, len)) ↔ AnsweredQuery file at (λ s. HasBody mode s at first len)
  body_answers_exactly first len = body_exactly (ok (first, len))

  pub body_refused_exactly : (f : Fault) → (body_place_of mode file at ≡ error f) ↔ RefusedQuery file at (λ s. RefusedBody mode s at) f
  body_refused_exactly f = body_exactly (error f)
