-- The texts are exactly the UTF-8 forms of code points, by RFC 3629.
--
-- In order: the bits of a code point; the rows of the RFC's table; encoded code points are a text (`utf8_text`) and are decoded
-- (`decode_utf8`); decoded ones were encoded (`utf8_decode`); a text is decoded, so that it is encoded code points (`text_exactly`, `is_text_exactly`); no row
-- gives a code point fewer octets (`shortest`).
use mathlib.Core.Path.{◌≡◌, refl, sym, ap, subst, ◌∙◌}
use mathlib.Core.Logic.{◌↔◌}
use mathlib.Core.Bool.{true, ◌&&◌, ◌||◌, not, false≢true}
use mathlib.Core.List.{List, [], ◌∷◌, ◌++◌, map, Memᴰ}
use mathlib.Core.Option.{Option, some, none, bind, bind-eq-some_iff, none-ne-some, some-injective}
use Prim.Native.Nat.{ℕ, zero, suc, ◌+◌, ◌-◌, ◌*◌, ◌/◌, ◌%◌, ◌^◌, ◌≤◌, ◌<◌}
use native.Mathlib.Nat.{not-suc-le-zero, pow-suc, div-one, div-div-eq-div-mul}
use native.Mathlib.Omega.{arith}
use lib.Dec.{leb}
use lib.ListN.{length, get_or}
use borrow.Author.Rules.{rules}
use borrow.Author.Tests.{leb-true, le-leb, lt-leb, not-true}
use Rattle.prelude.specs.Each.{Each}
use Rattle.prelude.proofs.Lists.{each_mem}
use Rattle.prelude.proofs.Tests.{split, pick_elim, and_l, and_r, or_true}
use Rattle.utf8.specs.Text.{Range, range, continuation, forms, within, Matches, end, byte, Text, empty, character, is_text}
use Rattle.utf8.specs.Utf8.{surrogates, Encodable, Row, row, utf8_rows, row_of, following, octets, encode, utf8, FitsRow, Utf8, keep, decode_from, decode}
use Rattle.utf8.proofs.Laws.{within_yes, text_is_text, is_text_text}

-- ---- the bits of a code point

div_pow : (c k : ℕ) → c / 64 ^ suc k ≡ c / 64 ^ k / 64
div_pow c k = ap (λ (n : ℕ). c / n) (pow-suc 64 k) ∙ sym (div-div-eq-div-mul c (64 ^ k) 64)

decode_zero : (r : Row) (v : ℕ) (s : List ℕ) → decode_from r v 0 s ≡ keep r v (decode s)
unfolding decode_from
decode_zero r v [] = refl
decode_zero r v (b ∷ s) = refl

decode_following : (r : Row) (c k : ℕ) (s : List ℕ) → decode_from r (c / 64 ^ k) k (following k c ++ s) ≡ keep r c (decode s)
unfolding decode_from following
decode_following r c zero s = decode_zero r (c / 64 ^ zero) s ∙ ap (λ (n : ℕ). keep r n (decode s)) (div-one c)
decode_following r c (suc k) s =
    let bits : c / 64 ^ suc k * 64 + (0x80 + (c / 64 ^ k) % 64 - 0x80) ≡ c / 64 ^ k = rw (div_pow c k) (omega arith) in
    rw (within_yes continuation (0x80 + (c / 64 ^ k) % 64) (omega arith) (omega arith))
    (ap (λ (v : ℕ). decode_from r v k (following k c ++ s)) bits ∙ decode_following r c k s)

-- ---- the rows

module _ (part : Row → Range) where
  -- no range is empty, and they rise, from n on
  abbrev Rising : ℕ → List Row → Type 0
  Rising n [] = Unit {0}
  Rising n (r ∷ rs) = (n ≤ (part r).lo) × ((part r).lo ≤ (part r).hi) × Rising (suc (part r).hi) rs

  row_of_is : (n x : ℕ) {r : Row} (rs : List Row) → Rising n rs → Memᴰ r rs → (part r).lo ≤ x → x ≤ (part r).hi → (n ≤ x) × (row_of part rs x ≡ some r)
  unfolding row_of
  row_of_is n x [] e m lo hi = elim m [ ]
  row_of_is n x (q ∷ rs) e (Memᴰ.head p) lo hi =
      let above : (part q).lo ≤ x = rw p at lo in
      (omega arith, rw (within_yes (part q) x above (rw p at hi)) (ap some (sym p)))
  row_of_is n x (q ∷ rs) e (Memᴰ.tail k) lo hi =
      let h = row_of_is (suc (part q).hi) x rs e.2 k lo hi in
      let past : (part q).hi < x = h.0 in
      let above : (part q).lo ≤ x = omega arith in
      (omega arith, rw (le-leb (part q).lo x, lt-leb x (part q).hi) h.1)

  row_of_in : (x : ℕ) (r : Row) (rs : List Row) → row_of part rs x ≡ some r → Memᴰ r rs × ((part r).lo ≤ x) × (x ≤ (part r).hi)
  unfolding row_of
  row_of_in x r [] e = absurd (none-ne-some r e)
  row_of_in x r (q ∷ rs) e =
      pick_elim (λ (o : Option Row). o ≡ some r → Memᴰ r (q ∷ rs) × ((part r).lo ≤ x) × (x ≤ (part r).hi)) (within (part q) x)
      (λ w e₁.
      let same = sym (some-injective q r e₁) in
      (Memᴰ.head same, rw same (leb-true _ _ (and_l _ _ w)), rw same (leb-true _ _ (and_r (leb (part q).lo x) _ w))))
      (λ w e₁. let h = row_of_in x r rs e₁ in (Memᴰ.tail h.0, h.1, h.2))
      e

module _ {r : Row} (m : Memᴰ r utf8_rows) where
  -- the row by the code point
  encode_row : (c : ℕ) → r.numbers.lo ≤ c → c ≤ r.numbers.hi → encode c ≡ octets (some r) c
  encode_row c l h =
      let rising : Rising (λ q. q.numbers) 0 utf8_rows = search rules in
      ap (λ (o : Option Row). octets o c) (row_of_is (λ q. q.numbers) 0 c utf8_rows rising m l h).1

  -- and by the first octet
  first_row : (b : ℕ) → r.first.lo ≤ b → b ≤ r.first.hi → row_of (λ q. q.first) utf8_rows b ≡ some r
  first_row b l h =
      let rising : Rising (λ q. q.first) 0 utf8_rows = search rules in
      (row_of_is (λ q. q.first) 0 b utf8_rows rising m l h).1

  numbers_last : r.numbers.hi ≤ 0x10FFFF
  numbers_last = each_mem (λ q. q.numbers.hi ≤ 0x10FFFF) utf8_rows (search rules) m

-- ---- what is encoded is a text, and is decoded

-- the row of a code point, and the form of its octets
record Placed (c : ℕ) : Type 0 where
  r : Row
  in_rows : Memᴰ r utf8_rows
  from : r.numbers.lo ≤ c
  to : c ≤ r.numbers.hi
  fits : FitsRow r c
  f : List Range
  in_forms : Memᴰ f forms
  matches : Matches f (octets (some r) c)

mem : {A : Type 0} (x : A) (xs : List A) (n : ℕ) → n < length xs → Memᴰ (get_or xs n x) xs
mem x [] n h = absurd (not-suc-le-zero h)
mem x (y ∷ xs) zero h = Memᴰ.head refl
mem x (y ∷ xs) (suc n) h = Memᴰ.tail (mem x xs n (omega arith))

abbrev row_at : ℕ → Row
row_at n = get_or utf8_rows n (row (range 0 0) (range 0 0) 0)

-- `Matches`, as a product of comparisons
abbrev Fill : List Range → List ℕ → Type 0
Fill [] [] = Unit {0}
Fill [] (b ∷ p) = ⊥
Fill (r ∷ f) [] = ⊥
Fill (r ∷ f) (b ∷ p) = (r.lo ≤ b) × (b ≤ r.hi) × Fill f p

matches_fill : (f : List Range) (p : List ℕ) → Fill f p → Matches f p
matches_fill [] [] h = end
matches_fill [] (b ∷ p) h = absurd h
matches_fill (r ∷ f) [] h = absurd h
matches_fill (r ∷ f) (b ∷ p) h = byte h.0 h.1 (matches_fill f p h.2)

-- by row n and form k
abbrev By : ℕ → ℕ → ℕ → Type 0
By c n k =
    (n < 4) × (k < 9) × ((row_at n).numbers.lo ≤ c) × (c ≤ (row_at n).numbers.hi) × FitsRow (row_at n) c
    × Fill (get_or forms k []) (octets (some (row_at n)) c)

by : (c n k : ℕ) → By c n k → Placed c
by c n k h =
    record {
      r = _;
      in_rows = mem _ utf8_rows n h.0;
      from = h.2;
      to = h.3;
      fits = h.4;
      f = _;
      in_forms = mem _ forms k h.1;
      matches = matches_fill _ _ h.5;
    }

placed : (c : ℕ) → Encodable c → Placed c
unfolding following
placed c h =
    split c 0x80 (λ l. by c 0 0 (search rules))
    (λ g. split c 0x800 (λ l. by c 1 1 (search rules))
    (λ g. split c 0x1000 (λ l. by c 2 2 (search rules))
    (λ g. split c 0xD000 (λ l. by c 2 3 (search rules))
    (λ g. split c 0xD800 (λ l. by c 2 4 (search rules))
    (λ g. split c 0xE000 (λ l. absurd (h.1 g (omega arith)))
    (λ g. split c 0x10000 (λ l. by c 2 5 (search rules))
    (λ g. split c 0x40000 (λ l. by c 3 6 (search rules))
    (λ g. split c 0x100000 (λ l. by c 3 7 (search rules))
    (λ g. by c 3 8 (search rules))))))))))

encode_is : (c : ℕ) (p : Placed c) → encode c ≡ octets (some p.r) c
encode_is c p = encode_row p.in_rows c p.from p.to

pub utf8_text : (cs : List ℕ) → Each Encodable cs → Text (utf8 cs)
unfolding utf8
utf8_text [] e = empty
utf8_text (c ∷ cs) e = let p = placed c e.0 in rw (encode_is c p) (character p.in_forms p.matches (utf8_text cs e.1))

keep_encodable : (r : Row) (c : ℕ) (cs : List ℕ) → r.numbers.lo ≤ c → c ≤ r.numbers.hi → Encodable c → keep r c (some cs) ≡ some (c ∷ cs)
keep_encodable r c cs l h u =
    split c surrogates.lo
    (λ less. rw (within_yes r.numbers c l h, lt-leb surrogates.lo c))
    (λ more. split surrogates.hi c
    (λ past. rw (within_yes r.numbers c l h, le-leb surrogates.lo c, lt-leb c surrogates.hi))
    (λ up. absurd (u.1 more up)))

decode_character : (c : ℕ) (s cs : List ℕ) → Encodable c → decode s ≡ some cs → decode (encode c ++ s) ≡ some (c ∷ cs)
unfolding bind
decode_character c s cs u e =
    let p = placed c u in
    let q = p.r in
    let b : ℕ = q.first.lo + c / 64 ^ q.more in
    let bits : b - q.first.lo ≡ c / 64 ^ q.more = omega arith in
    rw (encode_is c p, first_row p.in_rows b (omega arith) p.fits, bits, decode_following q c q.more s, e)
    (keep_encodable q c cs p.from p.to u)

pub decode_utf8 : (cs : List ℕ) → Each Encodable cs → decode (utf8 cs) ≡ some cs
unfolding utf8
decode_utf8 [] e = refl
decode_utf8 (c ∷ cs) e = decode_character c (utf8 cs) cs e.0 (decode_utf8 cs e.1)

-- ---- what is decoded was encoded

-- what `keep` has tested
keep_by : {X : Type 0} (r : Row) (v : ℕ) (o : Option (List ℕ)) {cs : List ℕ} → keep r v o ≡ some cs
    → ((ds : List ℕ) → o ≡ some ds → cs ≡ v ∷ ds → r.numbers.lo ≤ v → v ≤ r.numbers.hi → (surrogates.lo ≤ v → v ≤ surrogates.hi → ⊥) → X) → X
keep_by r v none e k = absurd (none-ne-some _ e)
keep_by {X} r v (some ds) {cs} e k =
    pick_elim (λ (o : Option (List ℕ)). o ≡ some cs → X) (within r.numbers v && not (within surrogates v))
    (λ w e₁.
    let a = and_l (within r.numbers v) _ w in
    k ds refl (sym (some-injective _ _ e₁)) (leb-true _ _ (and_l _ _ a)) (leb-true _ _ (and_r (leb r.numbers.lo v) _ a))
    (λ l h. false≢true (sym (not-true _ (and_r (within r.numbers v) _ w)) ∙ within_yes surrogates v l h)))
    (λ w e₁. absurd (none-ne-some _ e₁))
    e

-- s is the rest of a code point whose row is r and whose bits so far are v, k octets, and then the UTF-8 form of others; cs are all of these
record Decoded (r : Row) (v k : ℕ) (s cs : List ℕ) : Type 0 where
  c : ℕ
  ds : List ℕ
  points : cs ≡ c ∷ ds
  from : r.numbers.lo ≤ c
  to : c ≤ r.numbers.hi
  surrogate : surrogates.lo ≤ c → c ≤ surrogates.hi → ⊥
  bits : c / 64 ^ k ≡ v
  rest : following k c ++ utf8 ds ≡ s
  encodable : Each Encodable ds

-- the first octet b, and then s
begun : (b : ℕ) (s cs : List ℕ) → ((q : Row) (v k : ℕ) → decode_from q v k s ≡ some cs → Decoded q v k s cs) → decode (b ∷ s) ≡ some cs
    → Each Encodable cs × (utf8 cs ≡ b ∷ s)
unfolding utf8
begun b s cs ih e =
    let t = (bind-eq-some_iff (row_of (λ r. r.first) utf8_rows b) (λ r. decode_from r (b - r.first.lo) r.more s)).0 e in
    let q = t.0 in
    let m = row_of_in (λ r. r.first) b q utf8_rows t.1 in
    let d = ih q (b - q.first.lo) q.more t.2 in
    let lead : q.first.lo + d.c / 64 ^ q.more ≡ b = rw d.bits (omega (arith, m.1)) in
    let encodable : Encodable d.c = (omega (arith, d.to, numbers_last m.0), d.surrogate) in
    rw d.points ((encodable, d.encodable), rw (encode_row m.0 d.c d.from d.to, lead, d.rest))

decoded : (r : Row) (v k : ℕ) (s cs : List ℕ) → decode_from r v k s ≡ some cs → Decoded r v k s cs
unfolding decode_from following utf8
decoded r v zero [] cs e =
    keep_by r v (some []) e (λ ds o p l h u.
    let last : ds ≡ [] = sym (some-injective [] ds o) in
    record { c = v; ds = []; points = rw last at p; from = l; to = h; surrogate = u; bits = div-one v; rest = refl; encodable = tt })
decoded r v zero (b ∷ s) cs e =
    keep_by r v _ e (λ ds o p l h u.
    let w = begun b s ds (λ q v₁ k. decoded q v₁ k s ds) o in
    record { c = v; ds = ds; points = p; from = l; to = h; surrogate = u; bits = div-one v; rest = w.1; encodable = w.0 })
decoded r v (suc k) [] cs e = absurd (none-ne-some _ e)
decoded r v (suc k) (b ∷ s) cs e =
    pick_elim (λ (o : Option (List ℕ)). o ≡ some cs → Decoded r v (suc k) (b ∷ s) cs) (within continuation b)
    (λ w e₁.
    let d = decoded r (v * 64 + (b - 0x80)) k s cs e₁ in
    let low : 0x80 ≤ b = leb-true _ _ (and_l _ _ w) in
    let high : b ≤ 0xBF = leb-true _ _ (and_r (leb 0x80 b) _ w) in
    let octet : 0x80 + (d.c / 64 ^ k) % 64 ≡ b = rw d.bits (omega arith) in
    record {
      c = d.c;
      ds = d.ds;
      points = d.points;
      from = d.from;
      to = d.to;
      surrogate = d.surrogate;
      bits = div_pow d.c k ∙ rw d.bits (omega arith);
      rest = rw (octet, d.rest);
      encodable = d.encodable;
    })
    (λ w e₁. absurd (none-ne-some _ e₁))
    e

pub utf8_decode : (s cs : List ℕ) → decode s ≡ some cs → Each Encodable cs × (utf8 cs ≡ s)
unfolding utf8
utf8_decode [] cs e = rw (← some-injective _ _ e) (tt, refl)
utf8_decode (b ∷ s) cs e = begun b s cs (λ q v k. decoded q v k s cs) e

-- ---- a text is decoded

-- the bits v, and after them those of the octets q
abbrev value : ℕ → List ℕ → ℕ
value v [] = v
value v (b ∷ q) = value (v * 64 + (b - 0x80)) q

value_le : {g : List Range} {q : List ℕ} (v w : ℕ) → Matches g q → v ≤ w → value v q ≤ value w (map (λ (r : Range). r.hi) g)
value_le v w end h = h
value_le v w (byte lo hi m) h = value_le _ _ m (omega arith)

value_ge : {g : List Range} {q : List ℕ} (v w : ℕ) → Matches g q → w ≤ v → value w (map (λ (r : Range). r.lo) g) ≤ value v q
value_ge v w end h = h
value_ge v w (byte lo hi m) h = value_ge _ _ m (omega arith)

abbrev Inside : Range → Type 0
Inside r = (0x80 ≤ r.lo) × (r.hi ≤ 0xBF)

gathered : {g : List Range} {q : List ℕ} (r : Row) (v : ℕ) (s : List ℕ) → Matches g q → Each Inside g
    → decode_from r v (length g) (q ++ s) ≡ keep r (value v q) (decode s)
unfolding decode_from
gathered r v s end e = decode_zero r v s
gathered r v s (byte {b = b} lo hi m) e = rw (within_yes continuation b (omega arith) (omega arith)) (gathered r _ s m e.1)

-- a form is of the row with as many octets after the first: the first octets are among the row's, the others continue, and from the least
-- to the greatest octets the bits are character numbers of the row and no surrogates
abbrev OfRow : List Range → Type 0
OfRow [] = ⊥
OfRow (r ∷ g) =
    let q = row_at (length g) in
    let low : ℕ = value (r.lo - q.first.lo) (map (λ (x : Range). x.lo) g) in
    let high : ℕ = value (r.hi - q.first.lo) (map (λ (x : Range). x.hi) g) in
    (length g < 4) × (q.more ≡ length g) × (q.first.lo ≤ r.lo) × (r.hi ≤ q.first.hi) × Each Inside g
    × (q.numbers.lo ≤ low) × (high ≤ q.numbers.hi) × (leb 0xE000 low || leb high 0xD7FF ≡ true)

of_row : {f : List Range} → Memᴰ f forms → OfRow f
of_row =
    let one : OfRow (get_or forms 0 []) = search rules in
    each_mem OfRow forms
    (one, (search rules, (search rules, (search rules, (search rules, (search rules, (search rules, (search rules, (search rules, tt)))))))))

no_surrogate : (low high c : ℕ) → low ≤ c → c ≤ high → leb 0xE000 low || leb high 0xD7FF ≡ true → surrogates.lo ≤ c → c ≤ surrogates.hi → ⊥
no_surrogate low high c a b e l h =
    or_true (leb 0xE000 low) (leb high 0xD7FF) e (λ y. omega (arith, leb-true 0xE000 low y)) (λ y. omega (arith, leb-true high 0xD7FF y))

text_decode : {s : List ℕ} → Text s → (cs : List ℕ) × (decode s ≡ some cs)
unfolding bind
text_decode empty = ([], refl)
text_decode (character k end t) = absurd (of_row k)
text_decode (character {s = s} k (byte {r = r} {f = g} {b = b} {p = p} lo hi m) t) =
    let o = of_row k in
    let q = row_at (length g) in
    let in_rows = mem (row_at 4) utf8_rows (length g) o.0 in
    let v : ℕ = b - q.first.lo in
    let c : ℕ = value v p in
    let above = value_ge v (r.lo - q.first.lo) m (omega arith) in
    let below = value_le v (r.hi - q.first.lo) m (omega arith) in
    let encodable : Encodable c = (omega (arith, numbers_last in_rows), no_surrogate _ _ c above below o.7) in
    let h = text_decode t in (
      c ∷ h.0,
      rw (first_row in_rows b (omega arith) (omega arith), o.1, gathered q v s m o.4, h.1)
          (keep_encodable q c h.0 (omega arith) (omega arith) encodable),
    )

-- ---- exactly

pub text_exactly : (s : List ℕ) → Text s ↔ Utf8 s
text_exactly s = (
  λ t. let d = text_decode t in let u = utf8_decode s d.0 d.1 in (d.0, u.0, u.1),
  λ u. subst Text u.2 (utf8_text u.0 u.1),
)

pub is_text_exactly : (s : List ℕ) → (is_text s ≡ true) ↔ Utf8 s
is_text_exactly s = (λ e. (text_exactly s).0 (is_text_text s e), λ u. text_is_text ((text_exactly s).1 u))

-- ---- the shortest form

length_following : (k c : ℕ) → length (following k c) ≡ k
unfolding following
length_following zero c = refl
length_following (suc k) c = ap suc (length_following k c)

-- of two rows, one with a character number and one whose bits can be those of it, the first has no more octets
fewest : (c : ℕ) {q r : Row} → Memᴰ q utf8_rows → Memᴰ r utf8_rows → q.numbers.lo ≤ c → FitsRow r c → q.more ≤ r.more
fewest c {r = r} m k =
    each_mem (λ q. q.numbers.lo ≤ c → FitsRow r c → q.more ≤ r.more) utf8_rows
    (each_mem (λ r. Each (λ q. q.numbers.lo ≤ c → FitsRow r c → q.more ≤ r.more) utf8_rows) utf8_rows (search rules) k) m

pub shortest : (c : ℕ) → Encodable c → {r : Row} → Memᴰ r utf8_rows → FitsRow r c → length (encode c) ≤ length (octets (some r) c)
shortest c u {r} m h =
    let p = placed c u in
    rw (encode_is c p, length_following p.r.more c, length_following r.more c) (omega (arith, fewest c p.in_rows m p.from h))
