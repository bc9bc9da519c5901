-- The steps of `scan_at`, as the code takes them: by offsets, with the bytes left counted.
--
-- In order: the bytes left after a number; `head_of` under a guard, after a number, for a body; n; what was read so far;
-- the whole; after n; an immediate.
use mathlib.Core.Path.{◌≡◌, refl, ap, ◌∙◌}
use Prim.Native.Nat.{ℕ, suc, ◌+◌, ◌-◌, ◌*◌, ◌/◌, ◌%◌, ◌≤◌, ◌<◌}
use mathlib.Core.Bool.{Bool, true, false, not, ◌&&◌}
use mathlib.Core.List.{List, ◌∷◌}
use native.Mathlib.Nat.{zero-add, add-zero, zero-mul}
use native.Mathlib.Numerals.{add-one}
use native.Mathlib.Omega.{arith}
use lib.Dec.{ltb, leb, eqb}
use borrow.Author.Tests.{lt-ltb, le-ltb, le-leb, leb-true, eqb-true, not-true, not-false}
use lib.ListN.{length, take, drop, get_or, length-drop, drop_of_length-le}
use lib.Seq.{drop-cons, length-take-le}
use Rattle.prelude.specs.Pick.{pick}
use Rattle.prelude.specs.Answer.{Answer, ok, error, Res, got, bad, guard, then, or_error, measured, need, ◌>>◌, ◌>>=◌}
use Rattle.prelude.proofs.Tests.{pick_cong, facts, and_l, and_r}
use Rattle.prelude.proofs.Readers.{measured_ok}
use Rattle.error.specs.Error.{Fault, fault, TRUNC, RESERVED, RANGE, NESTED, LONG_LIST}
use Rattle.leb128.specs.Leb.{get}
use Rattle.leb128.specs.declared.Mode.{Mode}
use Rattle.kind.specs.Kind.{rule, size, counted, pending, immediate}
use Rattle.kind.specs.Internal.{Row}
use Rattle.kind.specs.declared.Rule.{Rule}
use Rattle.kind.proofs.Laws.{None, rule_row}
use Rattle.token.specs.Token.{Token}
use Rattle.token.specs.Scan.{get_if, Spelling, spelling, number, shortage, body, scan_kind, scan}
use Rattle.scan.specs.Answers.{head_of, scan_at}
use Rattle.scan_number.specs.Internal.{in_range, numbered}
use Rattle.scan.specs.Internal.{fitted, and_then, ranged}
use Rattle.scan.specs.declared.Head.{Head}
use Rattle.token.proofs.Ends.{End, end_drop, get_if_end}

left_le : (mode : Mode) (w : Bool) (s : List ℕ) (n : ℕ) {v left : ℕ} → ok (v, left) ≡ measured (get_if mode w s) → length s ≤ n → left ≤ n
left_le mode w s n {v} e h = measured_ok (get_if mode w s) e (λ rest q l. omega (arith, (get_if_end mode w s v rest q).short))

-- ---- `head_of`

seen_guard : (len : ℕ) (t : Bool) (e : Fault) (r : Res Fault Token) → head_of len (guard t e r) ≡ pick t (head_of len r) (error e)
unfolding head_of guard
seen_guard len true e r = refl
seen_guard len false e r = refl

module _ (mode : Mode) (s : List ℕ) (at : ℕ) where
  seen_number : (w : Bool) (j : ℕ) (k : Spelling → List ℕ → Res Fault Token) (f : ℕ → ℕ → Answer Fault Head) → j ≤ length s
      → ((v : Spelling) (rest : List ℕ) → End s rest → head_of (length s) (k v rest) ≡ f v.value (length rest))
      → head_of (length s) (then (number mode at w (drop j s)) k) ≡ and_then at f (measured (get_if mode w (drop j s)))
  unfolding number head_of then or_error measured
  seen_number w j k f h same = go (get_if mode w (drop j s)) refl
    where
      -- a number with the bytes that were read
      read : ℕ → List ℕ → Res Fault Spelling
      read v rest = got (spelling v (take (length (drop j s) - length rest) (drop j s))) rest

      go : (r : Res ℕ ℕ) → get_if mode w (drop j s) ≡ r → head_of (length s) (then (then (or_error (λ e. fault e at) r) read) k) ≡ and_then at f (measured r)
      go (got v rest) e = same (spelling v _) rest (end_drop j s rest h (get_if_end mode w (drop j s) v rest e))
      go (bad e) q = refl

  seen_body : (k n : ℕ) (v a : Spelling) (m : List ℕ) → length m ≤ length s
      → head_of (length s) (body at (length s) k (rule k) n v a m) ≡ fitted (length s) at k (rule k) n a.value (length m)
  unfolding body head_of
  seen_body k n v a m h =
      let z = size (rule k) n in
      rw seen_guard (pick_cong (leb (z + counted (rule k) n a.value) (length m))
      (λ t. let l : z ≤ length m = omega facts in
      let after = length-drop z m in
      let own = length-take-le z m l in
      let first : length s - length (drop z m) - length (take z m) ≡ length s - length m = omega arith in
      let end : length s - length (drop z m) ≡ length s - length m + z = omega arith in
      λ i. ok (record { kind = k; n = n; items = pending (rule k) n a.value; first = first i; end = end i }))
      (λ t. refl))

  seen_ranged : (k low : ℕ) (v : Spelling) (m : List ℕ) → End s m
      → head_of (length s) ((need (leb (low + v.value) (rule k).most) (fault RANGE at)
      >> (number mode at (rule k).args >>= body at (length s) k (rule k) (low + v.value) v)) m)
      ≡ pick (leb (low + v.value) (rule k).most) (ranged mode s at k (rule k) (low + v.value) (length m)) (error (fault RANGE at))
  unfolding ◌>>◌ ◌>>=◌
  seen_ranged k low v m e =
      rw seen_guard (pick_cong (leb (low + v.value) (rule k).most)
      (λ t. ap (λ x. head_of (length s) (then (number mode at (rule k).args x) (body at (length s) k (rule k) (low + v.value) v))) e.end
      ∙ seen_number (rule k).args (length s - length m) _ _ (omega arith) (λ a rest e'. seen_body k (low + v.value) v a rest e'.short))
      (λ t. refl))

-- ---- n

module _ (low most : ℕ) where
  range_then : (at : ℕ) (f : ℕ → ℕ → Answer Fault Head) (a : Answer ℕ (ℕ × ℕ))
      → and_then at (λ v left. pick (leb (low + v) most) (f (low + v) left) (error (fault RANGE at))) a ≡ and_then at f (in_range low most a)
  range_then at f (ok a) = go (leb (low + a.0) most)
    where
      go : (t : Bool) → pick t (f (low + a.0) a.1) (error (fault RANGE at)) ≡ and_then at f (pick t (ok (low + a.0, a.1)) (error RANGE))
      go true = refl
      go false = refl
  range_then at f (error e) = refl

  range_ok : {X : Type 0} {n left : ℕ} (a : Answer ℕ (ℕ × ℕ)) → ok (n, left) ≡ in_range low most a → ((v : ℕ) → ok (v, left) ≡ a → n ≤ most → X) → X
  range_ok {X} {n} {left} (ok a) e k = go (leb (low + a.0) most) refl e
    where
      go : (t : Bool) → leb (low + a.0) most ≡ t → ◌≡◌ {A = Answer ℕ (ℕ × ℕ)} (ok (n, left)) (pick t (ok (low + a.0, a.1)) (error RANGE)) → X
      go true h e =
          let same : ◌≡◌ {A = ℕ × ℕ} (n, left) (low + a.0, a.1) = cc in
          k a.0 (ap (λ (x : ℕ). ok (a.0, x)) (ap (λ (x : ℕ × ℕ). x.1) same)) (omega (arith, ap (λ (x : ℕ × ℕ). x.0) same, leb-true (low + a.0) most h))
      go false h e = let z : ◌≡◌ {A = ℕ} 0 1 = cc in absurd (omega arith)
  range_ok (error f) e k = let z : ◌≡◌ {A = ℕ} 0 1 = cc in absurd (omega arith)

-- ---- what was read so far

pub ruled_row : (k : ℕ) {r : Rule} → r ≡ rule k → Row r
ruled_row k e = rw e (rule_row k)

abbrev head : ℕ → ℕ → ℕ → ℕ → ℕ → Head
head k n items first end = record { kind = k; n = n; items = items; first = first; end = end }

-- after the number n of a token with the header at `at`: what remains yields the whole
pub record Number (mode : Mode) (inner : Bool) (s : List ℕ) (at k : ℕ) (r : Rule) (n left : ℕ) : Type 0 where
  pub row : Row r
  pub most : n ≤ r.most
  pub short : left ≤ length s
  pub whole : ranged mode s at k r n left ≡ scan_at mode inner s at

-- after the second number a
pub record Second (mode : Mode) (inner : Bool) (s : List ℕ) (at k n a left : ℕ) : Type 0 where
  pub short : left ≤ length s
  pub whole : pick (leb a left) (ok (head k n a (length s - left) (length s - left))) (error (fault LONG_LIST (length s - left))) ≡ scan_at mode inner s at

-- ---- the whole

pub scan_past : (mode : Mode) (inner : Bool) (s : List ℕ) (at : ℕ) → length s ≤ at → error (fault TRUNC at) ≡ scan_at mode inner s at
unfolding scan_at scan head_of
scan_past mode inner s at h = rw (drop_of_length-le s {i = at} h)

-- the header at `at`, with its kind, low nibble and rule
module _ (mode : Mode) (inner : Bool) (s : List ℕ) (at : ℕ) (there : at < length s) where
  abbrev kind : ℕ
  kind = get_or s at 0 / 16

  abbrev low : ℕ
  low = get_or s at 0 % 16

  scan_head : scan_at mode inner s at
      ≡ pick (ltb low (rule kind).lows)
      (pick (not (inner && not (immediate (rule kind))))
      (and_then at (ranged mode s at kind (rule kind)) (numbered mode low (rule kind).most (drop (at + 1) s)))
      (error (fault NESTED at)))
      (error (fault RESERVED at))
  unfolding scan_at scan scan_kind ◌>>◌ ◌>>=◌ numbered
  scan_head =
      let end : at + length (get_or s at 0 ∷ drop (suc at) s) ≡ length s = omega (arith, length-drop (suc at) s) in
      rw (drop-cons s at 0 there, end, seen_guard, seen_guard, add-one)
      (pick_cong (ltb low (rule kind).lows)
      (λ t. pick_cong (not (inner && not (immediate (rule kind))))
      (λ u. seen_number mode s at (leb 15 low) (suc at) _ ruled there (λ v m e. seen_ranged mode s at kind low v m e)
      ∙ range_then low (rule kind).most at (ranged mode s at kind (rule kind)) (measured (get_if mode (leb 15 low) (drop (suc at) s))))
      (λ u. refl))
      (λ t. refl))
    where
      ruled : ℕ → ℕ → Answer Fault Head
      ruled v left = pick (leb (low + v) (rule kind).most) (ranged mode s at kind (rule kind) (low + v) left) (error (fault RANGE at))

  module _ {r : Rule} (ruled : r ≡ rule kind) where
    pub scan_reserved : r.lows ≤ low → error (fault RESERVED at) ≡ scan_at mode inner s at
    scan_reserved h = rw (scan_head, ← ruled, le-ltb _ _ h)

    module _ (used : low < r.lows) {i : Bool} (flat : i ≡ immediate r) where
      pub scan_nested : inner && not i ≡ true → error (fault NESTED at) ≡ scan_at mode inner s at
      scan_nested h = rw (scan_head, ← ruled, lt-ltb _ _ used, ← flat, h)

      -- the number, or its error
      module _ (plain : inner && not i ≡ false) {a : Answer ℕ (ℕ × ℕ)} (e : a ≡ numbered mode low r.most (drop (at + 1) s)) where
        pub scan_numbered : and_then at (ranged mode s at kind r) a ≡ scan_at mode inner s at
        scan_numbered = rw (scan_head, ← ruled, lt-ltb _ _ used, ← flat, plain, e)

      pub scan_number : inner && not i ≡ false → {n left : ℕ} → ok (n, left) ≡ numbered mode low r.most (drop (at + 1) s)
          → Number mode inner s at kind r n left
      unfolding numbered
      scan_number plain {n} {left} e = range_ok low r.most (measured (get_if mode (leb 15 low) (drop (at + 1) s))) e (λ v q l. record {
        row = ruled_row kind ruled;
        most = l;
        short = left_le mode (leb 15 low) (drop (at + 1) s) (length s) q (rw length-drop (omega arith));
        whole = scan_numbered plain e;
      })

-- ---- after n

module _ {mode : Mode} {inner : Bool} {s : List ℕ} {at k : ℕ} {r : Rule} {n left : ℕ} (b : Number mode inner s at k r n left) where
  -- items that a second number counts: the number, or its error
  module _ (e : r.args ≡ true) where
    pub scan_counted : {a : Answer ℕ (ℕ × ℕ)} → a ≡ measured (get mode 9 0 (drop (length s - left) s)) → and_then at (fitted (length s) at k r n) a ≡ scan_at mode inner s at
    unfolding get_if
    scan_counted q = rw (← b.whole, e, q)

    pub scan_second : {a l : ℕ} → ok (a, l) ≡ measured (get mode 9 0 (drop (length s - left) s)) → Second mode inner s at k n a l
    unfolding get_if
    scan_second q =
        let none = b.row.many e in
        let scale : r.scale ≡ 0 = omega arith in
        let fixed : r.fixed ≡ 0 = omega (arith, b.row.fixed) in
        let each : r.each ≡ 0 = omega arith in
        let single : r.single ≡ 0 = omega arith in
        record {
          short = left_le mode true (drop (length s - left) s) (length s) q (rw length-drop (omega arith));
          whole = rw (← scan_counted q) (rw (fixed, scale, each, single) (simp (zero-mul, zero-add, add-zero)));
        }

  -- none
  module _ (e : r.args ≡ false) where
    scan_fitted : fitted (length s) at k r n 0 left ≡ scan_at mode inner s at
    unfolding get_if measured
    scan_fitted = let all : length (drop (length s - left) s) ≡ left = rw length-drop (omega (arith, b.short)) in rw (← b.whole, e, all)

    pub scan_bare : eqb r.scale 0 && eqb r.each 0 ≡ true → ok (head k n r.single (length s - left) (length s - left)) ≡ scan_at mode inner s at
    scan_bare z =
        let scale : r.scale ≡ 0 = eqb-true _ _ (and_l _ _ z) in
        let each : r.each ≡ 0 = eqb-true _ _ (and_r (eqb r.scale 0) _ z) in
        let fixed : r.fixed ≡ 0 = omega (arith, b.row.fixed) in
        rw (← scan_fitted) (rw (fixed, scale, each) (simp (zero-mul, add-zero, le-leb 0 left (omega arith))))

    module _ {g : Bool} (room : g ≡ leb (size r n + r.each * n) left) where
      pub scan_full : not g ≡ true → {f : Fault} → f ≡ shortage at (length s - left) r → error f ≡ scan_at mode inner s at
      scan_full z is = rw (is, ← scan_fitted, add-zero, ← room, not-true g z)

      pub scan_sized : not g ≡ false
          → ok (head k n (r.single + r.each * n) (length s - left) (length s - left + (r.fixed + r.scale * n))) ≡ scan_at mode inner s at
      scan_sized z = rw (← scan_fitted, add-zero, ← room, not-false g z)

-- ---- an immediate

module _ {mode : Mode} {s : List ℕ} {at k : ℕ} {r : Rule} {n left : ℕ} (b : Number mode true s at k r n left) (none : None r) where
  pub item_bare : r.scale ≡ 0 → ok (head k n 0 (length s - left) (length s - left)) ≡ scan_at mode true s at
  item_bare e = rw none.single at (scan_bare b none.args (rw (e, none.each)))

  pub item_sized : {g : Bool} → g ≡ leb (size r n + r.each * n) left → not g ≡ false
      → ok (head k n 0 (length s - left) (length s - left + (r.fixed + r.scale * n))) ≡ scan_at mode true s at
  item_sized room z =
      let zero : r.single + r.each * n ≡ 0 = rw (none.single, none.each) (omega (arith, zero-mul n)) in
      rw zero at (scan_sized b none.args room z)
