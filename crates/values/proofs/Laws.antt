-- The laws of values: their bytes, where they start, what each value and item has, and the targets.
--
-- In order: the bytes of tokens and of values joined; the starts: of values joined, by number, rising, within the
-- region; a value by its place: its bytes, its start, and that the values after it start where it has ended; an item
-- has no items, and heads and items fit where they are; references and pointers of values joined, and their targets.
use mathlib.Core.Path.{◌≡◌, refl, ap}
use mathlib.Core.Logic.{◌↔◌}
use mathlib.Core.Bool.{true, false}
use mathlib.Core.List.{List, [], ◌∷◌, ◌++◌, append_assoc, append-nil}
use Prim.Native.Nat.{ℕ, zero, suc, ◌+◌, ◌-◌, ◌≤◌, ◌<◌}
use native.Mathlib.Nat.{zero-add, add-zero}
use native.Mathlib.Omega.{arith}
use lib.ListN.{length, get_or, take, length-append}
use lib.Seq.{append_snoc, get_or-append-add}
use borrow.Author.Tests.{le-leb, lt-leb}
use Rattle.prelude.specs.Search.{among, Rising}
use Rattle.prelude.specs.Each.{Each}
use Rattle.prelude.proofs.Tests.{split}
use Rattle.leb128.specs.declared.Mode.{Mode}
use Rattle.kind.specs.Kind.{rule, counted, pending, immediate}
use Rattle.kind.proofs.Laws.{immediate_none}
use Rattle.token.specs.Token.{Token, emit, Allowed, Fits}
use Rattle.token.proofs.Laws.{emit_pos}
use Rattle.values.specs.Values.{Value, tokens, bytes, region, starts, Item, Formed, HasTargets, TargetsEarlier}
use Rattle.values.specs.Paths.{targets}

-- ---- bytes

pub bytes_append : (a b : List Token) → bytes (a ++ b) ≡ bytes a ++ bytes b
unfolding bytes
bytes_append [] b = refl
bytes_append (t ∷ a) b = rw (bytes_append a b, append_assoc)

pub region_append : (a b : List Value) → region (a ++ b) ≡ region a ++ region b
unfolding region
region_append [] b = refl
region_append (v ∷ a) b = rw (region_append a b, append_assoc)

-- each token has a byte
pub items_room : (ts : List Token) → length ts ≤ length (bytes ts)
unfolding bytes
items_room [] = omega arith
items_room (t ∷ ts) = omega (arith, emit_pos t, items_room ts, length-append (emit t) (bytes ts))

abbrev size : Value → ℕ
size v = length (bytes (tokens v))

size_pos : (v : Value) → 1 ≤ size v
size_pos v = omega (arith, items_room (tokens v))

length_region : (v : Value) (vs : List Value) → length (region (v ∷ vs)) ≡ size v + length (region vs)
unfolding region
length_region v vs = length-append (bytes (tokens v)) (region vs)

-- each value has a byte
pub count_le : (vs : List Value) → length vs ≤ length (region vs)
unfolding region
count_le [] = omega arith
count_le (v ∷ vs) = omega (arith, length_region v vs, size_pos v, count_le vs)

-- ---- starts

pub length_starts : (at : ℕ) (vs : List Value) → length (starts at vs) ≡ length vs
unfolding starts
length_starts at [] = refl
length_starts at (v ∷ vs) = ap suc (length_starts (at + size v) vs)

pub starts_append : (at : ℕ) (a b : List Value) → starts at (a ++ b) ≡ starts at a ++ starts (at + length (region a)) b
unfolding starts region
starts_append at [] b = rw add-zero
starts_append at (v ∷ a) b =
    let e : at + length (region (v ∷ a)) ≡ at + size v + length (region a) = omega (arith, length_region v a) in
    rw (e, starts_append (at + size v) a b)

pub starts_at : (at : ℕ) (vs : List Value) (i : ℕ) → i < length vs → get_or (starts at vs) i 0 ≡ at + length (region (take i vs))
unfolding starts region
starts_at at [] i h = absurd (omega arith)
starts_at at (v ∷ vs) zero h = omega arith
starts_at at (v ∷ vs) (suc i) h = omega (arith, starts_at (at + size v) vs i (omega arith), length_region v (take i vs))

pub starts_ge : (at : ℕ) (vs : List Value) (i : ℕ) → i < length vs → at ≤ get_or (starts at vs) i 0
starts_ge at vs i h = omega (arith, starts_at at vs i h)

pub starts_lt : (at : ℕ) (vs : List Value) (i : ℕ) → i < length vs → get_or (starts at vs) i 0 < at + length (region vs)
unfolding starts
starts_lt at [] i h = absurd (omega arith)
starts_lt at (v ∷ vs) zero h = omega (arith, length_region v vs, size_pos v)
starts_lt at (v ∷ vs) (suc i) h = omega (arith, starts_lt (at + size v) vs i (omega arith), length_region v vs)

pub rising_starts : (at : ℕ) (vs : List Value) → Rising (starts at vs)
unfolding starts
rising_starts at [] i j l h = absurd (omega arith)
rising_starts at (v ∷ vs) i zero l h = absurd (omega arith)
rising_starts at (v ∷ vs) zero (suc j) l h =
    omega (arith, size_pos v, starts_ge (at + size v) vs j (omega (arith, length_starts (at + size v) vs)))
rising_starts at (v ∷ vs) (suc i) (suc j) l h = rising_starts (at + size v) vs i j (omega arith) (omega arith)

-- ---- a value by its place, with those before it and those after it

pub region_at : (a : List Value) (v : Value) (b : List Value) → region (a ++ (v ∷ b)) ≡ region a ++ (bytes (tokens v) ++ region b)
unfolding region
region_at a v b = region_append a (v ∷ b)

-- the starts past some values
pub starts_past : (at : ℕ) (a b : List Value) (k : ℕ) → get_or (starts at (a ++ b)) (length a + k) 0 ≡ get_or (starts (at + length (region a)) b) k 0
starts_past at a b k = rw (starts_append at a b, ← length_starts at a) (get_or-append-add (starts at a) (starts (at + length (region a)) b) k 0)

pub start_of : (a : List Value) (v : Value) (b : List Value) → get_or (starts 0 (a ++ (v ∷ b))) (length a) 0 ≡ length (region a)
unfolding starts
start_of a v b = let e = starts_past 0 a (v ∷ b) 0 in rw (add-zero, zero-add) at e

-- the values after v start where it has ended, or after that
pub ended_before : (a : List Value) (v : Value) (b : List Value) (j : ℕ) → length a < j → j < length (a ++ (v ∷ b))
    → get_or (starts 0 (a ++ (v ∷ b))) (length a) 0 + length (bytes (tokens v)) ≤ get_or (starts 0 (a ++ (v ∷ b))) j 0
unfolding starts
ended_before a v b j l h =
    let k : ℕ = j - suc (length a) in
    let e : j ≡ length a + suc k = omega arith in
    let k< : k < length b = omega (arith, length-append a (v ∷ b)) in
    rw (e, starts_past 0 a (v ∷ b) (suc k)) (omega (arith, start_of a v b, starts_ge (0 + length (region a) + size v) b k k<))

-- value number i
pub record At (vs : List Value) (i : ℕ) : Type 0 where
  pub before : List Value
  pub value : Value
  pub after : List Value
  pub same : vs ≡ before ++ (value ∷ after)
  pub number : length before ≡ i

pub value_number : (vs : List Value) (i : ℕ) → i < length vs → At vs i
value_number [] i h = absurd (omega arith)
value_number (v ∷ vs) zero h = record { before = []; value = v; after = vs; same = refl; number = refl }
value_number (v ∷ vs) (suc i) h =
    let p = value_number vs i (omega arith) in
    record { before = v ∷ p.before; value = p.value; after = p.after; same = ap (λ l. v ∷ l) p.same; number = ap suc p.number }

-- ---- heads and items fit where they are

pub immediate_counts : (t : Token) → Allowed t → immediate (rule t.kind) ≡ true
    → (counted (rule t.kind) t.n t.args ≡ 0) × (pending (rule t.kind) t.n t.args ≡ 0)
immediate_counts t f one =
    let none = immediate_none t.kind one in
    rw (none.each, none.single, f.alone none.args) (omega arith)

pub fits_item : {mode : Mode} (t : Token) → Item mode t → (s : List ℕ) → Fits mode true t s
fits_item t i s = record {
  allowed = i.sound.allowed;
  spelled = i.sound.spelled;
  flat = rw i.immediate;
  room = omega (arith, immediate_counts t i.sound.allowed i.immediate);
}

pub fits_head : {mode : Mode} (v : Value) → Formed mode v → (s : List ℕ) → Fits mode false v.head (bytes v.items ++ s)
fits_head v f s = record {
  allowed = f.head.allowed;
  spelled = f.head.spelled;
  flat = refl;
  room = omega (arith, f.count, items_room v.items, length-append (bytes v.items) s);
}

-- ---- references and pointers

pub targets_earlier_append : (done : List ℕ) (at : ℕ) (a b : List Value)
    → TargetsEarlier done at (a ++ b) ↔ (TargetsEarlier done at a × TargetsEarlier (done ++ starts at a) (at + length (region a)) b)
unfolding starts region
targets_earlier_append done at [] b = rw (append-nil, add-zero) (λ h. (tt, h), λ h. h.1)
targets_earlier_append done at (v ∷ a) b =
    let ih = targets_earlier_append (done ++ (at ∷ [])) (at + size v) a b in
    let e : at + length (region (v ∷ a)) ≡ at + size v + length (region a) = omega (arith, length_region v a) in
    rw (e, ← append_snoc done at (starts (at + size v) a))
    (λ h. let r = ih.0 h.1 in ((h.0, r.0), r.1), λ h. (h.0.0, ih.1 (h.0.1, h.1)))

-- a reference or pointer has a target, and other tokens have none
pub targets_own : (q : ℕ) (t : Token) (ts : List Token) → 14 ≤ t.kind → targets q (t ∷ ts) ≡ (q - t.n - 1) ∷ targets (q + length (emit t)) ts
unfolding targets
targets_own q t ts k = simp (le-leb, k)

pub targets_none : (q : ℕ) (t : Token) (ts : List Token) → t.kind < 14 → targets q (t ∷ ts) ≡ targets (q + length (emit t)) ts
unfolding targets
targets_none q t ts k = simp (lt-leb, k)

-- the targets of tokens, each among `done`
pub targets_of_has_targets : (done : List ℕ) (q : ℕ) (ts : List Token) → HasTargets done q ts → Each (λ x. among x done ≡ true) (targets q ts)
unfolding targets
targets_of_has_targets done q [] h = tt
targets_of_has_targets done q (t ∷ ts) h =
    let ih = targets_of_has_targets done (q + length (emit t)) ts h.1 in
    split t.kind 14 (λ l. rw (targets_none q t ts l) ih) (λ l. rw (targets_own q t ts l) ((h.0 l).1, ih))
