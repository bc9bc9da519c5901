-- Where a value leads (document 01: "A descent goes from a value to any value targeted by a pointer or reference that it is or holds"), by its tokens.
--
-- In order: the targets of tokens are those of the references and pointers among them (`targets_by`, `targets_at`); the targets of value number i; so
-- `Leads` is `Refers` (`leads_exactly`).
use mathlib.Core.Path.{◌≡◌, refl, ap}
use mathlib.Core.Logic.{◌↔◌}
use mathlib.Core.Bool.{true, false≢true, or_comm}
use mathlib.Core.List.{List, [], ◌∷◌, ◌++◌}
use Prim.Native.Nat.{ℕ, ◌+◌, ◌-◌, ◌≤◌, ◌<◌}
use native.Mathlib.Nat.{zero-add, add-zero}
use native.Mathlib.Omega.{arith}
use lib.Dec.{eqb}
use lib.ListN.{length, get_or, length-append, get_or-eq_default}
use borrow.Author.Tests.{eqb-true, eq-eqb}
use Rattle.prelude.specs.Search.{among}
use Rattle.prelude.proofs.Tests.{split, or_true}
use Rattle.token.specs.Token.{Token, emit}
use Rattle.values.specs.Values.{Value, tokens, bytes, region, starts}
use Rattle.values.specs.Paths.{targets, targets_of, Refers, Leads}
use Rattle.values.proofs.Laws.{At, value_number, targets_own, targets_none}
use Rattle.values.proofs.Depths.{length_targets}

-- one of the tokens ts, the first at q, is a reference or pointer to x
record Target (q x : ℕ) (ts : List Token) : Type 0 where
  front : List Token
  token : Token
  back : List Token
  same : ts ≡ front ++ (token ∷ back)
  kind : 14 ≤ token.kind
  place : x ≡ q + length (bytes front) - token.n - 1

target_first : (q : ℕ) (t : Token) (ts : List Token) → 14 ≤ t.kind → Target q (q - t.n - 1) (t ∷ ts)
unfolding bytes
target_first q t ts k = record { front = []; token = t; back = ts; same = refl; kind = k; place = rw add-zero }

target_later : (q x : ℕ) (t : Token) (ts : List Token) → Target (q + length (emit t)) x ts → Target q x (t ∷ ts)
unfolding bytes
target_later q x t ts r =
    let long = length-append (emit t) (bytes r.front) in
    record {
      front = t ∷ r.front;
      token = r.token;
      back = r.back;
      same = ap (λ l. t ∷ l) r.same;
      kind = r.kind;
      place = omega (arith, r.place);
    }

targets_by : (q x : ℕ) (ts : List Token) → among x (targets q ts) ≡ true → Target q x ts
unfolding targets among
targets_by q x [] h = absurd (false≢true h)
targets_by q x (t ∷ ts) h =
    let p = q + length (emit t) in
    let later : among x (targets p ts) ≡ true → Target q x (t ∷ ts) = λ m. target_later q x t ts (targets_by p x ts m) in
    split t.kind 14 (λ l. later (rw (targets_none q t ts l) at h))
    (λ l. or_true (eqb x (q - t.n - 1)) (among x (targets p ts)) (rw (targets_own q t ts l) at h)
    (λ e. rw (eqb-true x (q - t.n - 1) e) (target_first q t ts l)) later)

targets_at : (q : ℕ) (front : List Token) (t : Token) (back : List Token) → 14 ≤ t.kind
    → among (q + length (bytes front) - t.n - 1) (targets q (front ++ (t ∷ back))) ≡ true
unfolding among bytes
targets_at q [] t back k = rw (add-zero, targets_own q t back k, eq-eqb (q - t.n - 1) (q - t.n - 1) refl)
targets_at q (u ∷ front) t back k =
    let x = q + length (emit u) + length (bytes front) - t.n - 1 in
    let long = length-append (emit u) (bytes front) in
    let sum : q + length (emit u ++ bytes front) - t.n - 1 ≡ x = omega arith in
    let ih = targets_at (q + length (emit u)) front t back k in
    rw sum (split u.kind 14 (λ l. rw (targets_none q u (front ++ (t ∷ back)) l) ih)
    (λ l. rw (targets_own q u (front ++ (t ∷ back)) l, ih, or_comm (eqb x (q - u.n - 1)) true)))

-- ---- by value

pub targets_of_at : (at : ℕ) (a : List Value) (v : Value) (b : List Value)
    → get_or (targets_of at (a ++ (v ∷ b))) (length a) [] ≡ targets (at + length (region a)) (tokens v)
unfolding targets_of region
targets_of_at at [] v b = rw add-zero
targets_of_at at (u ∷ a) v b =
    let long = length-append (bytes (tokens u)) (region a) in
    let sum : at + length (bytes (tokens u) ++ region a) ≡ at + length (bytes (tokens u)) + length (region a) = omega arith in
    rw sum (targets_of_at (at + length (bytes (tokens u))) a v b)

-- the targets of value number i
targets_of_is : (vs : List Value) (i : ℕ) (v : At vs i) → get_or (targets_of 0 vs) i [] ≡ targets (length (region v.before)) (tokens v.value)
targets_of_is vs i v =
    let own = targets_of_at 0 v.before v.value v.after in
    rw (← v.number, v.same) (rw zero-add at own)

refers_by : (vs : List Value) (i x : ℕ) (v : At vs i) → among x (get_or (targets_of 0 vs) i []) ≡ true → Refers vs i x
refers_by vs i x v h =
    let r = targets_by (length (region v.before)) x (tokens v.value) (rw (targets_of_is vs i v) at h) in
    record {
      before = v.before;
      value = v.value;
      after = v.after;
      values = v.same;
      numbered = v.number;
      front = r.front;
      token = r.token;
      back = r.back;
      tokens = r.same;
      kind = r.kind;
      target = r.place;
    }

leads_by : (vs : List Value) (i x : ℕ) → among x (get_or (targets_of 0 vs) i []) ≡ true → Refers vs i x
unfolding among
leads_by vs i x h =
    split i (length vs) (λ l. refers_by vs i x (value_number vs i l) h)
    (λ l. absurd (false≢true (rw (get_or-eq_default (targets_of 0 vs) [] {n = i} (omega (arith, length_targets 0 vs))) at h)))

refers_at : (vs : List Value) (i x : ℕ) → Refers vs i x → among x (get_or (targets_of 0 vs) i []) ≡ true
refers_at vs i x r =
    let v : At vs i = record { before = r.before; value = r.value; after = r.after; same = r.values; number = r.numbered } in
    rw (targets_of_is vs i v, r.tokens, r.target) (targets_at (length (region r.before)) r.front r.token r.back r.kind)

-- a value leads to another exactly if it is or holds a reference or pointer to its start
pub leads_exactly : (vs : List Value) (i j : ℕ) → Leads vs i j ↔ ((j < length vs) × Refers vs i (get_or (starts 0 vs) j 0))
leads_exactly vs i j = (λ l. (l.0, leads_by vs i _ l.1), λ l. (l.0, refers_at vs i _ l.1))
