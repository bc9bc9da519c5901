-- `Keeps` settles the new values (`keeps_unique`), so pruning what was pruned changes nothing (`keeps_again`).
--
-- In order: rising lists with the same members are equal (`rising_same`); tokens that hold the same, from the same start on, are equal (`tokens_same`), and
-- so are values, from the first on (`keeps_unique`); values that are all reached are kept as they are (`keeps_self`); `keeps_again`.
use mathlib.Core.Path.{◌≡◌, refl, sym, ap, ◌∙◌}
use mathlib.Core.Logic.{◌↔◌}
use mathlib.Core.Bool.{true, false≢true, or_comm}
use mathlib.Core.List.{List, [], ◌∷◌, ◌++◌}
use Prim.Native.Nat.{ℕ, zero, suc, ◌+◌, ◌-◌, ◌≤◌, ◌<◌}
use native.Mathlib.Omega.{arith}
use lib.Dec.{eqb}
use lib.ListN.{length, take, get_or, length-append, get_or-append}
use lib.Seq.{take-suc, take-take, take_all, get_or_at}
use borrow.Author.Tests.{eqb-true, eq-eqb}
use Rattle.prelude.specs.Each.{Each}
use Rattle.prelude.specs.Search.{among, rank, Rising}
use Rattle.prelude.proofs.Tests.{split, or_true}
use Rattle.prelude.proofs.Searches.{rank_at, among_at, among_by}
use Rattle.leb128.specs.declared.Mode.TheVariants.{Strict}
use Rattle.token.specs.Token.{Token, token, emit, Spelled}
use Rattle.token.proofs.Laws.{strict_token}
use Rattle.values.specs.Values.{Value, region, starts, Item, Formed, HasTarget, HasTargets, Values}
use Rattle.values.proofs.Members.{each_imp}
use Rattle.values.proofs.Laws.{starts_at}
use Rattle.guarantees_prune.specs.Pruned.{number, absent, Reached, SameToken, SameTokens, Keeps}
use Rattle.guarantees_prune.proofs.Reached.{reached_le}
use Rattle.guarantees_prune.proofs.Live.{start_of, tokens_of, targeted, number_lt, keeps_live}

-- ---- rising lists

-- what is among the later ones is greater than the first
rising_lt : (x : ℕ) (xs : List ℕ) → Rising (x ∷ xs) → (i : ℕ) → among i xs ≡ true → x < i
rising_lt x xs r i m = let (k, k<, e) = among_by i xs m in omega (arith, r 0 (suc k) (omega arith) (omega arith))

module _ (x : ℕ) (xs : List ℕ) (r : Rising (x ∷ xs)) (y : ℕ) (ys : List ℕ) (s : Rising (y ∷ ys))
    (f : (i : ℕ) → among i (x ∷ xs) ≡ true → among i (y ∷ ys) ≡ true) where
  first_le : y ≤ x
  unfolding among
  first_le =
      or_true (eqb x y) (among x ys) (f x (rw (eq-eqb x x refl))) (λ q. omega (arith, eqb-true x y q)) (λ q. omega (arith, rising_lt y ys s x q))

  later_members : x ≡ y → (i : ℕ) → among i xs ≡ true → among i ys ≡ true
  unfolding among
  later_members e i m =
      or_true (eqb i y) (among i ys) (f i (rw (m, or_comm (eqb i x) true))) (λ q. absurd (omega (arith, eqb-true i y q, rising_lt x xs r i m))) (λ q. q)

rising_same : (xs ys : List ℕ) → Rising xs → Rising ys → ((i : ℕ) → among i xs ≡ true → among i ys ≡ true)
    → ((i : ℕ) → among i ys ≡ true → among i xs ≡ true) → xs ≡ ys
unfolding among
rising_same [] [] r s f g = refl
rising_same [] (y ∷ ys) r s f g = absurd (false≢true (g y (rw (eq-eqb y y refl))))
rising_same (x ∷ xs) [] r s f g = absurd (false≢true (f x (rw (eq-eqb x x refl))))
rising_same (x ∷ xs) (y ∷ ys) r s f g =
    let e : x ≡ y = omega (arith, first_le x xs r y ys s f, first_le y ys s x xs r g) in
    let more = rising_same xs ys (λ i j h l. r (suc i) (suc j) (omega arith) (omega arith)) (λ i j h l. s (suc i) (suc j) (omega arith) (omega arith))
    (later_members x xs r y ys s f e) (later_members y ys s x xs r g (sym e)) in
    λ k. e k ∷ more k

-- ---- tokens

spelled_at : (vs : List Value) → Each (Formed Strict) vs → (i : ℕ) → i < length vs → Each (Spelled Strict) (tokens_of vs i)
spelled_at [] f i h = absurd (omega arith)
spelled_at (v ∷ vs) f zero h =
    (f.0.head.spelled, each_imp (Item Strict) (Spelled Strict) (λ t i. i.sound.spelled) v.items f.0.items)
spelled_at (v ∷ vs) f (suc i) h = spelled_at vs f.1 i (omega arith)

-- a token u at r of the new values ws, and tokens us from r on, that hold what t and ts at q of vs hold, with targets before value number n
module _ (vs : List Value) (ks : List ℕ) (n : ℕ) where
  abbrev Copy : ℕ → Token → List Value → ℕ → Token → Type 0
  Copy q t ws r u = SameToken vs q t ks ws r u × HasTarget (take n (starts 0 ws)) r u × Spelled Strict u

  abbrev Copies : ℕ → List Token → List Value → ℕ → List Token → Type 0
  Copies q ts ws r us = SameTokens vs q ts ks ws r us × HasTargets (take n (starts 0 ws)) r us × Each (Spelled Strict) us

  -- if the first n of the new values start at the same places, there is one such token
  module _ (rising : Rising ks) (n≤ : n ≤ length ks) (ws xs : List Value) (start : (m : ℕ) → m < n → start_of ws m ≡ start_of xs m) where
    n_same : (q : ℕ) (t : Token) (r : ℕ) (u x : Token) → Copy q t ws r u → Copy q t xs r x → u.n ≡ x.n
    n_same q t r u x a b =
        split t.kind 14 (λ l. omega (arith, a.0.n (omega arith), b.0.n (omega arith)))
        (λ l.
        let (u<, um) = a.1 (omega (arith, a.0.kind)) in
        let (x<, xm) = b.1 (omega (arith, b.0.kind)) in
        let (i<, i) = number_lt ws n (r - u.n - 1) um in
        let (j<, j) = number_lt xs n (r - x.n - 1) xm in
        let same : number ws (r - u.n - 1) ≡ number xs (r - x.n - 1) =
        sym (rank_at _ ks rising _ (omega arith) (a.0.target l)) ∙ rank_at _ ks rising _ (omega arith) (b.0.target l) in
        omega (arith, start (number ws (r - u.n - 1)) i<, ap (start_of xs) same))

    token_same : (q : ℕ) (t : Token) (r : ℕ) (u x : Token) → Copy q t ws r u → Copy q t xs r x → u ≡ x
    token_same q t r u x a b =
        let kind : u.kind ≡ x.kind = a.0.kind ∙ sym b.0.kind in
        let number = n_same q t r u x a b in
        let args : u.args ≡ x.args = a.0.args ∙ sym b.0.args in
        let body : u.body ≡ x.body = a.0.body ∙ sym b.0.body in
        sym (strict_token u a.2) ∙ (λ i. token (kind i) (number i) (args i) (body i)) ∙ strict_token x b.2

    tokens_same : (q : ℕ) (ts : List Token) (r : ℕ) (us ys : List Token) → Copies q ts ws r us → Copies q ts xs r ys → us ≡ ys
    tokens_same q [] r [] [] a b = refl
    tokens_same q [] r [] (y ∷ ys) a b = absurd b.0
    tokens_same q [] r (u ∷ us) ys a b = absurd a.0
    tokens_same q (t ∷ ts) r [] ys a b = absurd a.0
    tokens_same q (t ∷ ts) r (u ∷ us) [] a b = absurd b.0
    tokens_same q (t ∷ ts) r (u ∷ us) (y ∷ ys) a b =
        let e = token_same q t r u y (a.0.0, a.1.0, a.2.0) (b.0.0, b.1.0, b.2.0) in
        let more : Copies (q + length (emit t)) ts xs (r + length (emit u)) ys = rw e (b.0.1, b.1.1, b.2.1) in
        λ k. e k ∷ tokens_same (q + length (emit t)) ts (r + length (emit u)) us ys (a.0.1, a.1.1, a.2.1) more k

-- ---- values

-- the start of a value, by the values before it
start_same : (ws xs : List Value) (n m : ℕ) → take n ws ≡ take n xs → m ≤ n → m < length ws → m < length xs → start_of ws m ≡ start_of xs m
start_same ws xs n m e h i j =
    let same : take m ws ≡ take m xs = sym (take-take m n ws h) ∙ ap (take m) e ∙ take-take m n xs h in
    starts_at 0 ws m i ∙ ap (λ l. 0 + length (region l)) same ∙ sym (starts_at 0 xs m j)

-- the new values ws are those of vs with the numbers ks
record Copied (vs : List Value) (ks : List ℕ) (ws : List Value) : Type 0 where
  many : length ws ≡ length ks
  copies : (n : ℕ) → n < length ks → Copies vs ks n (start_of vs (get_or ks n 0)) (tokens_of vs (get_or ks n 0)) ws (start_of ws n) (tokens_of ws n)

copied : (vs : List Value) (e : ℕ) (ws : List Value) (f : ℕ) → Values Strict ws → (k : Keeps vs e ws f) → Copied vs k.kept ws
copied vs e ws f ok k =
    let many = k.many in
    record { many = many; copies = λ n h. (k.same n h, targeted ws ok n (omega arith), spelled_at ws ok.formed n (omega arith)) }

module _ (vs : List Value) (ks : List ℕ) (rising : Rising ks) (ws xs : List Value) (a : Copied vs ks ws) (b : Copied vs ks xs) where
  firsts_same : (n : ℕ) → n ≤ length ks → take n ws ≡ take n xs
  firsts_same zero h = refl
  firsts_same (suc n) h =
      let e = firsts_same n (omega arith) in
      let i = get_or ks n 0 in
      let n< : n < length ws = omega (arith, a.many) in
      let m< : n < length xs = omega (arith, b.many) in
      let start : (m : ℕ) → m ≤ n → start_of ws m ≡ start_of xs m = λ m l. start_same ws xs n m e l (omega arith) (omega arith) in
      let same : tokens_of ws n ≡ tokens_of xs n =
      tokens_same vs ks n rising (omega arith) ws xs (λ m l. start m (omega arith)) (start_of vs i) (tokens_of vs i) (start_of ws n) (tokens_of ws n)
      (tokens_of xs n) (a.copies n h) (rw (← start n (omega arith)) at (b.copies n h)) in
      let head : (get_or ws n absent).head ≡ (get_or xs n absent).head = cc in
      let items : (get_or ws n absent).items ≡ (get_or xs n absent).items = cc in
      let value : get_or ws n absent ≡ get_or xs n absent = λ k. record { head = head k; items = items k } in
      rw (take-suc ws n absent n<, take-suc xs n absent m<) (λ k. e k ++ (value k ∷ []))

  values_same : ws ≡ xs
  values_same =
      sym (take_all (length ks) ws (omega (arith, a.many))) ∙ firsts_same (length ks) (omega arith) ∙ take_all (length ks) xs (omega (arith, b.many))

pub keeps_unique : (vs : List Value) (e : ℕ) (ws : List Value) (f : ℕ) (xs : List Value) (g : ℕ) → Values Strict ws → Values Strict xs
    → Keeps vs e ws f → Keeps vs e xs g → (ws ≡ xs) × (f ≡ g)
keeps_unique vs e ws f xs g ok good k l =
    let kept : k.kept ≡ l.kept = rising_same k.kept l.kept k.rising l.rising
    (λ i m. (l.exactly i).1 ((k.exactly i).0 m)) (λ i m. (k.exactly i).1 ((l.exactly i).0 m)) in (
      values_same vs k.kept k.rising ws xs (copied vs e ws f ok k) (rw kept (copied vs e xs g good l)),
      sym (rank_at e k.kept k.rising f k.entry.0 k.entry.1) ∙ ap (rank e) kept
          ∙ rank_at e l.kept l.rising g l.entry.0 l.entry.1,
    )

-- ---- values that are all reached

-- the numbers below n
numbers : ℕ → List ℕ
numbers zero = []
numbers (suc n) = numbers n ++ (n ∷ [])

length_numbers : (n : ℕ) → length (numbers n) ≡ n
unfolding numbers
length_numbers zero = refl
length_numbers (suc n) = omega (arith, length-append (numbers n) (n ∷ []), length_numbers n)

get_d_numbers : (n i : ℕ) → i < n → get_or (numbers n) i 0 ≡ i
unfolding numbers
get_d_numbers zero i h = absurd (omega arith)
get_d_numbers (suc n) i h =
    split i n
    (λ l. get_or-append (numbers n) (n ∷ []) 0 i (omega (arith, length_numbers n)) ∙ get_d_numbers n i l)
    (λ l. let e : i ≡ n = omega arith in rw e (get_or_at (numbers n) n [] 0 n (length_numbers n)))

tokens_self : (ks : List ℕ) (ws : List Value) (n : ℕ) → ((i : ℕ) → i < n → get_or ks i 0 ≡ i) → (q : ℕ) (ts : List Token)
    → HasTargets (take n (starts 0 ws)) q ts → SameTokens ws q ts ks ws q ts
tokens_self ks ws n own q [] h = tt
tokens_self ks ws n own q (t ∷ ts) h = (
  record {
    kind = refl;
    args = refl;
    body = refl;
    n = λ _. refl;
    target = λ l. own (number ws (q - t.n - 1)) (number_lt ws n (q - t.n - 1) (h.0 l).1).0;
  },
  tokens_self ks ws n own (q + length (emit t)) ts h.1,
)

module _ (ws : List Value) (ok : Values Strict ws) (f : ℕ) (f< : f < length ws) (live : (k : ℕ) → k < length ws → Reached ws f k) where
  abbrev all : List ℕ
  all = numbers (length ws)

  all_exactly : (i : ℕ) → (among i all ≡ true) ↔ Reached ws f i
  all_exactly i =
      let long = length_numbers (length ws) in (
        λ m. let (k, k<, e) = among_by i all m in live i (omega (arith, get_d_numbers (length ws) k (omega arith))),
        λ r. let i< : i < length ws = omega (arith, reached_le ws ok f f< i r) in among_at i all i (omega arith) (get_d_numbers (length ws) i i<),
      )

  pub keeps_self : Keeps ws f ws f
  keeps_self =
      let long = length_numbers (length ws) in
      let own : (i : ℕ) → i < length all → get_or all i 0 ≡ i = λ i h. get_d_numbers (length ws) i (omega arith) in
      record {
        kept = all;
        many = sym long;
        rising = λ i j h l. omega (arith, own i (omega arith), own j l);
        exactly = all_exactly;
        same = λ k h. let k< : k < length ws = omega arith in
            rw (own k h) (tokens_self all ws k (λ i l. own i (omega arith)) (start_of ws k) (tokens_of ws k) (targeted ws ok k k<));
        entry = (omega arith, own f (omega arith));
      }

pub keeps_again : (vs : List Value) (e : ℕ) (ws : List Value) (f : ℕ) (xs : List Value) (g : ℕ) → Values Strict vs → Values Strict ws → Values Strict xs
    → e < length vs → Keeps vs e ws f → Keeps ws f xs g → (ws ≡ xs) × (f ≡ g)
keeps_again vs e ws f xs g old ok good h k l =
    keeps_unique ws f ws f xs g ok good (keeps_self ws ok f (omega (arith, k.many, k.entry.0)) (keeps_live vs old ws ok e f h k)) l
