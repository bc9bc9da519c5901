-- Nothing dead is left: the values that are kept are all reached again (`keeps_live`).
--
-- In order: value number i: the targets of its tokens, and their numbers (`targeted`, `number_lt`); tokens that hold the same have the same targets
-- (`same_targets`); so a value that is kept leads where it led (`leads_kept`), and a path of the old values is one of the new.
use mathlib.Core.Path.{◌≡◌, refl, sym, ap, ◌∙◌, subst}
use mathlib.Core.Bool.{true, false≢true, or_comm}
use mathlib.Core.List.{List, [], ◌∷◌, ◌++◌, append-nil, map}
use Prim.Native.Nat.{ℕ, zero, suc, ◌+◌, ◌<◌}
use native.Mathlib.Omega.{arith}
use lib.Dec.{eqb}
use lib.ListN.{length, take, get_or}
use lib.Seq.{append_snoc}
use borrow.Author.Tests.{eqb-true, eq-eqb}
use Rattle.prelude.specs.Search.{among}
use Rattle.prelude.proofs.Tests.{split, or_true}
use Rattle.prelude.proofs.Searches.{rank_at, rank_get_d, among_at}
use Rattle.leb128.specs.declared.Mode.{Mode}
use Rattle.token.specs.Token.{Token, emit}
use Rattle.values.specs.Values.{Value, tokens, bytes, starts, HasTargets, TargetsEarlier, Values}
use Rattle.values.specs.Paths.{targets, targets_of, Leads}
use Rattle.values.proofs.Members.{each_among, among_take}
use Rattle.values.proofs.Laws.{length_starts, rising_starts, targets_own, targets_none, targets_of_has_targets}
use Rattle.guarantees_prune.specs.Pruned.{number, absent, Reached, SameTokens, Keeps}
use Rattle.guarantees_prune.proofs.Reached.{reached_here, reached_on, reached_by, reached_le}

-- ---- value number i

abbrev pub start_of : List Value → ℕ → ℕ
start_of vs i = get_or (starts 0 vs) i 0

abbrev pub tokens_of : List Value → ℕ → List Token
tokens_of vs i = tokens (get_or vs i absent)

targets_at : (at : ℕ) (vs : List Value) (i : ℕ) → i < length vs
    → get_or (targets_of at vs) i [] ≡ targets (get_or (starts at vs) i 0) (tokens_of vs i)
unfolding targets_of starts
targets_at at [] i h = absurd (omega arith)
targets_at at (v ∷ vs) zero h = refl
targets_at at (v ∷ vs) (suc i) h = targets_at (at + length (bytes (tokens v))) vs i (omega arith)

has_targets_at : (done : List ℕ) (at : ℕ) (vs : List Value) (i : ℕ) → i < length vs → TargetsEarlier done at vs
    → HasTargets (done ++ take i (starts at vs)) (get_or (starts at vs) i 0) (tokens_of vs i)
unfolding starts
has_targets_at done at [] i h b = absurd (omega arith)
has_targets_at done at (v ∷ vs) zero h b = subst (λ l. HasTargets l at (tokens v)) (sym (append-nil done)) b.0
has_targets_at done at (v ∷ vs) (suc i) h b =
    subst (λ l. HasTargets l (get_or (starts at (v ∷ vs)) (suc i) 0) (tokens_of (v ∷ vs) (suc i)))
    (append_snoc done at (take i (starts (at + length (bytes (tokens v))) vs)))
    (has_targets_at (done ++ (at ∷ [])) (at + length (bytes (tokens v))) vs i (omega arith) b.1)

-- the targets of its tokens are starts of values before it
pub targeted : {mode : Mode} (vs : List Value) → Values mode vs → (i : ℕ) → i < length vs
    → HasTargets (take i (starts 0 vs)) (start_of vs i) (tokens_of vs i)
targeted vs ok i h = has_targets_at [] 0 vs i h ok.targets

-- the number of a target
pub number_lt : (vs : List Value) (i x : ℕ) → among x (take i (starts 0 vs)) ≡ true → (number vs x < i) × (get_or (starts 0 vs) (number vs x) 0 ≡ x)
number_lt vs i x m = among_take x (starts 0 vs) i (rising_starts 0 vs) m

-- ---- tokens that hold the same

-- their targets are the same values, one by one
same_targets : (vs : List Value) (q : ℕ) (ts : List Token) (ks : List ℕ) (ws : List Value) (r : ℕ) (us : List Token) → SameTokens vs q ts ks ws r us
    → map (λ y. get_or ks (number ws y) 0) (targets r us) ≡ map (number vs) (targets q ts)
unfolding targets
same_targets vs q [] ks ws r [] s = refl
same_targets vs q [] ks ws r (u ∷ us) s = absurd s
same_targets vs q (t ∷ ts) ks ws r [] s = absurd s
same_targets vs q (t ∷ ts) ks ws r (u ∷ us) s =
    let more = same_targets vs (q + length (emit t)) ts ks ws (r + length (emit u)) us s.1 in
    split t.kind 14 (λ l. rw (targets_none q t ts l, targets_none r u us (omega (arith, s.0.kind))) more)
    (λ l. rw (targets_own q t ts l, targets_own r u us (omega (arith, s.0.kind))) (λ k. s.0.target l k ∷ more k))

-- of lists with equal images, each of one has one of the other
among_map : (f g : ℕ → ℕ) (xs ys : List ℕ) → map g ys ≡ map f xs → (x : ℕ) → among x xs ≡ true → (y : ℕ) × (among y ys ≡ true) × (g y ≡ f x)
unfolding among
among_map f g [] ys e x m = absurd (false≢true m)
among_map f g (z ∷ xs) [] e x m = absurd (omega (arith, ap length e))
among_map f g (z ∷ xs) (y ∷ ys) e x m =
    or_true (eqb x z) (among x xs) m (λ q. (y, rw (eq-eqb y y refl), rw (eqb-true x z q) (cc)))
    (λ q. let (w, l, h) = among_map f g xs ys (cc) x q in (w, rw (l, or_comm (eqb w y) true), h))

-- ---- paths of the values that are kept

-- what holds of a new value that was value number i
record Once (ks : List ℕ) (P : ℕ → Type 0) (i : ℕ) : Type 0 where
  new : ℕ
  inside : new < length ks
  is : get_or ks new 0 ≡ i
  holds : P new

module _ {mode : Mode} (vs : List Value) (ok : Values mode vs) (ws : List Value) (made : Values mode ws) (e f : ℕ) (e< : e < length vs)
    (k : Keeps vs e ws f) where
  leads_kept : (n j : ℕ) → n < length k.kept → Leads vs (get_or k.kept n 0) j → Once k.kept (Leads ws n) j
  leads_kept n j h t =
      let i = get_or k.kept n 0 in
      let n< : n < length ws = omega (arith, k.many) in
      let i< : i < length vs = omega (arith, reached_le vs ok e e< i ((k.exactly i).0 (among_at i k.kept n h refl))) in
      let old = start_of vs i in
      let new = start_of ws n in
      let same = same_targets vs old (tokens_of vs i) k.kept ws new (tokens_of ws n) (k.same n h) in
      let (y, own, is) = among_map _ _ (targets old (tokens_of vs i)) (targets new (tokens_of ws n)) same (start_of vs j) (rw (targets_at 0 vs i i<) at t.1) in
      let starts_before = targets_of_has_targets (take n (starts 0 ws)) new (tokens_of ws n) (targeted ws made n n<) in
      let (l<, start) = number_lt ws n y (each_among _ y _ starts_before own) in
      record {
        new = number ws y;
        inside = omega arith;
        is = is ∙ rank_get_d (starts 0 vs) (rising_starts 0 vs) j (omega (arith, length_starts 0 vs, t.0));
        holds = (omega arith, rw (start, targets_at 0 ws n n<) own);
      }

  pub keeps_live : (n : ℕ) → n < length ws → Reached ws f n
  keeps_live n h =
      let ks = k.kept in
      let n< : n < length ks = omega (arith, k.many) in
      let first : Once ks (Reached ws f) e = record { new = f; inside = k.entry.0; is = k.entry.1; holds = reached_here ws f } in
      let o = reached_by vs (Once ks (Reached ws f)) (λ i j i< o t.
      let l = leads_kept o.new j o.inside (rw (← o.is) at t) in
      record { new = l.new; inside = l.inside; is = l.is; holds = reached_on ws o.holds l.holds })
      e< first ((k.exactly (get_or ks n 0)).0 (among_at (get_or ks n 0) ks n n< refl)) in
      let same : o.new ≡ n = sym (rank_at (get_or ks n 0) ks k.rising o.new o.inside o.is) ∙ rank_get_d ks k.rising n n< in
      rw (← same) o.holds
