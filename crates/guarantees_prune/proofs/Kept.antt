-- The marked values, written again: they are values that a file may begin with, each holds what it held, and they are no longer than before.
--
-- In order: what holds after some of the values (`Copied`), and after one more; so of all of them: a file may begin with them (`kept_allowed`), they are
-- no longer than before (`kept_shorter`), nor is it further from one of them to the end (`kept_entry`); if the marked values are those that value number e
-- reaches, they are as `Keeps` says (`kept_keeps`).
use mathlib.Core.Path.{◌≡◌, refl, sym, ap, subst, ◌∙◌}
use mathlib.Core.Logic.{◌↔◌}
use mathlib.Core.Bool.{Bool, true, false, false≢true, or_comm}
use mathlib.Core.List.{List, [], ◌∷◌, ◌++◌, append-nil}
use Prim.Native.Nat.{ℕ, suc, ◌+◌, ◌-◌, ◌≤◌, ◌<◌}
use native.Mathlib.Nat.{zero-add}
use native.Mathlib.Omega.{arith}
use lib.Dec.{eqb}
use lib.ListN.{length, take, get_or, length-append, get_or-append, get_or-eq_default}
use lib.Seq.{take_all, append_snoc, get_or-append_seam}
use borrow.Author.Tests.{eq-eqb}
use Rattle.prelude.specs.Each.{Each}
use Rattle.prelude.specs.Search.{among}
use Rattle.prelude.proofs.Tests.{pick_elim, split}
use Rattle.prelude.proofs.Searches.{rank_at, among_at}
use Rattle.prelude.proofs.Lists.{each_append}
use Rattle.leb128.specs.declared.Mode.TheVariants.{Strict}
use Rattle.values.specs.Values.{Value, tokens, bytes, region, starts, Formed, HasTargets, Values}
use Rattle.values.specs.Paths.{targets, targets_of, Leads}
use Rattle.values.proofs.Members.{each_among}
use Rattle.values.proofs.Laws.{length_starts, rising_starts, starts_append, starts_lt, start_of, targets_earlier_append}
use Rattle.values.proofs.Depths.{before}
use Rattle.values.proofs.Leads.{targets_of_at}
use Rattle.guarantees.proofs.Depths.{length_snoc}
use Rattle.prune_marks.specs.Marks.{kept}
use Rattle.guarantees_prune.specs.Pruned.{number, Reached, SameTokens, absent, Keeps}
use Rattle.guarantees_prune.specs.Internal.{moved_value, new_start, kept_values}
use Rattle.guarantees_prune.proofs.Numbers.{numbers, length_numbers, numbers_at, numbers_by, kept_on, kept_less, rising_numbers, among_numbers}
use Rattle.guarantees_prune.proofs.Shorter.{Aim, Moved, moves_value}

-- ---- after some of the values

each_of : (P : ℕ → Type 0) (xs : List ℕ) → ((x : ℕ) → among x xs ≡ true → P x) → Each P xs
unfolding among
each_of P [] f = tt
each_of P (y ∷ xs) f = (f y (rw (eq-eqb y y refl)), each_of P xs (λ x h. f x (rw (h, or_comm (eqb x y) true))))

-- values at the front start as before
start_more : (done more : List Value) (k : ℕ) → k < length done → get_or (starts 0 (done ++ more)) k 0 ≡ get_or (starts 0 done) k 0
start_more done more k h =
    rw (starts_append 0 done more) (get_or-append (starts 0 done) (starts (0 + length (region done)) more) 0 k (omega (arith, length_starts 0 done)))

number_more : (done more : List Value) (k : ℕ) → k < length done → number (done ++ more) (get_or (starts 0 done) k 0) ≡ k
number_more done more k h =
    let ss = starts 0 (done ++ more) in
    rank_at _ ss (rising_starts 0 (done ++ more)) k (omega (arith, length_starts 0 (done ++ more), length-append done more)) (start_more done more k h)

module _ (vs : List Value) (w : Values Strict vs) (ms : List Bool)
    (closed : (i j : ℕ) → get_or ms i false ≡ true → Leads vs i j → get_or ms j false ≡ true) where
  abbrev ss : List ℕ
  ss = starts 0 vs

  abbrev ks : List ℕ
  ks = numbers 0 ms

  -- the new number of value number j
  abbrev new : ℕ → ℕ
  new j = kept (take j ms)

  -- value number k of ws holds what value number j held
  abbrev SameTo : List Value → ℕ → ℕ → Type 0
  SameTo ws j k = SameTokens vs (get_or ss j 0) (tokens (get_or vs j absent)) ks ws (get_or (starts 0 ws) k 0) (tokens (get_or ws k absent))

  abbrev SameAt : List Value → ℕ → Type 0
  SameAt ws j = SameTo ws j (new j)

  -- the values `done` are the marked ones of a, the first of vs; from none of them to the end it is further than before
  record Copied (a done : List Value) : Type 0 where
    values : Values Strict done
    count : length done ≡ new (length a)
    near : (j : ℕ) → j < length a → get_or ms j false ≡ true → length (region done) + get_or ss j 0 ≤ length (region a) + get_or (starts 0 done) (new j) 0
    short : length (region done) ≤ length (region a)

  -- one value more, v
  module _ (a : List Value) (v : Value) (b : List Value) (e : vs ≡ a ++ (v ∷ b)) (done : List Value) (c : Copied a done) where
    abbrev q : ℕ
    q = length (region a)

    abbrev r : ℕ
    r = length (region done)

    abbrev moved : Value
    moved = moved_value (new_start ss ms done) q r v

    inside : length a < length vs
    inside = omega (arith, ap length e, length-append a (v ∷ b))

    start_here : get_or ss (length a) 0 ≡ q
    start_here = rw e (start_of a v b)

    targets_here : get_or (targets_of 0 vs) (length a) [] ≡ targets q (tokens v)
    targets_here = let t = targets_of_at 0 a v b in rw e (rw zero-add at t)

    aims_here : get_or ms (length a) false ≡ true → (more : List Value)
        → Each (Aim vs (done ++ more) ks (starts 0 done) (new_start ss ms done) q r) (targets q (tokens v))
    aims_here m more =
        each_of _ (targets q (tokens v)) (λ x x∈. let x∈' = rw (← targets_here) at x∈ in
        let (less, at) = each_among _ x (get_or (targets_of 0 vs) (length a) []) (before vs w (length a) inside) x∈' in
        let j = number vs x in
        let mark : get_or ms j false ≡ true = closed (length a) j m (omega (arith, inside), rw at x∈') in
        let k< : new j < length done = omega (arith, c.count, kept_less ms j (length a) mark less) in
        record {
          below = omega (arith, starts_lt 0 done (new j) k<);
          near = omega (arith, c.near j less mark);
          start = among_at _ (starts 0 done) (new j) (omega (arith, length_starts 0 done)) refl;
          same = rw (number_more done more (new j) k<) ((numbers_at 0 ms j mark).1 ∙ zero-add j);
        })

    moved_here : get_or ms (length a) false ≡ true → (more : List Value)
        → Formed Strict moved × Moved vs (done ++ more) ks (starts 0 done) (new_start ss ms done) q r q r (tokens v) (tokens moved)
    moved_here m more =
        let f : Formed Strict v = ((each_append (Formed Strict) a (v ∷ b)).0 (rw e at w.formed)).1.0 in
        let t = ((targets_earlier_append [] 0 a (v ∷ b)).0 (rw e at w.targets)).1.0 in
        moves_value vs (done ++ more) ks (starts 0 done) (new_start ss ms done) q r (starts 0 a) v f (rw zero-add at t) (aims_here m more)

    copied_past : get_or ms (length a) false ≡ false → Copied (a ++ (v ∷ [])) done
    copied_past m =
        let long = length-append a (v ∷ []) in
        let sum = length_snoc a v in
        let next = kept_on ms (length a) in
        let count : length (a ++ (v ∷ [])) ≡ suc (length a) = omega arith in
        record {
          values = c.values;
          count = rw count (omega (arith, c.count, rw m at next));
          near = λ j h mark. split j (length a) (λ l. omega (arith, c.near j l mark))
              (λ l. let here : j ≡ length a = omega arith in absurd (false≢true (sym m ∙ (rw here at mark))));
          short = omega (arith, c.short);
        }

    copied_on : get_or ms (length a) false ≡ true → Copied (a ++ (v ∷ [])) (done ++ (moved ∷ []))
    copied_on m =
        let (f, u) = moved_here m [] in
        let long = length-append a (v ∷ []) in
        let many = length-append done (moved ∷ []) in
        let sum = length_snoc a v in
        let new-sum = length_snoc done moved in
        let next = kept_on ms (length a) in
        let count : length (a ++ (v ∷ [])) ≡ suc (length a) = omega arith in
        let after : HasTargets (starts 0 done) (0 + r) (tokens moved) = rw zero-add u.has in
        record {
          values = record {
            formed = (each_append (Formed Strict) done (moved ∷ [])).1 (c.values.formed, (f, tt));
            targets = (targets_earlier_append [] 0 done (moved ∷ [])).1 (c.values.targets, (after, tt));
          };
          count = rw count (omega (arith, c.count, rw m at next));
          near = λ j h mark. split j (length a)
              (λ l. let k< : new j < length done = omega (arith, c.count, kept_less ms j (length a) mark l) in
              rw (start_more done (moved ∷ []) (new j) k<) (omega (arith, c.near j l mark, u.short)))
              (λ l. let here : j ≡ length a = omega arith in
              rw (here, start_here, ← c.count, start_of done moved []) (omega (arith, u.short)));
          short = omega (arith, c.short, u.short);
        }

    same_here : get_or ms (length a) false ≡ true → (more : List Value) → SameAt ((done ++ (moved ∷ [])) ++ more) (length a)
    same_here m more =
        rw (
          append_snoc done moved more,
          ← c.count,
          start_here,
          start_of done moved more,
          get_or-append_seam done moved more absent,
          ap (λ l. get_or l (length a) absent) e,
          get_or-append_seam a v b absent,
        ) (moved_here m (moved ∷ more)).1.same

  -- ---- all of them

  from : (P : ℕ → Type 0) (n : ℕ) → P n → ((j : ℕ) → suc n ≤ j → P j) → (j : ℕ) → n ≤ j → P j
  from P n here later j h = split n j (λ l. later j (omega arith)) (λ l. let is : j ≡ n = omega arith in subst P (sym is) here)

  -- ws are the values `done`, and after them the marked ones from number n on
  record Walked (n : ℕ) (done ws : List Value) : Type 0 where
    copied : Copied vs ws
    more : List Value
    grown : ws ≡ done ++ more
    same : (j : ℕ) → n ≤ j → j < length vs → get_or ms j false ≡ true → SameAt ws j

  walked : (a b done : List Value) → vs ≡ a ++ b → Copied a done → Walked (length a) done (kept_values ss ms (length a) (length (region a)) done b)
  unfolding kept_values
  walked a [] done e c =
      let all : vs ≡ a = e ∙ append-nil a in
      record {
        copied = subst (λ l. Copied l done) (sym all) c;
        more = [];
        grown = sym (append-nil done);
        same = λ j h l m. absurd (omega (arith, ap length all));
      }
  walked a (v ∷ b) done e c =
      let long : length (a ++ (v ∷ [])) ≡ suc (length a) = length-append a (v ∷ []) ∙ omega arith in
      let next : vs ≡ (a ++ (v ∷ [])) ++ b = e ∙ sym (append_snoc a v b) in
      pick_elim (λ d. Walked (length a) done (kept_values ss ms (suc (length a)) (length (region a) + length (bytes (tokens v))) d b)) (get_or ms (length a) false)
      (λ m. let u = moved a v b e done c in
      let ih = rw (long, length_snoc a v) at (walked (a ++ (v ∷ [])) b (done ++ (u ∷ [])) next (copied_on a v b e done c m)) in
      let here = subst (λ l. SameAt l (length a)) (sym ih.grown) (same_here a v b e done c m ih.more) in
      record { copied = ih.copied; more = u ∷ ih.more; grown = ih.grown ∙ append_snoc done u ih.more; same = from _ (length a) (λ l k. here) ih.same })
      (λ m. let ih = rw (long, length_snoc a v) at (walked (a ++ (v ∷ [])) b done next (copied_past a v b e done c m)) in
      record { copied = ih.copied; more = ih.more; grown = ih.grown; same = from _ (length a) (λ l k. absurd (false≢true (sym m ∙ k))) ih.same })

  abbrev pub kept_all : List Value
  kept_all = kept_values (starts 0 vs) ms 0 0 [] vs

  none : Copied [] []
  unfolding region kept
  none = record {
    values = record { formed = tt; targets = tt };
    count = refl;
    near = λ j h m. absurd (omega arith);
    short = omega arith;
  }

  all : Walked 0 [] kept_all
  unfolding region
  all = walked [] vs [] refl none

  pub kept_allowed : Values Strict kept_all
  kept_allowed = all.copied.values

  pub kept_shorter : length (region kept_all) ≤ length (region vs)
  kept_shorter = all.copied.short

  -- it is no further to the end than before, and not past it
  pub kept_entry : (e entry delta : ℕ) → e < length vs → get_or ms e false ≡ true → get_or (starts 0 vs) e 0 ≡ entry → entry + delta + 1 ≡ length (region vs)
      → let start = get_or (starts 0 kept_all) (kept (take e ms)) 0 in (start < length (region kept_all)) × (length (region kept_all) - start - 1 ≤ delta)
  kept_entry e entry delta h m at named =
      let c = all.copied in
      (omega (arith, starts_lt 0 kept_all (new e) (omega (arith, c.count, kept_less ms e (length vs) m h))), omega (arith, c.near e h m))

  module _ (marks : length ms ≡ length vs) where
    pub kept_many : length kept_all ≡ kept ms
    kept_many = all.copied.count ∙ ap kept (take_all (length vs) ms (omega arith))

    marked_lt : (i : ℕ) → get_or ms i false ≡ true → i < length vs
    marked_lt i m = split i (length vs) (λ l. l) (λ l. absurd (false≢true (sym (get_or-eq_default ms false {n = i} (omega arith)) ∙ m)))

    pub kept_keeps : (e : ℕ) → get_or ms e false ≡ true → ((i : ℕ) → (get_or ms i false ≡ true) ↔ Reached vs e i) → Keeps vs e kept_all (kept (take e ms))
    kept_keeps e m exactly =
        let many = length_numbers 0 ms in
        let (e<, here) = numbers_at 0 ms e m in
        record {
          kept = ks;
          many = omega (arith, kept_many);
          rising = rising_numbers ms;
          exactly = λ i. (λ h. (exactly i).0 ((among_numbers ms i).0 h), λ h. (among_numbers ms i).1 ((exactly i).1 h));
          same = λ k k<. let (j, mark, is) = numbers_by ms k (omega arith) in
              let at : get_or ks k 0 ≡ j = (rw is at (numbers_at 0 ms j mark).1) ∙ zero-add j in
              rw at (subst (SameTo kept_all j) is (all.same j (omega arith) (marked_lt j mark) mark));
          entry = (omega arith, here ∙ zero-add e);
        }
