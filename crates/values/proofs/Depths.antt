-- Paths and depths (document 01: "descent").
--
-- In order: the greatest depth of some values; the depths as one pass computes them; the targets of a value are starts
-- of values before it; so paths go back (`leads_earlier`, `path_inside`, `acyclic`), and the computed depth is that of
-- the longest path (`depth_is`), from 1 to one more than the value's number (`depth_pos`, `depth_le`).
use mathlib.Core.Path.{◌≡◌, refl, sym, ap, ◌∙◌}
use mathlib.Core.Logic.{◌⊎◌, inl, inr}
use mathlib.Core.Bool.{true, false≢true, or_comm}
use mathlib.Core.List.{List, [], ◌∷◌, ◌++◌, append-nil, map}
use Prim.Native.Nat.{ℕ, zero, suc, ◌+◌, ◌≤◌, ◌<◌}
use native.Mathlib.Nat.{zero-add, le_refl}
use native.Mathlib.Omega.{arith}
use lib.Dec.{eqb}
use lib.ListN.{length, get_or, take, length-append, get_or-append}
use lib.Seq.{append_snoc, get_or-append_seam}
use borrow.Author.Tests.{eqb-true, eq-eqb}
use Rattle.prelude.specs.Search.{among, rank}
use Rattle.prelude.specs.Each.{Each}
use Rattle.prelude.proofs.Tests.{split, or_true}
use Rattle.prelude.proofs.Searches.{rank_get_d}
use Rattle.leb128.specs.declared.Mode.{Mode}
use Rattle.values.specs.Values.{Value, tokens, bytes, starts, TargetsEarlier, Values}
use Rattle.values.specs.Paths.{targets_of, Leads, Path, end, step, Depth, Falling, deepest, depths_from, depths_of_values}
use Rattle.values.proofs.Members.{each_imp, each_among, among_take}
use Rattle.values.proofs.Laws.{length_starts, rising_starts, targets_of_has_targets}

-- ---- the greatest depth of the values with the numbers that f gives

module _ (f : ℕ → ℕ) where
  deepest_ge : (ds : List ℕ) (x : ℕ) (xs : List ℕ) → among x xs ≡ true → get_or ds (f x) 0 ≤ deepest ds (map f xs)
  unfolding deepest among
  deepest_ge ds x [] h = absurd (false≢true h)
  deepest_ge ds x (y ∷ xs) h =
      or_true (eqb x y) (among x xs) h (λ q. rw (eqb-true x y q) (omega arith)) (λ q. omega (arith, deepest_ge ds x xs q))

  -- it is the depth of one of them, or there is none
  deepest_by : (ds xs : List ℕ) → (deepest ds (map f xs) ≡ 0) ⊎ ((x : ℕ) × (among x xs ≡ true) × (deepest ds (map f xs) ≡ get_or ds (f x) 0))
  unfolding deepest among
  deepest_by ds [] = inl refl
  deepest_by ds (y ∷ xs) =
      split (get_or ds (f y) 0) (deepest ds (map f xs))
      (λ l. elim (deepest_by ds xs) [ inl z ↦ inl (omega arith) | inr b ↦ inr (b.0, rw (b.1, or_comm (eqb b.0 y) true), omega arith) ])
      (λ l. inr (y, rw (eq-eqb y y refl), omega arith))

  -- it depends on the depths of those alone
  deepest_same : (n : ℕ) (ds es xs : List ℕ) → Each (λ x. f x < n) xs → ((j : ℕ) → j < n → get_or ds j 0 ≡ get_or es j 0)
      → deepest ds (map f xs) ≡ deepest es (map f xs)
  unfolding deepest
  deepest_same n ds es [] e h = refl
  deepest_same n ds es (x ∷ xs) e h = rw (h (f x) e.0, deepest_same n ds es xs e.1 h)

-- ---- one pass

module _ (ss : List ℕ) where
  length_depths_from : (ds : List ℕ) (more : List (List ℕ)) → length (depths_from ss ds more) ≡ length ds + length more
  unfolding depths_from
  length_depths_from ds [] = omega arith
  length_depths_from ds (os ∷ more) =
      let d : List ℕ = suc (deepest ds (map (λ x. rank x ss) os)) ∷ [] in
      omega (arith, length_depths_from (ds ++ d) more, length-append ds d)

  depths_from_keeps : (ds : List ℕ) (more : List (List ℕ)) (i : ℕ) → i < length ds → get_or (depths_from ss ds more) i 0 ≡ get_or ds i 0
  unfolding depths_from
  depths_from_keeps ds [] i h = refl
  depths_from_keeps ds (os ∷ more) i h =
      let d : List ℕ = suc (deepest ds (map (λ x. rank x ss) os)) ∷ [] in
      depths_from_keeps (ds ++ d) more i (omega (arith, length-append ds d)) ∙ get_or-append ds d 0 i h

  -- if the targets of a value are before it
  depths_from_at : (ds : List ℕ) (more : List (List ℕ)) (k : ℕ) → k < length more → Each (λ x. rank x ss < length ds + k) (get_or more k [])
      → get_or (depths_from ss ds more) (length ds + k) 0 ≡ suc (deepest (depths_from ss ds more) (map (λ x. rank x ss) (get_or more k [])))
  unfolding depths_from
  depths_from_at ds [] k h e = absurd (omega arith)
  depths_from_at ds (os ∷ more) zero h e =
      let d : List ℕ = suc (deepest ds (map (λ x. rank x ss) os)) ∷ [] in
      let l = length-append ds d in
      let z : length ds + 0 ≡ length ds = omega arith in
      rw z (depths_from_keeps (ds ++ d) more (length ds) (omega arith) ∙ get_or-append_seam ds _ [] 0
      ∙ ap suc (deepest_same (λ x. rank x ss) (length ds) ds (depths_from ss (ds ++ d) more) os (rw z at e)
      (λ j j<. sym (depths_from_keeps (ds ++ d) more j (omega arith) ∙ get_or-append ds d 0 j j<))))
  depths_from_at ds (os ∷ more) (suc k) h e =
      let d : List ℕ = suc (deepest ds (map (λ x. rank x ss) os)) ∷ [] in
      let z : length ds + suc k ≡ length (ds ++ d) + k = omega (arith, length-append ds d) in
      rw z (depths_from_at (ds ++ d) more k (omega arith) (rw z at e))

-- ---- the targets of a value

pub length_targets : (at : ℕ) (vs : List Value) → length (targets_of at vs) ≡ length vs
unfolding targets_of
length_targets at [] = refl
length_targets at (v ∷ vs) = ap suc (length_targets (at + length (bytes (tokens v))) vs)

-- they are among the starts of the values before it
targets_before : (done : List ℕ) (at : ℕ) (vs : List Value) (i : ℕ) → i < length vs → TargetsEarlier done at vs
    → Each (λ x. among x (done ++ take i (starts at vs)) ≡ true) (get_or (targets_of at vs) i [])
unfolding targets_of starts
targets_before done at [] i h b = absurd (omega arith)
targets_before done at (v ∷ vs) zero h b = rw append-nil (targets_of_has_targets done at (tokens v) b.0)
targets_before done at (v ∷ vs) (suc i) h b =
    rw (← append_snoc) (targets_before (done ++ (at ∷ [])) (at + length (bytes (tokens v))) vs i (omega arith) b.1)

pub length_depths : (vs : List Value) → length (depths_of_values vs) ≡ length vs
unfolding depths_of_values
length_depths vs = omega (arith, length_depths_from (starts 0 vs) [] (targets_of 0 vs), length_targets 0 vs)

-- the number of the value that starts at x
abbrev number : List Value → ℕ → ℕ
number vs x = rank x (starts 0 vs)

-- the targets of value number i
abbrev has_targets : List Value → ℕ → List ℕ
has_targets vs i = get_or (targets_of 0 vs) i []

module _ {mode : Mode} (vs : List Value) (ok : Values mode vs) where
  -- so the value that starts at a target has a lower number
  pub before : (i : ℕ) → i < length vs → Each (λ x. (number vs x < i) × (get_or (starts 0 vs) (number vs x) 0 ≡ x)) (has_targets vs i)
  before i h = each_imp _ _ (λ x m. among_take x (starts 0 vs) i (rising_starts 0 vs) m) (has_targets vs i) (targets_before [] 0 vs i h ok.targets)

  pub number_start : (j : ℕ) → j < length vs → number vs (get_or (starts 0 vs) j 0) ≡ j
  number_start j h = rank_get_d (starts 0 vs) (rising_starts 0 vs) j (omega (arith, length_starts 0 vs))

  pub leads_earlier : (i j : ℕ) → i < length vs → Leads vs i j → j < i
  leads_earlier i j h l = omega (arith, each_among _ (get_or (starts 0 vs) j 0) _ (before i h) l.1, number_start j l.0)

  -- ---- paths

  path_below : (n : ℕ) {i : ℕ} {l : List ℕ} → i < length vs → i < n → Path vs i l → Each (λ y. y < n) l
  path_below n h b end = (b, tt)
  path_below n {i} h b (step {j = j} t p) = let j< = leads_earlier i j h t in (b, path_below n (omega arith) (omega arith) p)

  pub path_inside : {i : ℕ} {l : List ℕ} → i < length vs → Path vs i l → Each (λ y. y < length vs) l
  path_inside h p = path_below (length vs) h h p

  pub acyclic : {i : ℕ} {l : List ℕ} → i < length vs → Path vs i l → Falling l
  acyclic h end = (tt, tt)
  acyclic {i} h (step {j = j} t p) = let j< = leads_earlier i j h t in (path_below i (omega arith) j< p, acyclic (omega arith) p)

  path_short : {i : ℕ} {l : List ℕ} → i < length vs → Path vs i l → length l ≤ suc i
  path_short h end = omega arith
  path_short {i} h (step {j = j} t p) = let j< = leads_earlier i j h t in omega (arith, path_short (omega arith) p)

  -- ---- depths

  depth_here : (i : ℕ) → i < length vs → get_or (depths_of_values vs) i 0 ≡ suc (deepest (depths_of_values vs) (map (number vs) (has_targets vs i)))
  unfolding depths_of_values
  depth_here i h =
      let e = each_imp _ (λ x. number vs x < 0 + i) (λ x b. omega (arith, b.0)) (has_targets vs i) (before i h) in
      rw zero-add at (depths_from_at (starts 0 vs) [] (targets_of 0 vs) i (omega (arith, length_targets 0 vs)) e)

  no_longer : {i : ℕ} {l : List ℕ} → i < length vs → Path vs i l → length l ≤ get_or (depths_of_values vs) i 0
  no_longer {i} h end = omega (arith, depth_here i h)
  no_longer {i} h (step {j = j} t p) =
      let j< = leads_earlier i j h t in
      let d = deepest_ge (number vs) (depths_of_values vs) (get_or (starts 0 vs) j 0) (has_targets vs i) t.1 in
      omega (arith, depth_here i h, no_longer (omega arith) p, rw (number_start j t.0) at d)

  one_as_long : (f i : ℕ) → i < f → i < length vs → (l : List ℕ) × Path vs i l × (length l ≡ get_or (depths_of_values vs) i 0)
  one_as_long zero i b h = absurd (omega arith)
  one_as_long (suc f) i b h =
      let is = depth_here i h in
      elim (deepest_by (number vs) (depths_of_values vs) (has_targets vs i)) [
        | inl z ↦ (i ∷ [], end, omega arith)
        | inr m ↦
            let j = number vs m.0 in
            let e = each_among _ m.0 _ (before i h) m.1 in
            let r = one_as_long f j (omega arith) (omega arith) in
            let t : Leads vs i j = (omega arith, rw e.1 m.1) in
            (i ∷ r.0, step t r.1, omega arith)
      ]

  pub depth_is : (i : ℕ) → i < length vs → Depth vs i (get_or (depths_of_values vs) i 0)
  depth_is i h =
      let r = one_as_long (suc i) i (le_refl _) h in
      record { values = r.0; path = r.1; long = r.2; longest = λ l p. no_longer h p }

  pub depth_le : (i : ℕ) → i < length vs → get_or (depths_of_values vs) i 0 ≤ suc i
  depth_le i h = let d = depth_is i h in omega (arith, path_short h d.path, d.long)

  pub depth_pos : (i : ℕ) → i < length vs → 1 ≤ get_or (depths_of_values vs) i 0
  depth_pos i h = omega (arith, depth_here i h)
