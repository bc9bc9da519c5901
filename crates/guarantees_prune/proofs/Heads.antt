-- The tokens of a value, as scans of the region find them.
--
-- In order: tokens with their heads, one after the other (`placed`); the scans find them (`heads_value`); a token by its head (`token_at`); the numbers
-- that they aim at are those that the value leads to (`aims_leads`), all of them lower (`aims_earlier`).
use mathlib.Core.Path.{◌≡◌, refl, sym, ap, ◌∙◌}
use mathlib.Core.Logic.{◌↔◌}
use mathlib.Core.Bool.{Bool, true, false, false≢true, or_comm}
use mathlib.Core.List.{List, [], ◌∷◌, ◌++◌, map, append_assoc}
use Prim.Native.Nat.{ℕ, ◌+◌, ◌-◌, ◌*◌, ◌<◌}
use native.Mathlib.Nat.{zero-add}
use native.Mathlib.Omega.{arith}
use lib.Dec.{eqb, leb}
use lib.ListN.{length, drop, get_or, length-append}
use borrow.Author.Tests.{eqb-true, eq-eqb}
use Rattle.prelude.specs.Pick.{pick}
use Rattle.prelude.specs.Answer.{ok}
use Rattle.prelude.specs.Each.{Each}
use Rattle.prelude.specs.Search.{among, rank}
use Rattle.prelude.proofs.Tests.{or_true}
use Rattle.prelude.proofs.Lists.{each_append}
use Rattle.leb128.specs.declared.Mode.TheVariants.{Strict}
use Rattle.kind.specs.Kind.{rule}
use Rattle.kind.proofs.Laws.{rule_row}
use Rattle.token.specs.Token.{Token, emit, Fits}
use Rattle.token.proofs.Laws.{strict_token, emit_pos}
use Rattle.scan.specs.Answers.{scan_at}
use Rattle.scan.proofs.Places.{head_at, scan_at_emit, scan_at_item, body_read}
use Rattle.values.specs.Values.{Value, tokens, bytes, region, starts, Sound, Item, Formed, Values}
use Rattle.values.specs.Paths.{targets, targets_of, Leads}
use Rattle.values.proofs.Members.{each_among}
use Rattle.values.proofs.Laws.{region_at, start_of, value_number, fits_item, fits_head}
use Rattle.values.proofs.Depths.{before, number_start, leads_earlier}
use Rattle.values.proofs.Leads.{targets_of_at}
use Rattle.guarantees.proofs.Depths.{ends_next}
use Rattle.prune_tokens.specs.Tokens.{PlacedHead, heads, heads_of}
use Rattle.prune_tokens.proofs.Heads.{heads_end, heads_token}
use Rattle.prune_reach.specs.Reach.{aims, aims_at}
use Rattle.prune_copy.specs.Copy.{token_of}

-- the tokens ts with their heads, the first at q
unfoldable pub placed : ℕ → List Token → List PlacedHead
placed q [] = []
placed q (t ∷ ts) = record { place = q; head = head_at q t } ∷ placed (q + length (emit t)) ts

-- ---- the scans find them

module _ (end : ℕ) where
  heads_one : (inner : Bool) (p : List ℕ) (t : Token) (rest : List ℕ) → Fits Strict inner t rest → length p < end
      → heads (p ++ (emit t ++ rest)) end (length p)
      ≡ record { place = length p; head = head_at (length p) t } ∷ heads (p ++ (emit t ++ rest)) end (length p + length (emit t))
  heads_one inner p t rest f l = heads_token (p ++ (emit t ++ rest)) end (length p) (head_at (length p) t) l (by_cases inner f)
    where
      by_cases : (inner : Bool) → Fits Strict inner t rest → ok (head_at (length p) t) ≡ scan_at Strict false (p ++ (emit t ++ rest)) (length p)
      by_cases false f = sym (scan_at_emit Strict false p t rest f)
      by_cases true f = (scan_at_item Strict (p ++ (emit t ++ rest)) (length p) (head_at (length p) t) (sym (scan_at_emit Strict true p t rest f))).value

  heads_cons : (inner : Bool) (p : List ℕ) (t : Token) (ts : List Token) (rest : List ℕ) → Fits Strict inner t (bytes ts ++ rest) → length p < end
      → heads ((p ++ emit t) ++ (bytes ts ++ rest)) end (length (p ++ emit t)) ≡ placed (length (p ++ emit t)) ts
      → heads (p ++ (bytes (t ∷ ts) ++ rest)) end (length p) ≡ placed (length p) (t ∷ ts)
  unfolding bytes placed
  heads_cons inner p t ts rest f l more =
      rw (append_assoc (emit t) (bytes ts) rest)
      (heads_one inner p t (bytes ts ++ rest) f l
      ∙ ap (λ l. record { place = length p; head = head_at (length p) t } ∷ l)
      (rw (append_assoc p (emit t) (bytes ts ++ rest), length-append p (emit t)) at more))

  heads_items : (p : List ℕ) (ts : List Token) (rest : List ℕ) → Each (Item Strict) ts → end ≡ length p + length (bytes ts)
      → heads (p ++ (bytes ts ++ rest)) end (length p) ≡ placed (length p) ts
  unfolding bytes placed
  heads_items p [] rest is e = heads_end (p ++ rest) end (length p) (omega arith)
  heads_items p (t ∷ ts) rest is e =
      let sum = length-append (emit t) (bytes ts) in
      heads_cons true p t ts rest (fits_item t is.0 (bytes ts ++ rest)) (omega (arith, emit_pos t))
      (heads_items (p ++ emit t) ts rest is.1 (omega (arith, length-append p (emit t))))

  heads_tokens : (p : List ℕ) (v : Value) (rest : List ℕ) → Formed Strict v → end ≡ length p + length (bytes (tokens v))
      → heads (p ++ (bytes (tokens v) ++ rest)) end (length p) ≡ placed (length p) (tokens v)
  unfolding bytes
  heads_tokens p v rest f e =
      let t = v.head in
      let sum = length-append (emit t) (bytes v.items) in
      heads_cons false p t v.items rest (fits_head v f rest) (omega (arith, emit_pos t))
      (heads_items (p ++ emit t) v.items rest f.items (omega (arith, length-append p (emit t))))

pub heads_value : (vs a : List Value) (v : Value) (b : List Value) → Values Strict vs → vs ≡ a ++ (v ∷ b)
    → heads_of (region vs) (starts 0 vs) (length a) ≡ placed (length (region a)) (tokens v)
unfolding heads_of
heads_value vs a v b w e =
    let f : Formed Strict v = ((each_append (Formed Strict) a (v ∷ b)).0 (rw e at w.formed)).1.0 in
    rw (e, ends_next a v b, start_of a v b, region_at a v b) (heads_tokens _ (region a) v (region b) f refl)

-- a token by its head
pub token_at : (s rest : List ℕ) (q : ℕ) (t : Token) → Sound Strict t → drop q s ≡ emit t ++ rest → token_of s (head_at q t) ≡ t
token_at s rest q t f e = rw (body_read s rest q t e, by_cases (rule t.kind).args refl) (strict_token t f.spelled)
  where
    by_cases : (m : Bool) → (rule t.kind).args ≡ m → pick m ((rule t.kind).single + ((rule t.kind).each * t.n + t.args)) 0 ≡ t.args
    by_cases true k =
        let none = (rule_row t.kind).many k in
        let single : (rule t.kind).single ≡ 0 = omega arith in
        let each : (rule t.kind).each ≡ 0 = omega arith in
        rw (single, each) (omega arith)
    by_cases false k = sym (f.allowed.alone k)

-- ---- the numbers that tokens aim at

module _ (f : ℕ → ℕ) where
  among_map : (x : ℕ) (xs : List ℕ) → among x xs ≡ true → among (f x) (map f xs) ≡ true
  unfolding among
  among_map x [] h = h
  among_map x (y ∷ xs) h =
      or_true (eqb x y) (among x xs) h (λ q. rw (eqb-true x y q, eq-eqb (f y) (f y) refl))
      (λ q. rw (among_map x xs q, or_comm (eqb (f x) (f y)) true))

  among_map_by : (y : ℕ) (xs : List ℕ) → among y (map f xs) ≡ true → (x : ℕ) × (among x xs ≡ true) × (f x ≡ y)
  unfolding among
  among_map_by y [] h = absurd (false≢true h)
  among_map_by y (x ∷ xs) h =
      or_true (eqb y (f x)) (among y (map f xs)) h (λ q. (x, rw (eq-eqb x x refl), sym (eqb-true y (f x) q)))
      (λ q. let r = among_map_by y xs q in (r.0, rw (r.1, or_comm (eqb r.0 x) true), r.2))

aims_targets : (ss : List ℕ) (q : ℕ) (ts : List Token) → aims ss (placed q ts) ≡ map (λ x. rank x ss) (targets q ts)
unfolding aims placed targets
aims_targets ss q [] = refl
aims_targets ss q (t ∷ ts) = rw (aims_targets ss (q + length (emit t)) ts) (by_cases (leb 14 t.kind) (targets (q + length (emit t)) ts))
  where
    by_cases : (k : Bool) (more : List ℕ) → pick k (rank (q - t.n - 1) ss ∷ map (λ x. rank x ss) more) (map (λ x. rank x ss) more)
        ≡ map (λ x. rank x ss) (pick k ((q - t.n - 1) ∷ more) more)
    by_cases true more = refl
    by_cases false more = refl

module _ (vs : List Value) (w : Values Strict vs) where
  abbrev aimed : ℕ → List ℕ
  aimed i = aims_at (region vs) (starts 0 vs) i

  aims_are : (i : ℕ) → i < length vs → aimed i ≡ map (λ x. rank x (starts 0 vs)) (get_or (targets_of 0 vs) i [])
  aims_are i h =
      let v = value_number vs i h in
      let own = targets_of_at 0 v.before v.value v.after in
      let found = heads_value vs v.before v.value v.after w v.same in
      ap (aims (starts 0 vs)) (rw v.number at found) ∙ aims_targets (starts 0 vs) (length (region v.before)) (tokens v.value)
      ∙ ap (map (λ x. rank x (starts 0 vs))) (sym (rw (← v.same, v.number, zero-add) at own))

  pub aims_leads : (i j : ℕ) → i < length vs → (among j (aimed i) ≡ true) ↔ Leads vs i j
  aims_leads i j h = (
    λ m. (let (x, x∈, e) = among_map_by (λ x. rank x (starts 0 vs)) j (get_or (targets_of 0 vs) i []) (rw (aims_are i h) at m) in
        let b = each_among _ x (get_or (targets_of 0 vs) i []) (before vs w i h) x∈ in
        (omega arith, rw (← e, b.1) x∈)),
    λ l. rw (aims_are i h) (rw (number_start vs w j l.0) at (among_map (λ x. rank x (starts 0 vs)) _ _ l.1)),
  )

  pub aims_earlier : (i j : ℕ) → i < length vs → among j (aimed i) ≡ true → j < i
  aims_earlier i j h m = leads_earlier vs w i j h ((aims_leads i j h).0 m)
