-- Depths of a well-formed file: what `depths` returns is the depth as paths define it.
--
-- In order: where a value ends; the greatest depth that the tokens of a value reach; the depths from left to right;
-- `depth_exact`; what depths refuses (`zeros_of_depths`, `errors_of_depths`, `depths_refused_exactly`).
use mathlib.Core.Path.{◌≡◌, refl, sym, ap, ◌∙◌}
use mathlib.Core.Logic.{◌↔◌}
use Prim.Native.Nat.{ℕ, suc, ◌+◌, ◌-◌, ◌≤◌, ◌<◌, max}
use mathlib.Core.Bool.{Bool, true, false, ◌&&◌}
use mathlib.Core.List.{List, [], ◌∷◌, ◌++◌, append_assoc, append-nil, map}
use native.Mathlib.Nat.{add-zero, zero-add}
use native.Mathlib.Omega.{arith}
use borrow.Author.Tests.{lt-ltb, le-ltb, leb-true}
use lib.Dec.{leb, ltb}
use lib.ListN.{length, take, get_or, replicate, length-append, get_or-append}
use lib.Seq.{take_at}
use Rattle.prelude.specs.Pick.{pick}
use Rattle.prelude.specs.Answer.{Answer, ok, error}
use Rattle.prelude.specs.Search.{rank}
use Rattle.prelude.specs.Bytes.{Bytes}
use Rattle.prelude.specs.Each.{Each}
use Rattle.prelude.proofs.Tests.{pick_elim, split}
use Rattle.error.specs.Error.{Fault, fault, FULL}
use Rattle.leb128.specs.declared.Mode.{Mode}
use Rattle.token.specs.Token.{Token, emit, Fits}
use Rattle.token.proofs.Laws.{emit_pos}
use Rattle.scan.specs.Answers.{scan_at}
use Rattle.scan.proofs.Places.{head_at, scan_at_emit, scan_at_item}
use Rattle.values.specs.Values.{Value, tokens, bytes, region, starts, Item, Formed, HasTargets, HasTarget, TargetsEarlier, Values, WellFormed}
use Rattle.values.specs.Paths.{targets, targets_of, deepest, depths_from, Depth}
use Rattle.values.specs.Paths as paths
use Rattle.values.proofs.Laws.{region_append, region_at, length_starts, starts_append, start_of, fits_item, fits_head}
use Rattle.values.proofs.Depths.{length_depths, depth_is}
use Rattle.checker.specs.Check.{filled, check_in, check_of}
use Rattle.depths_value.specs.Depth.{target_depth, depth_state, deepest_from, depth_at, depths_to}
use Rattle.depths_value.proofs.Laws.{deepest_end, deepest_token}
use Rattle.depths.specs.Depths.{Deepened, deepened, deepen, depths_of}
use Rattle.guarantees.proofs.Files.{answer_error}
use Rattle.guarantees.specs.Refused as rows
use Rattle.guarantees.specs.Refused.{RefusedDepths}
use Rattle.guarantees.proofs.Accepts.{finds}
use Rattle.guarantees.proofs.Accepted.{accepted}
use Rattle.guarantees.proofs.Refused.{fault_exactly}

-- ---- where a value ends

ends : (at : ℕ) (a : List Value) (v : Value) (b : List Value) (len : ℕ) → len ≡ at + length (region (a ++ (v ∷ b)))
    → get_or (starts at (a ++ (v ∷ b))) (suc (length a)) len ≡ at + length (region a) + length (bytes (tokens v))
unfolding starts region
ends at [] v [] len e = omega (arith, length-append (bytes (tokens v)) [])
ends at [] v (w ∷ b) len e = omega arith
ends at (x ∷ a) v b len e =
    let ih = ends (at + length (bytes (tokens x))) a v b len (omega (arith, length-append (bytes (tokens x)) (region (a ++ (v ∷ b))))) in
    omega (arith, length-append (bytes (tokens x)) (region a))

pub ends_next : (a : List Value) (v : Value) (b : List Value)
    → get_or (starts 0 (a ++ (v ∷ b))) (suc (length a)) (length (region (a ++ (v ∷ b)))) ≡ length (region a) + length (bytes (tokens v))
ends_next a v b = ends 0 a v b (length (region (a ++ (v ∷ b)))) (omega arith) ∙ omega arith

-- one value more
pub length_snoc : (a : List Value) (v : Value) → length (region (a ++ (v ∷ []))) ≡ length (region a) + length (bytes (tokens v))
unfolding region
length_snoc a v = ap length (region_append a (v ∷ [])) ∙ length-append (region a) (bytes (tokens v) ++ []) ∙ rw append-nil

pub starts_snoc : (a : List Value) (v : Value) → starts 0 (a ++ (v ∷ [])) ≡ starts 0 a ++ (length (region a) ∷ [])
unfolding starts
starts_snoc a v = starts_append 0 a (v ∷ []) ∙ rw zero-add

-- ---- the tokens of a value

-- the depth of a token's target
abbrev aim : List ℕ → List ℕ → ℕ → Token → ℕ
aim ss ds q t = pick (leb 14 t.kind) (get_or ds (rank (q - t.n - 1) ss) 0) 0

module _ (mode : Mode) (ss ds : List ℕ) where
  -- the depth of a token's target is as `aim` has it, since the target is not below 0
  target_depth_is : (done : List ℕ) (q : ℕ) (t : Token) → HasTarget done q t → target_depth ss ds q (head_at q t) ≡ aim ss ds q t
  target_depth_is done q t r = by_cases (leb 14 t.kind) refl
    where
      by_cases : (k : Bool) → leb 14 t.kind ≡ k
          → pick (k && ltb t.n q) (get_or ds (rank (q - t.n - 1) ss) 0) 0 ≡ pick k (get_or ds (rank (q - t.n - 1) ss) 0) 0
      by_cases true e = rw (lt-ltb t.n q (r (leb-true 14 t.kind e)).0)
      by_cases false e = refl

  -- the greatest depth of the targets of tokens, token by token
  targets_deepest : (q : ℕ) (t : Token) (ts : List Token)
      → deepest ds (map (λ x. rank x ss) (targets q (t ∷ ts))) ≡ max (aim ss ds q t) (deepest ds (map (λ x. rank x ss) (targets (q + length (emit t)) ts)))
  unfolding targets deepest
  targets_deepest q t ts = by_cases (leb 14 t.kind)
    where
      more : List ℕ
      more = targets (q + length (emit t)) ts

      by_cases : (k : Bool) → deepest ds (map (λ x. rank x ss) (pick k ((q - t.n - 1) ∷ targets (q + length (emit t)) ts) (targets (q + length (emit t)) ts)))
          ≡ max (pick k (get_or ds (rank (q - t.n - 1) ss) 0) 0) (deepest ds (map (λ x. rank x ss) (targets (q + length (emit t)) ts)))
      by_cases true = refl
      by_cases false = omega arith

  module _ (end : ℕ) where
    -- one token
    token_deep : (inner : Bool) (done p : List ℕ) (t : Token) (rest : List ℕ) (deep : ℕ) → Fits mode inner t rest → HasTarget done (length p) t → length p < end
        → deepest_from mode (p ++ (emit t ++ rest)) ss ds end (depth_state (length p + length (emit t)) (max deep (aim ss ds (length p) t)))
        ≡ deepest_from mode (p ++ (emit t ++ rest)) ss ds end (depth_state (length p) deep)
    token_deep inner done p t rest deep f r lt =
        deepest_token mode (p ++ (emit t ++ rest)) ss ds end (length p) deep _ refl lt (head_at (length p) t) (by_cases inner f) _ _
        (sym (target_depth_is done (length p) t r)) refl
      where
        by_cases : (inner : Bool) → Fits mode inner t rest → ok (head_at (length p) t) ≡ scan_at mode false (p ++ (emit t ++ rest)) (length p)
        by_cases false f = sym (scan_at_emit mode false p t rest f)
        by_cases true f = (scan_at_item mode (p ++ (emit t ++ rest)) (length p) (head_at (length p) t) (sym (scan_at_emit mode true p t rest f))).value

    -- the items of a value
    items_deep : (done p : List ℕ) (ts : List Token) (rest : List ℕ) (deep : ℕ) → Each (Item mode) ts
        → HasTargets done (length p) ts → end ≡ length p + length (bytes ts)
        → deepest_from mode (p ++ (bytes ts ++ rest)) ss ds end (depth_state (length p) deep)
        ≡ max deep (deepest ds (map (λ x. rank x ss) (targets (length p) ts)))
    unfolding bytes targets deepest
    items_deep done p [] rest deep is a e = sym (deepest_end mode (p ++ rest) ss ds end (length p) deep _ refl (omega arith)) ∙ omega arith
    items_deep done p (t ∷ ts) rest deep is a e =
        let long = length-append p (emit t) in
        let sum = length-append (emit t) (bytes ts) in
        let ih = items_deep done (p ++ emit t) ts rest (max deep (aim ss ds (length p) t)) is.1 (rw long a.1) (omega arith) in
        rw (append_assoc (emit t) (bytes ts) rest)
        (sym (token_deep true done p t (bytes ts ++ rest) deep (fits_item t is.0 (bytes ts ++ rest)) a.0 (omega (arith, emit_pos t)))
        ∙ (rw (append_assoc p (emit t) (bytes ts ++ rest), long) at ih)
        ∙ omega (arith, targets_deepest (length p) t ts))

    -- a value
    value_deep : (done p : List ℕ) (v : Value) (rest : List ℕ) → Formed mode v → HasTargets done (length p) (tokens v)
        → end ≡ length p + length (bytes (tokens v))
        → deepest_from mode (p ++ (bytes (tokens v) ++ rest)) ss ds end (depth_state (length p) 0)
        ≡ deepest ds (map (λ x. rank x ss) (targets (length p) (tokens v)))
    unfolding bytes
    value_deep done p v rest f a e =
        let t = v.head in
        let ts = v.items in
        let long = length-append p (emit t) in
        let sum = length-append (emit t) (bytes ts) in
        let more = items_deep done (p ++ emit t) ts rest (max 0 (aim ss ds (length p) t)) f.items (rw long a.1) (omega arith) in
        rw (append_assoc (emit t) (bytes ts) rest)
        (sym (token_deep false done p t (bytes ts ++ rest) 0 (fits_head v f rest) a.0 (omega (arith, emit_pos t)))
        ∙ (rw (append_assoc p (emit t) (bytes ts ++ rest), long) at more)
        ∙ omega (arith, targets_deepest (length p) t ts))

-- ---- the depths from left to right

module _ (mode : Mode) (vs : List Value) where
  -- the depth of the value after the values a
  depth_value : (a : List Value) (v : Value) (b : List Value) (ds : List ℕ) → vs ≡ a ++ (v ∷ b)
      → Formed mode v → HasTargets (starts 0 a) (length (region a)) (tokens v)
      → depth_at mode (region vs) (starts 0 vs) ds (length a) ≡ suc (deepest ds (map (λ x. rank x (starts 0 vs)) (targets (length (region a)) (tokens v))))
  unfolding depth_at
  depth_value a v b ds e f targeted =
      let last : get_or (starts 0 vs) (suc (length a)) (length (region vs)) ≡ length (region a) + length (bytes (tokens v)) = rw e (ends_next a v b) in
      let first : get_or (starts 0 vs) (length a) 0 ≡ length (region a) = rw e (start_of a v b) in
      let all : region vs ≡ region a ++ (bytes (tokens v) ++ region b) = rw e (region_at a v b) in
      rw (last, first, all) (ap suc (value_deep mode (starts 0 vs) ds _ (starts 0 a) (region a) v (region b) f targeted refl))

  depths_walked : (a b : List Value) → vs ≡ a ++ b → Each (Formed mode) b → TargetsEarlier (starts 0 a) (length (region a)) b
      → depths_from (starts 0 vs) (depths_to mode (region vs) (starts 0 vs) (length a)) (targets_of (length (region a)) b)
      ≡ depths_to mode (region vs) (starts 0 vs) (length a + length b)
  unfolding depths_from targets_of depths_to
  depths_walked a [] e f k = rw add-zero
  depths_walked a (v ∷ b) e f k =
      let ds = depths_to mode (region vs) (starts 0 vs) (length a) in
      let one = depth_value a v b ds e f.0 k.0 in
      let long : length (a ++ (v ∷ [])) ≡ suc (length a) = length-append a (v ∷ []) ∙ omega arith in
      let count : suc (length a) + length b ≡ length a + suc (length b) = omega arith in
      let rest : TargetsEarlier (starts 0 (a ++ (v ∷ []))) (length (region (a ++ (v ∷ [])))) b = rw (starts_snoc a v, length_snoc a v) k.1 in
      let ih = depths_walked (a ++ (v ∷ [])) b (e ∙ sym (append_assoc a (v ∷ []) b)) f.1 rest in
      ap (λ d. depths_from (starts 0 vs) (ds ++ (d ∷ [])) (targets_of (length (region a) + length (bytes (tokens v))) b)) (sym one)
      ∙ (rw (long, length_snoc a v) at ih)
      ∙ ap (depths_to mode (region vs) (starts 0 vs)) count

-- ---- what depths returns

pub depths_are : {mode : Mode} (vs : List Value) → Values mode vs → depths_to mode (region vs) (starts 0 vs) (length (starts 0 vs)) ≡ paths.depths_of_values vs
unfolding paths.depths_of_values depths_to starts region
depths_are {mode} vs w =
    let e = depths_walked mode vs [] vs refl w.formed w.targets in
    let many : length (starts 0 vs) ≡ 0 + length vs = length_starts 0 vs ∙ omega arith in
    rw many (sym e)

module _ {mode : Mode} (file : List ℕ) (vs : List Value) (entry cap room : ℕ) (w : WellFormed mode file vs entry) (words : length vs ≤ cap) where
  region_is : take (length file - 1) file ≡ region vs
  region_is =
      let long : length (region vs) ≡ length file - 1 = omega (arith, ap length w.same, length-append (region vs) (w.delta ∷ [])) in
      ap (take (length file - 1)) w.same ∙ take_at (region vs) (w.delta ∷ []) (length file - 1) long

  pub depths_accept : length vs ≤ room
      → depths_of mode file cap room ≡ deepened (ok (length vs, entry)) (filled cap (starts 0 vs)) (filled room (paths.depths_of_values vs))
  unfolding depths_of
  depths_accept enough =
      let many = length_starts 0 vs in
      rw (← finds file vs entry cap w words, le-ltb room (length (starts 0 vs)) (omega arith), region_is, depths_are vs w.values, many)

  -- a second table that is too short
  pub depths_full : room < length vs
      → depths_of mode file cap room ≡ deepened (error (fault FULL (get_or (starts 0 vs) room 0))) (replicate cap 0) (replicate room 0)
  unfolding depths_of
  depths_full few =
      let many = length_starts 0 vs in
      rw (← finds file vs entry cap w words, lt-ltb room (length (starts 0 vs)) (omega arith))

  -- the depths are those that paths define
  pub depth_exact : length vs ≤ room → (i : ℕ) → i < length vs → Depth vs i (get_or (depths_of mode file cap room).depths i 0)
  depth_exact enough i h =
      let reported : (depths_of mode file cap room).depths ≡ filled room (paths.depths_of_values vs) = ap (λ (d : Deepened). d.depths) (depths_accept enough) in
      let word = get_or-append (paths.depths_of_values vs) (replicate (room - length (paths.depths_of_values vs)) 0) 0 i (omega (arith, length_depths vs)) in
      rw (reported, word) (depth_is vs w.values i h)

-- on an error both tables are all 0
abbrev Zeros : ℕ → ℕ → Deepened → Type 0
Zeros cap room d = (d.starts ≡ replicate cap 0) × (d.depths ≡ replicate room 0)

pub zeros_of_depths : (mode : Mode) (file : List ℕ) (cap room : ℕ) (f : Fault) → (depths_of mode file cap room).answer ≡ error f
    → Zeros cap room (depths_of mode file cap room)
unfolding depths_of
zeros_of_depths mode file cap room f e = by_cases (check_in mode file cap) e
  where
    by_cases : (a : Answer Fault ((List ℕ) × ℕ)) → (deepen mode (take (length file - 1) file) cap room a).answer ≡ error f
        → Zeros cap room (deepen mode (take (length file - 1) file) cap room a)
    by_cases (ok r) q =
        pick_elim (λ (d : Deepened). d.answer ≡ error f → Zeros cap room d) (ltb room (length r.0))
        (λ t z. (refl, refl)) (λ t z. let y : ◌≡◌ {A = ℕ} 0 1 = cc in absurd (omega arith)) q
    by_cases (error g) q = (refl, refl)

-- and check's errors come first
pub errors_of_depths : (mode : Mode) (file : List ℕ) (cap room : ℕ) (f : Fault) → (check_of mode file cap).answer ≡ error f
    → (depths_of mode file cap room).answer ≡ error f
unfolding depths_of check_of
errors_of_depths mode file cap room f e = rw (← answer_error cap f (check_in mode file cap) e)

-- ---- what depths refuses, both ways

answers : {d e : Deepened} → d ≡ e → d.answer ≡ e.answer
answers same = ap (λ (d : Deepened). d.answer) same

refused_depths : {mode : Mode} (file : List ℕ) (cap room : ℕ) {f : Fault} → Bytes file → RefusedDepths mode file cap room f
    → (depths_of mode file cap room).answer ≡ error f
refused_depths {mode} file cap room {f} b (rows.check x) = errors_of_depths mode file cap room f ((fault_exactly mode file cap f b).1 x)
refused_depths {mode} file cap room b (rows.full vs entry w words few) = answers (depths_full file vs entry cap room w words few)

pub depths_refused_exactly : (mode : Mode) (file : List ℕ) (cap room : ℕ) (f : Fault) → Bytes file
    → ((depths_of mode file cap room).answer ≡ error f) ↔ RefusedDepths mode file cap room f
depths_refused_exactly mode file cap room f b = (by_check (check_of mode file cap).answer refl, refused_depths file cap room b)
  where
    by_check : (a : Answer Fault (ℕ × ℕ)) → (check_of mode file cap).answer ≡ a → (depths_of mode file cap room).answer ≡ error f
        → RefusedDepths mode file cap room f
    by_check (error g) c e =
        let same : error g ≡ error f = sym (errors_of_depths mode file cap room g c) ∙ e in
        rows.check ((fault_exactly mode file cap f b).0 (c ∙ same))
    by_check (ok (count, entry)) c e =
        let a = accepted file cap count entry b c in
        let vs = a.values in
        split room (length vs)
        (λ few. let full = sym e ∙ answers (depths_full file vs entry cap room a.well_formed a.room few) in
        let is : f ≡ fault FULL (get_or (starts 0 vs) room 0) = cc in
        rw is (rows.full vs entry a.well_formed a.room few))
        (λ enough. let no = sym (answers (depths_accept file vs entry cap room a.well_formed a.room enough)) ∙ e in
        let z : ◌≡◌ {A = ℕ} 0 1 = cc in
        absurd (omega arith))
