-- The depth of a value.
--
-- In order: where a value ends; turns over the tokens of a value; no depth is more than one above its value's number;
-- the depths of the first values.
use mathlib.Core.Path.{◌≡◌, refl, sym, ap, ◌∙◌, subst}
use Prim.Native.Nat.{ℕ, zero, suc, ◌+◌, ◌-◌, ◌≤◌, ◌<◌, max}
use mathlib.Core.Bool.{false, ◌&&◌}
use mathlib.Core.List.{List, [], ◌∷◌, ◌++◌}
use native.Mathlib.Numerals.{add-one}
use native.Mathlib.Omega.{arith}
use borrow.Author.Tests.{lt-leb, le-leb}
use mir.Syntax.{w64}
use mir.Val.{Fits}
use lib.Dec.{leb, ltb}
use lib.ListN.{length, take, get_or, set, length-append, get_or-append, get_or-eq_default}
use lib.Seq.{take-suc-set, get_or-append_seam}
use Rattle.prelude.specs.Answer.{Answer, ok, error}
use Rattle.prelude.specs.Loop.{Turn, go, stop}
use Rattle.prelude.proofs.Tests.{pick_elim, split}
use Rattle.prelude.proofs.Lists.{get_d_in}
use Rattle.prelude.proofs.Searches.{rising_ge}
use Rattle.prelude.proofs.Turns.{from_go, from_stop, from_all}
use Rattle.error.specs.Error.{Fault, LIMIT}
use Rattle.leb128.specs.declared.Mode.{Mode}
use Rattle.scan.specs.Answers.{scan_at}
use Rattle.scan.specs.declared.Head.{Head}
use Rattle.scan.proofs.Places.{scan_within}
use Rattle.depths_value.specs.Depth.{target_depth, DepthState, depth_state, depth_turned, depth_turn, deepest_from, deepest_in, depth_at, depths_to}
use Rattle.depths_value.specs.Internal.{Starts}

pub end_next : (ss : List ℕ) (i len : ℕ) → i + 1 < length ss → get_or ss (i + 1) 0 ≡ get_or ss (suc i) len
end_next ss i len h = rw (← add-one i) (get_d_in ss (i + 1) 0 len h)

pub end_last : (ss : List ℕ) (i len : ℕ) → length ss ≤ i + 1 → len ≡ get_or ss (suc i) len
end_last ss i len h = sym (get_or-eq_default ss len (omega arith))

-- ---- turns

abbrev Falls : List ℕ → DepthState → Turn DepthState ℕ → Type 0
Falls s w (go v) = length s - v.at < length s - w.at
Falls s w (stop a) = Unit {0}

module _ (mode : Mode) (s ss ds : List ℕ) (end : ℕ) where
  turn_falls : (w : DepthState) → Falls s w (depth_turn mode s ss ds end w)
  unfolding depth_turn
  turn_falls w = pick_elim (Falls s w) (leb end w.at) (λ t. tt) (λ t. by_cases (scan_at mode false s w.at) refl)
    where
      by_cases : (a : Answer Fault Head) → scan_at mode false s w.at ≡ a → Falls s w (depth_turned ss ds w a)
      by_cases (ok h) e = let i = scan_within mode false s w.at h (sym e) in omega (arith, i.numbers, i.body, i.end)
      by_cases (error f) e = tt

  falls : (w v : DepthState) → depth_turn mode s ss ds end w ≡ go v → length s - v.at < length s - w.at
  falls w v e = subst (Falls s w) e (turn_falls w)

  -- x is the depth that is looked for
  module _ (at deep x : ℕ) (so : deepest_from mode s ss ds end (depth_state at deep) ≡ x) where
    pub deepest_end : end ≤ at → deep ≡ x
    unfolding deepest_from depth_turn
    deepest_end h = sym (from_stop (depth_turn mode s ss ds end) _ _ falls (depth_state at deep) _ (rw (le-leb _ _ h))) ∙ so

    module _ (more : at < end) where
      pub deepest_error : (f : Fault) → error f ≡ scan_at mode false s at → deep ≡ x
      unfolding deepest_from depth_turn
      deepest_error f e = sym (from_stop (depth_turn mode s ss ds end) _ _ falls (depth_state at deep) _ (rw (lt-leb _ _ more, ← e))) ∙ so

      pub deepest_token : (h : Head) → ok h ≡ scan_at mode false s at → (d m : ℕ) → d ≡ target_depth ss ds at h → m ≡ max deep d
          → deepest_from mode s ss ds end (depth_state h.end m) ≡ x
      unfolding deepest_from depth_turn
      deepest_token h e d m ed em =
          sym (from_go (depth_turn mode s ss ds end) _ _ falls (depth_state at deep) (depth_state h.end m) (rw (lt-leb _ _ more, ← e, em, ed))) ∙ so

-- ---- no depth is more than one above its value's number

module _ (mode : Mode) (s ss ds : List ℕ) (end b : ℕ) (small : (k : ℕ) → get_or ds k 0 ≤ b) where
  abbrev Small : Turn DepthState ℕ → Type 0
  Small (go v) = v.deep ≤ b
  Small (stop d) = d ≤ b

  target_depth_le : (at : ℕ) (h : Head) → target_depth ss ds at h ≤ b
  target_depth_le at h = pick_elim (λ d. d ≤ b) (leb 14 h.kind && ltb h.n at) (λ t. small _) (λ t. omega arith)

  turn_small : (w : DepthState) → w.deep ≤ b → Small (depth_turn mode s ss ds end w)
  unfolding depth_turn
  turn_small w l = pick_elim Small (leb end w.at) (λ t. l) (λ t. by_cases (scan_at mode false s w.at))
    where
      by_cases : (a : Answer Fault Head) → Small (depth_turned ss ds w a)
      by_cases (ok h) = let r = target_depth_le w.at h in omega arith
      by_cases (error f) = l

  deepest_le : (at : ℕ) → deepest_in mode s ss ds end at ≤ b
  unfolding deepest_from
  deepest_le at =
      from_all (depth_turn mode s ss ds end) _ (λ w. w.deep ≤ b) (λ d. d ≤ b) (λ w v l e. subst Small e (turn_small w l))
      (λ w a l e. subst Small e (turn_small w l))
      (omega arith) _ (depth_state at 0) (omega arith)

module _ (mode : Mode) (s ss : List ℕ) where
  pub length_depths : (k : ℕ) → length (depths_to mode s ss k) ≡ k
  unfolding depths_to
  length_depths zero = refl
  length_depths (suc k) = length-append (depths_to mode s ss k) _ ∙ omega (arith, length_depths k)

  depth_at_small : (ds : List ℕ) (k : ℕ) → ((j : ℕ) → get_or ds j 0 ≤ k) → depth_at mode s ss ds k ≤ suc k
  unfolding depth_at
  depth_at_small ds k small = omega (arith, deepest_le mode s ss ds (get_or ss (suc k) (length s)) k small (get_or ss k 0))

  depths_le : (k j : ℕ) → get_or (depths_to mode s ss k) j 0 ≤ k
  unfolding depths_to
  depths_le zero j = omega arith
  depths_le (suc k) j =
      let ds = depths_to mode s ss k in
      let d = depth_at mode s ss ds k in
      split j k
      (λ lt. rw (get_or-append ds (d ∷ []) 0 j (omega (arith, length_depths k))) (omega (arith, depths_le k j)))
      (λ ge. split k j
      (λ past. rw (get_or-eq_default (ds ++ (d ∷ [])) 0 {n = j} (rw length-append (omega (arith, length_depths k)))) (omega arith))
      (λ le. let e : j ≡ length ds = omega (arith, length_depths k) in rw (e, get_or-append_seam ds d [] 0) (depth_at_small ds k (depths_le k))))

  pub start_le : (i : ℕ) → Starts s ss → i < length ss → get_or ss i 0 ≤ length s
  start_le i st h = omega (arith, st.inside i h)

  pub start_fits : (i : ℕ) → Starts s ss → i < length ss → length s ≤ LIMIT → Fits w64 (get_or ss i 0)
  start_fits i st h short = omega (arith, st.inside i h)

  module _ (ds : List ℕ) (i end r : ℕ) (e : r ≡ deepest_in mode s ss ds end (get_or ss i 0)) (is : end ≡ get_or ss (suc i) (length s)) where
    pub depth_at_is : r + 1 ≡ depth_at mode s ss ds i
    unfolding depth_at
    depth_at_is = add-one r ∙ ap suc (rw is at e)

    pub deepest_lt : Starts s ss → length s ≤ LIMIT → i < length ss → ds ≡ depths_to mode s ss i → r < LIMIT
    deepest_lt st short h before = omega (arith, depth_at_is, depth_at_small ds i (rw before (depths_le i)), rising_ge ss st.rising i h, st.inside i h)

-- one depth more, and all, in a table with n words
pub depths_more : (mode : Mode) (s ss t : List ℕ) (n i d : ℕ) → i < length ss → length ss ≤ n → length t ≡ n → take i t ≡ depths_to mode s ss i
    → d ≡ depth_at mode s ss (take i t) i
    → take (i + 1) (set t i d) ≡ depths_to mode s ss (i + 1)
unfolding depths_to
depths_more mode s ss t n i d more room long e is = rw (add-one i, take-suc-set t i d (omega arith), is, e)

pub depths_all : (mode : Mode) (s ss t : List ℕ) (i : ℕ) → take i t ≡ depths_to mode s ss i → i ≤ length ss → length ss ≤ i
    → take (length ss) t ≡ depths_to mode s ss (length ss)
depths_all mode s ss t i e most least = let same : length ss ≡ i = omega arith in rw same e
