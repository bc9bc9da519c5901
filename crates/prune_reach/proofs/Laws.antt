-- Marks set token by token, and value by value.
--
-- In order: a table that keeps the same starts; the tokens of a value; a value; the values from the last to the first.
use mathlib.Core.Path.{◌≡◌, refl, sym, ap, ◌∙◌}
use mathlib.Core.Bool.{Bool, true, false}
use mathlib.Core.List.{List, ◌∷◌}
use Prim.Native.Nat.{ℕ, suc, ◌+◌, ◌-◌, ◌/◌, ◌≤◌, ◌<◌}
use native.Mathlib.Numerals.{add-one}
use native.Mathlib.Omega.{arith}
use lib.Dec.{leb}
use lib.ListN.{length, get_or, set, replicate, length-map}
use Rattle.prelude.specs.Pick.{pick}
use Rattle.prelude.specs.Answer.{ok, error}
use Rattle.prelude.specs.Search.{rank}
use Rattle.error.specs.Error as errors
use Rattle.error.specs.declared.Error.{Error}
use Rattle.table.specs.Blocks.{Below}
use Rattle.leb128.specs.declared.Mode.TheVariants.{Strict}
use Rattle.scan.specs.Answers.{answer_of, scan_at}
use Rattle.scan.specs.declared.Head.{Head}
use Rattle.std.specs.Prelude.{Result, Ok, Err}
use Rattle.prune_tokens.specs.Tokens.{heads, heads_of}
use Rattle.prune_tokens.proofs.Heads.{heads_end, heads_error, heads_token}
use Rattle.prune_marks.specs.Marks.{starts_in, marks_in, Indexed}
use Rattle.prune_reach.specs.Reach.{aims, aims_at, marked, sweep, reached}

-- ---- a table that keeps the same starts

pub indexed_same : (t u blocks : List ℕ) → Indexed t blocks → starts_in u ≡ starts_in t → Indexed u blocks
indexed_same t u blocks i e = record { rising = rw e i.rising; counted = rw e i.counted }

pub starts_same : (t u v : List ℕ) → starts_in v ≡ starts_in u → starts_in u ≡ starts_in t → starts_in v ≡ starts_in t
starts_same t u v e f = e ∙ f

pub below_same : (m : ℕ) (t u : List ℕ) → Below m (starts_in t) → starts_in u ≡ starts_in t → Below m (starts_in u)
below_same m t u b e = rw e b

-- ---- the tokens of a value

-- the value that a token names
pub target_marked : (ss : List ℕ) (ms next : List Bool) (i x y : ℕ) → next ≡ set ms i true → i ≡ rank x ss → x ≡ y → next ≡ set ms (rank y ss) true
target_marked ss ms next i x y e is same = rw (is, same) at e

-- x are the marks that are looked for
module _ (s ss : List ℕ) (end at : ℕ) (ms x : List Bool) (so : marked (aims ss (heads s end at)) ms ≡ x) where
  pub marks_end : end ≤ at → ms ≡ x
  unfolding marked aims
  marks_end h = rw (heads_end s end at h) at so

  module _ (more : at < end) (r : Result Head Error) (reported : answer_of r ≡ scan_at Strict false s at) where
    pub marks_error : (f : Error) → r ≡ Err f → ms ≡ x
    unfolding marked aims
    marks_error f is = let e : scan_at Strict false s at ≡ error (errors.fault_of f) = sym (rw is at reported) in rw (heads_error s end at _ more e) at so

    pub marks_token : (h : Head) → r ≡ Ok h → (own : List ℕ) → own ≡ ss → (next : List Bool)
        → next ≡ pick (leb 14 h.kind) (set ms (rank (at - h.n - 1) own) true) ms → marked (aims ss (heads s end h.end)) next ≡ x
    unfolding marked aims
    marks_token h is own same next e =
        let read : ok h ≡ scan_at Strict false s at = rw is at reported in
        ap (marked (aims ss (heads s end h.end))) (rw same at e) ∙ by_cases (leb 14 h.kind)
        ∙ (rw (heads_token s end at h more read) at so)
      where
        by_cases : (b : Bool) → marked (aims ss (heads s end h.end)) (pick b (set ms (rank (at - h.n - 1) ss) true) ms)
            ≡ marked (pick b (rank (at - h.n - 1) ss ∷ aims ss (heads s end h.end)) (aims ss (heads s end h.end))) ms
        by_cases true = refl
        by_cases false = refl

-- ---- a value

module _ (s t : List ℕ) (i : ℕ) where
  module _ (b : Bool) (is : b ≡ get_or (marks_in t) i false) (next : List Bool) where
    pub visited : b ≡ true → (start end : ℕ) → start ≡ get_or (starts_in t) i 0 → end ≡ get_or (starts_in t) (suc i) (length s)
        → next ≡ marked (aims (starts_in t) (heads s end start)) (marks_in t)
        → next ≡ pick (get_or (marks_in t) i false) (marked (aims_at s (starts_in t) i) (marks_in t)) (marks_in t)
    unfolding heads_of
    visited marked-one start end e₀ e₁ e = rw (← is, marked-one, ← e₀, ← e₁) e

    pub passed : b ≡ false → next ≡ marks_in t
        → next ≡ pick (get_or (marks_in t) i false) (marked (aims_at s (starts_in t) i) (marks_in t)) (marks_in t)
    passed unset e = rw (← is, unset) e

-- ---- the values from the last to the first

module _ (s ss : List ℕ) (so : List Bool) (u : List ℕ) (same : starts_in u ≡ ss) (k : ℕ) (e : sweep (aims_at s ss) k (marks_in u) ≡ so) where
  pub pass_on : 0 < k → (next : List Bool)
      → next ≡ pick (get_or (marks_in u) (k - 1) false) (marked (aims_at s (starts_in u) (k - 1)) (marks_in u)) (marks_in u) → sweep (aims_at s ss) (k - 1) next ≡ so
  unfolding sweep
  pass_on h next n = let more : k ≡ suc (k - 1) = omega arith in rw (n, same) (rw more at e)

  pub pass_end : k ≤ 0 → marks_in u ≡ so
  unfolding sweep
  pass_end h = let none : k ≡ 0 = omega arith in rw none at e

pub reach_is : (s t u : List ℕ) (e : ℕ) (ms : List Bool) → marks_in t ≡ replicate (length t) false → starts_in u ≡ starts_in t → marks_in u ≡ set (marks_in t) e true
    → ms ≡ sweep (aims_at s (starts_in u)) (e + 1) (marks_in u) → ms ≡ reached s (starts_in t) e
unfolding reached
reach_is s t u e ms none same one swept = swept ∙ rw (same, one, none, add-one e, length-map t (λ w. w / 256))
