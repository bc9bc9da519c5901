-- Depths in both modes: the second pass, over a region that check accepted in the strict mode.
--
-- In order: a token of it is scanned, and to the same head in both modes, or the region has ended; so the turns are the same (`follow_same`), the depths
-- (`depths_same`), and what depths returns (`depths_agree`).
use mathlib.Core.Path.{◌≡◌, refl, ap}
use mathlib.Core.Logic.{inl, inr}
use mathlib.Core.Bool.{false}
use mathlib.Core.List.{List, [], ◌∷◌, ◌++◌}
use Prim.Native.Nat.{ℕ, zero, suc, ◌≤◌}
use lib.Dec.{leb}
use lib.ListN.{length, get_or, drop_of_length-le}
use Rattle.prelude.specs.Answer.{Answer, ok, error}
use Rattle.prelude.specs.Loop.{Turn, follow, run, from}
use Rattle.prelude.proofs.Tests.{pick_elim}
use Rattle.error.specs.Error.{Fault, fault, TRUNC}
use Rattle.leb128.specs.declared.Mode.{Mode}
use Rattle.leb128.specs.declared.Mode.TheVariants.{Strict, Tolerant}
use Rattle.token.specs.Scan.{scan}
use Rattle.scan.specs.Answers.{head_of, scan_at}
use Rattle.checker.specs.Check.{check_in}
use Rattle.depths_value.specs.Depth.{DepthState, depth_turn, deepest_from, depth_at, depths_to}
use Rattle.depths.specs.Depths.{deepen, depths_of}
use Rattle.guarantees_modes.specs.Modes.{ModesSame}
use Rattle.guarantees_modes.proofs.Either.{agree_ok}
use Rattle.guarantees_modes.proofs.Tokens.{same_scan_at}
use Rattle.guarantees_modes.proofs.Checks.{same_check_in}
use Rattle.guarantees_modes.proofs.Walks.{region_of, Scans, past, on, scans_start}

scan_past : (mode : Mode) (s : List ℕ) (at : ℕ) → length s ≤ at → scan_at mode false s at ≡ error (fault TRUNC at)
unfolding scan_at scan head_of
scan_past mode s at h = rw (drop_of_length-le s {i = at} h)

module _ (s ss : List ℕ) where
  module _ (ds : List ℕ) (end : ℕ) where
    follow_same : (w : DepthState) {f g : DepthState → ℕ} → ((v : DepthState) → Scans s v.at → f v ≡ g v) → Scans s w.at
        → follow (depth_turn Strict s ss ds end w) f ≡ follow (depth_turn Tolerant s ss ds end w) g
    unfolding depth_turn
    follow_same w {f} {g} more (past h) =
        rw (scan_past Strict s w.at h, scan_past Tolerant s w.at h)
        (pick_elim (λ (t : Turn DepthState ℕ). follow t f ≡ follow t g) (leb end w.at) (λ t. refl) (λ t. refl))
    follow_same w {f} {g} more (on h e c) =
        rw (← agree_ok (same_scan_at w.at false s) e, ← e)
        (pick_elim (λ (t : Turn DepthState ℕ). follow t f ≡ follow t g) (leb end w.at) (λ t. refl) (λ t. more _ c))

    run_same : (k : ℕ) (w : DepthState) → Scans s w.at → run (depth_turn Strict s ss ds end) 0 k w ≡ run (depth_turn Tolerant s ss ds end) 0 k w
    unfolding run
    run_same zero w c = refl
    run_same (suc k) w c = follow_same w (run_same k) c

  depths_same : ((i : ℕ) → Scans s (get_or ss i 0)) → (k : ℕ) → depths_to Strict s ss k ≡ depths_to Tolerant s ss k
  unfolding depths_to depth_at deepest_from from
  depths_same c zero = refl
  depths_same c (suc k) = rw (depths_same c k) (ap (λ d. depths_to Tolerant s ss k ++ (suc d ∷ [])) (run_same (depths_to Tolerant s ss k) _ _ _ (c k)))

module _ (file : List ℕ) (cap room : ℕ) where
  deepen_same : (a : Answer Fault ((List ℕ) × ℕ)) → a ≡ check_in Strict file cap
      → deepen Strict (region_of file) cap room a ≡ deepen Tolerant (region_of file) cap room a
  deepen_same (ok r) e = rw (depths_same (region_of file) r.0 (scans_start file cap r e) (length r.0))
  deepen_same (error f) e = refl

  pub depths_agree : ModesSame (depths_of Strict file cap room).answer (λ mode. depths_of mode file cap room)
  unfolding depths_of
  depths_agree =
      elim (same_check_in file cap) [
        | inl (p, e) ↦ inl (p, rw e)
        | inr e ↦ inr (rw (← e) (deepen_same (check_in Strict file cap) refl))
      ]
