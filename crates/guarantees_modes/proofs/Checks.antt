-- Check in both modes: the walk, turn by turn, and the answer with its table.
use mathlib.Core.Path.{refl}
use mathlib.Core.Logic.{inr}
use mathlib.Core.Bool.{◌&&◌}
use mathlib.Core.List.{List}
use Prim.Native.Nat.{ℕ}
use lib.Dec.{eqb, ltb, leb}
use lib.ListN.{length}
use Rattle.prelude.proofs.Turns.{Stops, from_or}
use Rattle.error.specs.Error.{LIMIT}
use Rattle.leb128.specs.declared.Mode.TheVariants.{Strict, Tolerant}
use Rattle.checker_value.specs.Walk.{Walk, next_token, walk_turned, walk_turn, starts_from}
use Rattle.checker.specs.Check.{check_in, Checked, listed, check_of}
use Rattle.guarantees_modes.specs.Modes.{IsOverlong, ModesSame}
use Rattle.guarantees_modes.proofs.Either.{Or, or_map, or_pick, Same, same_bind, same_turned}
use Rattle.guarantees_modes.proofs.Tokens.{same_scan_at}

module _ (s : List ℕ) (cap : ℕ) where
  same_next_token : (done : List ℕ) (pending at : ℕ) → Same (next_token Strict s cap done pending at) (next_token Tolerant s cap done pending at)
  unfolding next_token
  same_next_token done pending at =
      or_pick IsOverlong (eqb pending 0 && leb cap (length done)) (inr refl) (same_bind (same_scan_at at (ltb 0 pending) s) (λ h. inr refl))

  same_walk_turn : (w : Walk) → Or (Stops IsOverlong) (walk_turn Strict s cap w) (walk_turn Tolerant s cap w)
  unfolding walk_turn
  same_walk_turn w =
      or_pick (Stops IsOverlong) (eqb w.pending 0 && leb (length s) w.at) (inr refl)
      (same_turned (walk_turned w) (λ e. refl) (same_next_token w.done w.pending w.at))

  same_starts_from : (w : Walk) → Same (starts_from Strict s cap w) (starts_from Tolerant s cap w)
  unfolding starts_from
  same_starts_from w = from_or IsOverlong same_walk_turn _ _ w

pub same_check_in : (file : List ℕ) (cap : ℕ) → Same (check_in Strict file cap) (check_in Tolerant file cap)
unfolding check_in
same_check_in file cap =
    or_pick IsOverlong (eqb (length file) 0) (inr refl)
    (or_pick IsOverlong (ltb LIMIT (length file)) (inr refl) (same_bind (same_starts_from _ cap _) (λ done. inr refl)))

pub check_agree : (file : List ℕ) (cap : ℕ) → ModesSame (check_of Strict file cap).answer (λ mode. check_of mode file cap)
unfolding check_of
check_agree file cap = or_map IsOverlong (λ (c : Checked). IsOverlong c.answer) (listed cap) (λ (p, e). (p, rw e)) (same_check_in file cap)
