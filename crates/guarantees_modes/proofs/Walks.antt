-- The tokens of a region that check accepted in the strict mode: each is scanned in this mode, and as a value.
--
-- In order: tokens scanned up to the region's end (`Scans`); the walk, token by token, turn by turn and to its end; so from each start that check lists the
-- tokens are scanned (`scans_start`).
use mathlib.Core.Path.{◌≡◌, refl, sym}
use mathlib.Core.Bool.{Bool, true, false, ◌&&◌}
use mathlib.Core.List.{List, [], ◌∷◌}
use Prim.Native.Nat.{ℕ, zero, suc, ◌-◌, ◌≤◌}
use lib.Dec.{eqb, ltb, leb}
use lib.ListN.{length, take, get_or}
use Rattle.prelude.specs.Answer.{Answer, ok, error}
use Rattle.prelude.specs.Each.{Each}
use Rattle.prelude.specs.Loop.{Turn, follow, run, from}
use Rattle.prelude.proofs.Tests.{pick_elim, and_r, facts}
use Rattle.prelude.proofs.Readers.{bind_ok_by}
use Rattle.prelude.proofs.Lists.{each_append}
use Rattle.error.specs.Error.{Fault, fault, LIMIT}
use Rattle.leb128.specs.declared.Mode.TheVariants.{Strict}
use Rattle.kind.specs.Kind.{due}
use Rattle.scan.specs.Answers.{scan_at}
use Rattle.scan.specs.declared.Head.{Head}
use Rattle.scan.proofs.Places.{scan_at_item}
use Rattle.checker_value.specs.Walk.{Walk, between, next_token, walk_after, walk_turned, walk_turn, starts_from}
use Rattle.checker_value.proofs.Walks.{taken}
use Rattle.checker.specs.Check.{check_in}
use Rattle.guarantees_modes.proofs.Either.{ok_error}

-- the region of a file
abbrev pub region_of : List ℕ → List ℕ
region_of file = take (length file - 1) file

-- from `at` on the strict mode scans token after token, up to the region's end
pub data Scans (s : List ℕ) : ℕ → Type 0 where
  past : {at : ℕ} → length s ≤ at → Scans s at
  on : {at : ℕ} (h : Head) → ok h ≡ scan_at Strict false s at → Scans s h.end → Scans s at

-- an item is also scanned as a value
as_value : (s : List ℕ) (at : ℕ) (h : Head) (inner : Bool) → ok h ≡ scan_at Strict inner s at → ok h ≡ scan_at Strict false s at
as_value s at h true e = (scan_at_item Strict s at h e).value
as_value s at h false e = e

-- the walk goes on from w to the starts `done`: its tokens are scanned from its own place on, and from each start on if they are so far
record Walked (s done : List ℕ) (w : Walk) : Type 0 where
  here : Scans s w.at
  each : Each (Scans s) w.done → Scans s w.start → Each (Scans s) done

module _ (s : List ℕ) (cap : ℕ) (done : List ℕ) where
  walked_after : (w : Walk) (h : Head) → ok h ≡ scan_at Strict false s w.at → Walked s done (walk_after w h) → Walked s done w
  unfolding walk_after
  walked_after w h e =
      pick_elim (λ v. Walked s done v → Walked s done w) (eqb (due w.pending h.items) 0)
      (λ t a. record {
        here = on h e a.here;
        each = λ before start. a.each ((each_append (Scans s) w.done (w.start ∷ [])).1 (before, (start, tt))) a.here;
      })
      (λ t a. record { here = on h e a.here; each = a.each })

  walked_turn : (w : Walk) (f : Walk → Answer Fault (List ℕ)) → ((v : Walk) → ok done ≡ f v → Walked s done v) → ok done ≡ follow (walk_turn Strict s cap w) f
      → Walked s done w
  unfolding walk_turn
  walked_turn w f more =
      pick_elim (λ (t : Turn Walk (Answer Fault (List ℕ))). ok done ≡ follow t f → Walked s done w) (eqb w.pending 0 && leb (length s) w.at)
      (λ t e. let same : done ≡ w.done = cc in
      record { here = past (omega (facts, and_r (eqb w.pending 0) _ t)); each = λ before start. rw same before })
      (λ t. by_cases (next_token Strict s cap w.done w.pending w.at) refl)
    where
      by_cases : (a : Answer Fault Head) → next_token Strict s cap w.done w.pending w.at ≡ a → ok done ≡ follow (walk_turned w a) f → Walked s done w
      by_cases (ok h) q e =
          walked_after w h (as_value s w.at h _ (taken Strict s cap w.done w.pending w.at h (sym q)).scanned) (more (walk_after w h) e)
      by_cases (error g) q e = ok_error e

  walked : (k : ℕ) (w : Walk) → ok done ≡ run (walk_turn Strict s cap) (error (fault 0 0)) k w → Walked s done w
  unfolding run
  walked zero w e = ok_error e
  walked (suc k) w e = walked_turn w (run (walk_turn Strict s cap) (error (fault 0 0)) k) (walked k) e

-- ---- the starts

each_get_d : {A : Type 0} (P : A → Type 0) (xs : List A) (d : A) → Each P xs → P d → (i : ℕ) → P (get_or xs i d)
each_get_d P [] d e p i = p
each_get_d P (x ∷ xs) d e p zero = e.0
each_get_d P (x ∷ xs) d e p (suc i) = each_get_d P xs d e.1 p i

module _ (file : List ℕ) (cap : ℕ) (r : (List ℕ) × ℕ) where
  accepted_starts : ok r ≡ check_in Strict file cap → ok r.0 ≡ starts_from Strict (region_of file) cap (between 0 [])
  unfolding check_in
  accepted_starts =
      pick_elim Leads (eqb (length file) 0) (λ t. ok_error)
      (λ t. pick_elim Leads (ltb LIMIT (length file)) (λ t. ok_error)
      (λ t e. bind_ok_by _ _ e (λ done q e₁. bind_ok_by _ _ e₁ (λ n x e₂. let same : r ≡ (done, n) = cc in rw same q))))
    where
      Leads : Answer Fault ((List ℕ) × ℕ) → Type 0
      Leads a = ok r ≡ a → ok r.0 ≡ starts_from Strict (region_of file) cap (between 0 [])

  -- past the last start `get_or` gives 0, where the walk began
  pub scans_start : ok r ≡ check_in Strict file cap → (i : ℕ) → Scans (region_of file) (get_or r.0 i 0)
  unfolding starts_from from
  scans_start e =
      let w = walked (region_of file) cap r.0 _ (between 0 []) (accepted_starts e) in
      each_get_d (Scans (region_of file)) r.0 0 (w.each tt w.here) w.here
