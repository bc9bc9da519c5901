-- Where the walk of check ends: at the region's end, or at a token that is refused.
--
-- What each token that the walk takes keeps holds there (`walk_ends`).
use mathlib.Core.Path.{◌≡◌, refl, sym, subst}
use Prim.Native.Nat.{ℕ, zero, suc, ◌-◌, ◌≤◌, ◌<◌}
use mathlib.Core.Bool.{Bool, true, false, ◌&&◌}
use mathlib.Core.List.{List, []}
use native.Mathlib.Omega.{arith}
use borrow.Author.Tests.{eqb-true, eq-eqb, leb-true}
use lib.Dec.{eqb, leb}
use lib.ListN.{length}
use Rattle.prelude.specs.Answer.{Answer, ok, error}
use Rattle.prelude.proofs.Tests.{and_l, and_r, facts}
use Rattle.error.specs.Error.{Fault}
use Rattle.leb128.specs.declared.Mode.{Mode}
use Rattle.scan.specs.declared.Head.{Head}
use Rattle.checker_value.specs.Walk.{Walk, between, next_token, walk_after, starts_from}
use Rattle.checker_value.proofs.Walks.{WalkInvariant, invariant_begun, after_invariant, after_less, walk_end, walk_error, walk_token}
use Rattle.guarantees_faults.specs.Faults.{RefusedToken}
use Rattle.guarantees_faults.proofs.Refused.{refused_of_error}

module _ (mode : Mode) (s : List ℕ) (cap : ℕ) (I : Walk → Type 0) where
  -- at the region's end, between two values
  pub record Ended (done : List ℕ) : Type 0 where
    pub walk : Walk
    pub going : WalkInvariant s cap walk
    pub holds : I walk
    pub between : walk.pending ≡ 0
    pub end : length s ≤ walk.at
    pub same : walk.done ≡ done

  -- at a token that is refused; an item may be wanted at the region's end
  pub record Stuck (f : Fault) : Type 0 where
    pub walk : Walk
    pub going : WalkInvariant s cap walk
    pub holds : I walk
    pub inside : walk.pending ≡ 0 → walk.at < length s
    pub refused : RefusedToken mode s cap walk.done walk.pending walk.at f

  abbrev pub Ends : Answer Fault (List ℕ) → Type 0
  Ends (ok done) = Ended done
  Ends (error f) = Stuck f

  module _ (kept : (w : Walk) (h : Head) → ok h ≡ next_token mode s cap w.done w.pending w.at → I w → I (walk_after w h)) where
    ends_from : (k : ℕ) (w : Walk) → length s - w.at < k → WalkInvariant s cap w → I w → Ends (starts_from mode s cap w)
    ends_from zero w l g i = absurd (omega arith)
    ends_from (suc k) w l g i =
        by_test (eqb w.pending 0 && leb (length s) w.at) refl
        (λ h e. ends_from k (walk_after w h) (omega (arith, after_less mode s cap w h e)) (after_invariant mode s cap w h e g) (kept w h e i))
      where
        Next : Type 0
        Next = (h : Head) → ok h ≡ next_token mode s cap w.done w.pending w.at → Ends (starts_from mode s cap (walk_after w h))

        by_next : eqb w.pending 0 && leb (length s) w.at ≡ false → Next → (a : Answer Fault Head)
            → a ≡ next_token mode s cap w.done w.pending w.at → Ends (starts_from mode s cap w)
        by_next t more (ok h) e = subst Ends (walk_token mode s cap w t h e) (more h e)
        by_next t more (error f) e =
            subst Ends (walk_error mode s cap w t f e) (record {
              walk = w;
              going = g;
              holds = i;
              inside = λ z. let here : leb (length s) w.at ≡ false = rw (eq-eqb w.pending 0 z) at t in omega facts;
              refused = refused_of_error mode s cap w.done w.pending w.at f (sym e);
            })

        by_test : (b : Bool) → eqb w.pending 0 && leb (length s) w.at ≡ b → Next → Ends (starts_from mode s cap w)
        by_test true t more =
            subst Ends (walk_end mode s cap w t) (record {
              walk = w;
              going = g;
              holds = i;
              between = eqb-true w.pending 0 (and_l (eqb w.pending 0) _ t);
              end = leb-true (length s) _ (and_r (eqb w.pending 0) _ t);
              same = refl;
            })
        by_test false t more = by_next t more (next_token mode s cap w.done w.pending w.at) refl

    pub walk_ends : I (between 0 []) → Ends (starts_from mode s cap (between 0 []))
    walk_ends i = ends_from (suc (length s)) (between 0 []) (omega arith) (invariant_begun s cap) i
