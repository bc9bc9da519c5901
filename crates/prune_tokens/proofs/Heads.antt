-- The tokens of a value, one after the other.
--
-- In order: any fuel above the bytes left gives the same tokens; there are none at the end, nor at a token that does not scan; else the first, and those
-- after it.
use mathlib.Core.Path.{◌≡◌, refl, ap}
use mathlib.Core.Bool.{false}
use mathlib.Core.List.{List, [], ◌∷◌}
use Prim.Native.Nat.{ℕ, zero, suc, ◌-◌, ◌≤◌, ◌<◌}
use native.Mathlib.Omega.{arith}
use lib.Dec.{leb}
use lib.ListN.{length}
use borrow.Author.Tests.{le-leb, lt-leb}
use Rattle.prelude.specs.Pick.{pick}
use Rattle.prelude.specs.Answer.{Answer, ok, error}
use Rattle.error.specs.Error.{Fault}
use Rattle.leb128.specs.declared.Mode.TheVariants.{Strict}
use Rattle.scan.specs.Answers.{scan_at}
use Rattle.scan.specs.declared.Head.{Head}
use Rattle.scan.proofs.Places.{scan_within}
use Rattle.prune_tokens.specs.Tokens.{PlacedHead, heads_by, heads_in, heads}

heads_by_same : (at : ℕ) (a : Answer Fault Head) (f g : ℕ → List PlacedHead) → ((h : Head) → ok h ≡ a → f h.end ≡ g h.end)
    → heads_by at a f ≡ heads_by at a g
heads_by_same at (ok h) f g same = ap (λ more. record { place = at; head = h } ∷ more) (same h refl)
heads_by_same at (error e) f g same = refl

module _ (s : List ℕ) (end : ℕ) where
  fuel_same : (k l at : ℕ) → length s - at < k → length s - at < l → heads_in k s end at ≡ heads_in l s end at
  unfolding heads_in
  fuel_same zero l at h g = absurd (omega arith)
  fuel_same (suc k) zero at h g = absurd (omega arith)
  fuel_same (suc k) (suc l) at h g =
      ap (pick (leb end at) []) (heads_by_same at (scan_at Strict false s at) (heads_in k s end) (heads_in l s end)
      (λ x e. let w = scan_within Strict false s at x e in
      let less : length s - x.end < length s - at = omega (arith, w.numbers, w.body, w.end) in
      fuel_same k l x.end (omega arith) (omega arith)))

  pub heads_end : (at : ℕ) → end ≤ at → heads s end at ≡ []
  unfolding heads heads_in
  heads_end at h = rw (le-leb end at h)

  pub heads_error : (at : ℕ) (e : Fault) → at < end → scan_at Strict false s at ≡ error e → heads s end at ≡ []
  unfolding heads heads_in
  heads_error at e h a = rw (lt-leb end at h, a)

  pub heads_token : (at : ℕ) (h : Head) → at < end → ok h ≡ scan_at Strict false s at
      → heads s end at ≡ record { place = at; head = h } ∷ heads s end h.end
  unfolding heads heads_in
  heads_token at h l a =
      let w = scan_within Strict false s at h a in
      rw (lt-leb end at l, ← a)
      (ap (λ more. record { place = at; head = h } ∷ more)
      (fuel_same (length s - at) (suc (length s - h.end)) h.end (omega (arith, w.numbers, w.body, w.end)) (omega arith)))
