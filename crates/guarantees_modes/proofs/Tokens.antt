-- A token in both modes: the strict mode gives OVERLONG, or both give the same.
--
-- In order: a number's last byte; a number; a number of a token, with its bytes; the token at the front of bytes, and at an offset of a region.
use mathlib.Core.Path.{refl}
use mathlib.Core.Logic.{inl, inr}
use mathlib.Core.Bool.{Bool, true, false}
use mathlib.Core.List.{List, [], ◌∷◌}
use Prim.Native.Nat.{ℕ, zero, suc, ◌/◌, ◌%◌, zero-le}
use lib.Dec.{ltb, leb}
use lib.ListN.{length, drop}
use borrow.Author.Tests.{lt-leb, le-leb}
use Rattle.prelude.specs.Answer.{guard, or_error}
use Rattle.prelude.proofs.Tests.{split}
use Rattle.error.specs.Error.{fault, OVERLONG}
use Rattle.leb128.specs.Leb.{last_of, get}
use Rattle.leb128.specs.declared.Mode.TheVariants.{Strict, Tolerant}
use Rattle.kind.specs.Kind.{rule}
use Rattle.token.specs.Scan.{get_if, number, scan_kind, scan}
use Rattle.scan.specs.Answers.{head_of, scan_at}
use Rattle.guarantees_modes.specs.Modes.{IsOverlong}
use Rattle.guarantees_modes.proofs.Either.{Or, or_map, or_pick, IsBad, or_guard, or_then, or_need, or_bind, Same}

or_last_of : (least b : ℕ) (s : List ℕ) → Or (IsBad OVERLONG) (last_of least b s) (last_of 0 b s)
unfolding guard
or_last_of least b s = split b least (λ less. inl (rw (lt-leb least b less))) (λ more. inr (rw (le-leb least b more, le-leb 0 b zero-le)))

or_get : (k least : ℕ) (s : List ℕ) → Or (IsBad OVERLONG) (get Strict k least s) (get Tolerant k 0 s)
unfolding get
or_get zero least [] = inr refl
or_get (suc k) least [] = inr refl
or_get zero least (b ∷ s) = or_guard (ltb b 2) _ (or_last_of least b s)
or_get (suc k) least (b ∷ s) = or_pick (IsBad OVERLONG) (ltb b 128) (or_last_of least b s) (or_then (or_get k 1 s) (λ n rest. inr refl))

module _ (at : ℕ) where
  or_number : (w : Bool) (s : List ℕ) → Or (IsBad (fault OVERLONG at)) (number Strict at w s) (number Tolerant at w s)
  unfolding number get_if or_error
  or_number true s = or_then (or_map (IsBad OVERLONG) (IsBad (fault OVERLONG at)) (or_error (λ f. fault f at)) (λ e. rw e) (or_get 9 0 s)) (λ v rest. inr refl)
  or_number false s = inr refl

  or_scan : (inner : Bool) (s : List ℕ) → Or (IsBad (fault OVERLONG at)) (scan Strict inner at s) (scan Tolerant inner at s)
  unfolding scan scan_kind
  or_scan inner [] = inr refl
  or_scan inner (h ∷ s) =
      or_need _ _ _ s (or_need _ _ _ s (or_bind _ _ _ _ s (or_number (leb 15 (h % 16)) s)
      (λ v m. or_need _ _ _ m (or_bind _ _ _ _ m (or_number (rule (h / 16)).args m) (λ a n. inr refl)))))

  pub same_scan_at : (inner : Bool) (s : List ℕ) → Same (scan_at Strict inner s at) (scan_at Tolerant inner s at)
  unfolding scan_at head_of
  same_scan_at inner s = or_map (IsBad (fault OVERLONG at)) IsOverlong (head_of (length s)) (λ e. (at, rw e)) (or_scan inner (drop at s))
