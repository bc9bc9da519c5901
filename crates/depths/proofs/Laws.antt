-- The ways through depths.
--
-- In order: starts below a bound; starts that check found; the tables that are left.
use mathlib.Core.Path.{◌≡◌, ap, ◌∙◌}
use Prim.Native.Nat.{ℕ, ◌-◌, ◌≤◌, ◌<◌}
use mathlib.Core.List.{List}
use native.Mathlib.Omega.{arith}
use borrow.Author.Tests.{lt-ltb, le-ltb}
use borrow.Rule.Slice.PartMut.{put_mid}
use mir.Syntax.{w64}
use mir.Val.{Fits}
use lib.ListN.{length, take, drop, get_or, replicate, length-take}
use lib.Seq.{get_or-take, length-take-le}
use Rattle.prelude.specs.Answer.{ok, error}
use Rattle.error.specs.Error.{Fault, fault, LIMIT, FULL}
use Rattle.leb128.specs.declared.Mode.{Mode}
use Rattle.table.specs.Blocks.{Below}
use Rattle.depths_value.specs.Depth.{depths_to}
use Rattle.depths_value.specs.Internal.{Starts}
use Rattle.checker.specs.Check.{checked, check_of}
use Rattle.checker.proofs.Checks.{zeros_after}
use Rattle.checker.proofs.Found.{Found, accepted as check-accepted, refused as check-refused}
use Rattle.depths.specs.Depths.{deepened, depths_of}

pub starts_below : (s ss : List ℕ) (b : ℕ) → Starts s ss → length s ≤ b → Below b ss
starts_below s ss b st h k i = omega (arith, st.inside k i)

-- ---- what check found

module _ (mode : Mode) (file t : List ℕ) (cap : ℕ) where
  module _ (count entry : ℕ) (left : checked (ok (count, entry)) t ≡ check_of mode file cap) where
    accepted : Found mode file t cap count entry
    accepted = check-accepted mode file t cap count entry left

    pub accepted_some : 1 ≤ length file
    accepted_some = accepted.some

    pub accepted_fits : count ≤ length t
    accepted_fits = accepted.fits

    pub region_le : length (take (length file - 1) file) ≤ LIMIT
    region_le = rw length-take (omega (arith, accepted.short))

    pub place_lt : (room : ℕ) → room < count → room < length t
    place_lt room h = omega (arith, accepted.fits)

    pub place_fits : (room : ℕ) → room < count → Fits w64 (get_or t room 0)
    place_fits room h =
        let i = accepted.inside room (rw (length-take-le count t accepted.fits) h) in
        omega (arith, rw (get_or-take count t room 0 h) at i, region_le)

    pub count_le : (room : ℕ) → count ≤ room → length (take count t) ≤ room
    count_le room h = rw (length-take-le count t accepted.fits) h

    pub accepted_starts : Starts (take (length file - 1) file) (take count t)
    accepted_starts = record { rising = accepted.rising; inside = accepted.inside }

    module _ (room : ℕ) where
      pub depths_full : room < count → (y z : List ℕ) → y ≡ replicate (length t) 0 → z ≡ replicate room 0
          → deepened (error (fault FULL (get_or t room 0))) y z ≡ depths_of mode file cap room
      unfolding depths_of
      depths_full h y z ey ez =
          let f = accepted in
          rw (f.found, length-take-le count t f.fits, lt-ltb room count h, ey, ez, f.long, get_or-take count t room 0 h)

      pub depths_answer : count ≤ room → (d : List ℕ) → length d ≡ room
          → take (length (take count t)) d ≡ depths_to mode (take (length file - 1) file) (take count t) (length (take count t))
          → (z : List ℕ) → z ≡ replicate (length (take (length d - count) (drop count d))) 0
          → deepened (ok (count, entry)) t (put_mid count (length d - count) d z) ≡ depths_of mode file cap room
      unfolding depths_of
      depths_answer h d long reported z ez =
          let f = accepted in
          let e : take count d ≡ depths_to mode (take (length file - 1) file) (take count t) count = rw (length-take-le count t f.fits) at reported in
          ap (λ x. deepened (ok (count, entry)) x (put_mid count (length d - count) d z)) f.table
          ∙ rw (f.found, length-take-le count t f.fits, le-ltb room count h, ez, zeros_after d count (omega arith), e, long)

  pub depths_of_refused : (f : Fault) → checked (error f) t ≡ check_of mode file cap → (room : ℕ) (z : List ℕ) → z ≡ replicate room 0
      → deepened (error f) t z ≡ depths_of mode file cap room
  unfolding depths_of
  depths_of_refused f left room z zeros = let e = check-refused mode file t cap f left in rw (e.0, e.1, zeros)
