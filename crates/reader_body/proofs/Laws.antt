-- Laws of bodies: the part that a place names is in the file; the part, as the code takes it, and where it starts.
use mathlib.Core.Path.{◌≡◌, refl, sym, subst}
use Prim.Native.Nat.{ℕ, ◌+◌, ◌-◌, ◌≤◌}
use mathlib.Core.Bool.{◌||◌}
use mathlib.Core.List.{List, []}
use native.Mathlib.Omega.{arith}
use lib.Dec.{eqb}
use lib.ListN.{length, take, drop, length-take}
use Rattle.prelude.specs.Answer.{Answer, ok, error}
use Rattle.prelude.proofs.Tests.{pick_elim}
use Rattle.prelude.proofs.Readers.{bind_ok_by}
use Rattle.error.specs.Error.{Fault}
use Rattle.leb128.specs.declared.Mode.{Mode}
use Rattle.reader_region.proofs.Laws.{in_region_same}
use Rattle.reader_follow.specs.Follow.{Followed, position, follow_from}
use Rattle.reader_follow.proofs.Laws.{followed_within}
use Rattle.reader_body.specs.Body.{body_place_on, body_place_in, body_place_of, body_of, Placed}

-- a part at such a place ends within n bytes
abbrev WithinFile : ℕ → Answer Fault (ℕ × ℕ) → Type 0
WithinFile n (ok p) = p.0 + p.1 ≤ n
WithinFile n (error e) = Unit {0}

body_place_within : (mode : Mode) (s : List ℕ) (at : ℕ) (m : Followed) → ok m ≡ follow_from mode s (position at 0)
    → WithinFile (length s) (body_place_on m.place m.head)
body_place_within mode s at m e =
    let w = followed_within mode s (position at 0) m e in
    pick_elim (WithinFile (length s)) (eqb m.head.kind 4 || eqb m.head.kind 5) (λ t. omega (arith, w.body, w.end)) (λ t. tt)

pub body_within : (mode : Mode) (file : List ℕ) (at first len : ℕ) → ok (first, len) ≡ body_place_of mode file at → first + len ≤ length file
unfolding body_place_in
body_within mode file at first len e =
    let s = take (length file - 1) file in
    bind_ok_by _ _ (in_region_same file at _ e)
    (λ m t b. omega (arith, length-take (length file - 1) file, subst (WithinFile (length s)) (sym b) (body_place_within mode s at m t)))

-- ---- the part, as the code takes it

pub part_of_body : (mode : Mode) (file : List ℕ) (at first len : ℕ) → ok (first, len) ≡ body_place_of mode file at
    → take (first + len - first) (drop first file) ≡ body_of mode file at
part_of_body mode file at first len e = let own : first + len - first ≡ len = omega arith in rw (own, ← e)

pub body_none : (mode : Mode) (file : List ℕ) (at : ℕ) (e : Fault) → error e ≡ body_place_of mode file at → [] ≡ body_of mode file at
body_none mode file at e q = rw (← q)

-- ---- where the part starts

module _ (mode : Mode) (file : List ℕ) (at : ℕ) (whole : ℕ × ℕ) where
  pub placed_part : (first len : ℕ) → ok (first, len) ≡ body_place_of mode file at → Placed whole (body_place_of mode file at) (whole.0, first + whole.1)
  placed_part first len e = rw (← e) refl

  pub placed_none : (f : Fault) → error f ≡ body_place_of mode file at → Placed whole (body_place_of mode file at) (whole.0, 0 + whole.1)
  placed_none f e = rw (← e) refl

-- for the function that hands the part out
pub ruleset parts = (body_within, part_of_body, body_none, placed_part, placed_none)
