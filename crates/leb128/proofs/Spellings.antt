-- The bytes of a number, in each mode.
--
-- In order: what is put spells its number, in both modes (`spells_put`), and in the fewest bytes (`spells_shortest`); a number in
-- any form, both ways; what spells a number is got (`get_spells`), and what is got is spelled by the bytes that were read
-- (`spells_get`), once over the mode.
use mathlib.Core.Path.{◌≡◌, refl, ap}
use Prim.Native.Nat.{ℕ, zero, suc, ◌+◌, ◌*◌, ◌/◌, ◌%◌, ◌^◌, ◌≤◌, ◌<◌, zero-le}
use mathlib.Core.List.{List, [], ◌∷◌, ◌++◌}
use native.Mathlib.Nat.{one-le-pow}
use native.Mathlib.Omega.{arith}
use lib.Dec.{lit<}
use lib.ListN.{length}
use borrow.Author.Tests.{lt-ltb, le-ltb, le-leb}
use Rattle.prelude.specs.Answer.{got, guard, then}
use Rattle.prelude.specs.Bytes.{Bytes}
use Rattle.prelude.proofs.Tests.{split, facts}
use Rattle.prelude.proofs.Readers.{guard_by, then_by, bad_got}
use Rattle.leb128.specs.Leb.{put, value, get, top, least_of, Groups, Spells, Begins}
use Rattle.leb128.specs.declared.Mode.{Mode}
use Rattle.leb128.specs.declared.Mode.TheVariants.{Strict, Tolerant}
use Rattle.leb128.proofs.Laws.{get_put, put_get}
use Rattle.leb128.proofs.Sizes.{length_put_le, value_put, put_shortest}

pub groups_cons : (b : ℕ) (s : List ℕ) → 128 ≤ b → Groups s → Groups (b ∷ s)
groups_cons b [] h g = absurd g
groups_cons b (c ∷ s) h g = (h, g)

groups_pos : (s : List ℕ) → Groups s → 0 < length s
groups_pos [] g = absurd g
groups_pos (b ∷ s) g = omega arith

pub groups_put : (k n : ℕ) → n < top k → Groups (put k n)
unfolding put
groups_put zero n h = omega arith
groups_put (suc k) n h =
    split n 128 (λ small. rw lt-ltb small)
    (λ large. rw le-ltb (groups_cons _ (put k (n / 128)) (omega arith) (groups_put k (n / 128) (omega arith))))

pub spells_put : (mode : Mode) (n : ℕ) → n < 2 ^ 64 → Spells mode n (put 9 n)
spells_put mode n h = record { groups = groups_put 9 n h; same = value_put 9 n h; below = h; ten = omega (arith, length_put_le 9 n); shortest = λ e. refl }

-- the shortest bytes are bytes of the number in either mode
pub spells_of_strict : (mode : Mode) (n : ℕ) (s : List ℕ) → Spells Strict n s → Spells mode n s
spells_of_strict mode n s h = record { groups = h.groups; same = h.same; below = h.below; ten = h.ten; shortest = λ e. h.shortest refl }

-- and no bytes of the number are fewer
pub spells_shortest : (n : ℕ) (s t : List ℕ) → Spells Strict n s → Spells Tolerant n t → length s ≤ length t
spells_shortest n s t a b =
    let fewest = put_shortest 9 t (groups_pos t b.groups) (omega (arith, b.same, b.below)) in
    rw (a.shortest refl) (rw b.same at fewest)

-- ---- in any form

get_any : (k : ℕ) (p rest : List ℕ) → Groups p → length p ≤ suc k → value p < top k → get Tolerant k 0 (p ++ rest) ≡ got (value p) rest
unfolding get value guard then
get_any k [] rest g l h = absurd g
get_any zero (b ∷ []) rest g l h =
    let own : b % 128 + 128 * 0 ≡ b = omega arith in
    let small : b < 2 = omega arith in
    rw (own, lt-ltb b 2 small, le-leb 0 b zero-le)
get_any (suc k) (b ∷ []) rest g l h =
    let own : b % 128 + 128 * 0 ≡ b = omega arith in
    rw (own, lt-ltb b 128 g, le-leb 0 b zero-le)
get_any zero (b ∷ (c ∷ p)) rest g l h = absurd (omega arith)
get_any (suc k) (b ∷ (c ∷ p)) rest g l h =
    rw (le-ltb b 128 g.0, get_any k (c ∷ p) rest g.1 (omega arith) (omega arith))

-- the bytes that were read of s
record Any (k n : ℕ) (s rest : List ℕ) : Type 0 where
  bytes : List ℕ
  all : s ≡ bytes ++ rest
  groups : Groups bytes
  same : value bytes ≡ n
  long : length bytes ≤ suc k
  below : n < top k

any_last : (k b n : ℕ) (s rest : List ℕ) → b < 128 → b < top k → b ≡ n → s ≡ rest → Any k n (b ∷ s) rest
unfolding value
any_last k b n s rest h l e q =
    record { bytes = b ∷ []; all = ap (λ x. b ∷ x) q; groups = h; same = omega arith; long = omega arith; below = omega arith }

any_get : (mode : Mode) (k least n : ℕ) (s rest : List ℕ) → get mode k least s ≡ got n rest → Any k n s rest
unfolding get value
any_get mode zero least n [] rest e = bad_got e
any_get mode (suc k) least n [] rest e = bad_got e
any_get mode zero least n (b ∷ s) rest e =
    guard_by _ _ _ e (λ b< e₁. guard_by _ _ _ e₁ (λ b≥ e₂. any_last 0 b n s rest (omega facts) (omega facts) (cc) (cc)))
any_get mode (suc k) least n (b ∷ s) rest e =
    split b 128
    (λ small. guard_by _ _ _ (rw lt-ltb at e) (λ b≥ e₂. any_last (suc k) b n s rest small (omega (arith, one-le-pow k 128 (lit< tt))) (cc) (cc)))
    (λ large.
    then_by _ _ (rw le-ltb at e) (λ m mid e₁ e₂.
    let g = any_get mode k (least_of mode) m s mid e₁ in
    let value : b % 128 + 128 * m ≡ n = cc in
    let all : mid ≡ rest = cc in
    record {
      bytes = b ∷ g.bytes;
      all = cc g.all;
      groups = groups_cons b g.bytes large g.groups;
      same = omega (arith, g.same);
      long = omega (arith, g.long);
      below = omega (arith, g.below);
    }))

-- ---- in each mode

pub get_spells : (mode : Mode) (n : ℕ) (p rest : List ℕ) → Spells mode n p → get mode 9 0 (p ++ rest) ≡ got n rest
get_spells Strict n p rest s = rw (s.shortest refl) (get_put Strict 9 0 n rest zero-le s.below)
get_spells Tolerant n p rest s = rw (← s.same) (get_any 9 p rest s.groups (omega (arith, s.ten)) (omega (arith, s.same, s.below)))

pub spells_get : (mode : Mode) (n : ℕ) (s rest : List ℕ) → Bytes s → get mode 9 0 s ≡ got n rest → Begins mode n s rest
spells_get Strict n s rest b e =
    let g = put_get 9 0 n s rest zero-le b e in
    record { bytes = put 9 n; all = g.same; spells = spells_put Strict n g.below }
spells_get Tolerant n s rest b e =
    let g = any_get Tolerant 9 0 n s rest e in
    record {
      bytes = g.bytes;
      all = g.all;
      spells = record {
        groups = g.groups;
        same = g.same;
        below = g.below;
        ten = omega (arith, g.long);
        shortest = λ q. absurd (omega (arith, ap least_of q));
      };
    }
