-- `put` and `get`, one after the other.
--
-- In order: what was put is got back with the rest untouched, in both modes (`get_put`); what was got in the strict mode is
-- the shortest form, so it is what would be put (`put_get`); in any form, what is got is below `top`, and the rest is the
-- end of the bytes (`get_ends`).
use mathlib.Core.Path.{◌≡◌, ap}
use Prim.Native.Nat.{ℕ, zero, suc, ◌+◌, ◌-◌, ◌*◌, ◌/◌, ◌%◌, ◌≤◌, ◌<◌}
use mathlib.Core.List.{List, [], ◌∷◌, ◌++◌}
use native.Mathlib.Nat.{one-le-pow}
use native.Mathlib.Omega.{arith}
use lib.Dec.{lit<, lit≤}
use lib.ListN.{length, drop}
use borrow.Author.Tests.{lt-ltb, le-ltb, le-leb}
use Rattle.prelude.specs.Answer.{got, guard, then}
use Rattle.prelude.specs.Bytes.{Bytes}
use Rattle.prelude.proofs.Tests.{split, facts}
use Rattle.prelude.proofs.Readers.{guard_by, then_by, bad_got}
use Rattle.leb128.specs.Leb.{put, get, top, least_of, last_of}
use Rattle.leb128.specs.declared.Mode.{Mode}
use Rattle.leb128.specs.declared.Mode.TheVariants.{Strict, Tolerant}

pub least_one : (mode : Mode) → least_of mode ≤ 1
least_one Strict = lit≤ tt
least_one Tolerant = lit≤ tt

pub get_put : (mode : Mode) (k least n : ℕ) (rest : List ℕ) → least ≤ n → n < top k → get mode k least (put k n ++ rest) ≡ got n rest
unfolding put get guard then
get_put mode zero least n rest l h = let small : n < 2 = omega arith in rw (lt-ltb, le-leb)
get_put mode (suc k) least n rest l h =
    split n 128
    (λ small. rw (lt-ltb, lt-ltb, le-leb))
    (λ large.
    let marked : 128 ≤ n % 128 + 128 = omega arith in
    let more : least_of mode ≤ n / 128 = omega (arith, least_one mode) in
    let less : n / 128 < top k = omega arith in
    rw (le-ltb, le-ltb, get_put mode k (least_of mode) (n / 128) rest more less) (ap (λ m. got m rest) (omega arith)))

-- what a number that was got says about the bytes s and the rest
pub record Got (k least n : ℕ) (s rest : List ℕ) : Type 0 where
  pub same : s ≡ put k n ++ rest
  pub above : least ≤ n
  pub below : n < top k

pub put_get : (k least n : ℕ) (s rest : List ℕ) → least ≤ 1 → Bytes s → get Strict k least s ≡ got n rest → Got k least n s rest
unfolding put get
put_get zero least n [] rest l h e = bad_got e
put_get (suc k) least n [] rest l h e = bad_got e
put_get zero least n (b ∷ s) rest l h e =
    guard_by _ _ _ e (λ b< e₁.
    guard_by _ _ _ e₁ (λ b≥ e₂.
    let same : b ≡ n = cc in
    record { same = cc; above = omega facts; below = omega facts }))
put_get (suc k) least n (b ∷ s) rest l h e =
    split b 128
    (λ small.
    guard_by _ _ _ (rw lt-ltb at e) (λ b≥ e₂.
    let same : b ≡ n = cc in
    let n< : n < 128 = omega arith in
    record { same = rw lt-ltb cc; above = omega facts; below = omega (arith, one-le-pow k 128 (lit< tt)) }))
    (λ large.
    then_by _ _ (rw le-ltb at e) (λ m mid e₁ e₂.
    let g = put_get k 1 m s mid (lit≤ tt) h.1 e₁ in
    let value : b % 128 + 128 * m ≡ n = cc in
    let n≥ : 128 ≤ n = omega (arith, g.above) in
    let low : b ≡ n % 128 + 128 = omega arith in
    let high : n / 128 ≡ m = omega arith in
    record { same = rw le-ltb (cc g.same); above = omega arith; below = omega (arith, g.below) }))

-- what holds for any number that was got, in whatever form
pub record Ends (k n : ℕ) (s rest : List ℕ) : Type 0 where
  pub below : n < top k
  pub shorter : length rest < length s
  pub end : rest ≡ drop (length s - length rest) s

last_ends : (k least b n : ℕ) (s rest : List ℕ) → b < top k → last_of least b s ≡ got n rest → Ends k n (b ∷ s) rest
last_ends k least b n s rest h e =
    guard_by _ _ _ e (λ b≥ e₁.
    let same : n ≡ b = cc in
    let all : rest ≡ s = cc in
    let one : suc (length s) - length s ≡ 1 = omega arith in
    rw all (record { below = omega arith; shorter = omega arith; end = rw one }))

pub get_ends : (mode : Mode) (k least n : ℕ) (s rest : List ℕ) → get mode k least s ≡ got n rest → Ends k n s rest
unfolding get
get_ends mode zero least n [] rest e = bad_got e
get_ends mode (suc k) least n [] rest e = bad_got e
get_ends mode zero least n (b ∷ s) rest e = guard_by _ _ _ e (λ b< e₁. last_ends 0 least b n s rest (omega facts) e₁)
get_ends mode (suc k) least n (b ∷ s) rest e =
    split b 128
    (λ small. last_ends (suc k) least b n s rest (omega (arith, one-le-pow k 128 (lit< tt))) (rw lt-ltb at e))
    (λ large.
    then_by _ _ (rw le-ltb at e) (λ m mid e₁ e₂.
    let g = get_ends mode k (least_of mode) m s mid e₁ in
    let value : b % 128 + 128 * m ≡ n = cc in
    let all : rest ≡ mid = cc in
    let more : suc (length s) - length mid ≡ suc (length s - length mid) = omega (arith, g.shorter) in
    rw all (record { below = omega (arith, g.below); shorter = omega (arith, g.shorter); end = rw more g.end })))
