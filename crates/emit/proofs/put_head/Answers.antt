-- `emit::put_head` meets its contract: header, number and second number, one after the other.
use mathlib.Core.Path.{◌≡◌, refl, ◌∙◌}
use mathlib.Core.List.{List, [], ◌∷◌, append-nil}
use Prim.Native.Nat.{ℕ, ◌+◌, ◌-◌, ◌*◌, ◌≤◌, min}
use native.Mathlib.Omega.{arith}
use lib.Dec.{leb}
use lib.ListN.{length, set, length-set}
use Rattle.std.specs.Prelude.{unwrap_or}
use Rattle.prelude.specs.Bytes.{Put, PutAt}
use Rattle.prelude.proofs.Parts.{put_append, put_at_same}
use Rattle.kind.specs.Kind.{rule}
use Rattle.token.specs.Token.{token, put_if, emit}
use Rattle.token.proofs.Laws.{length_emit}
use Rattle.emit.proofs.Numbers.{number_is, second_is}
use Rattle.emit.proofs.put_head.Goals as goal

headed : (k n a x : ℕ) (d d₁ d₂ : List ℕ) (r₁ r₂ : ℕ) → x ≡ min n 15 → PutAt (put_if (leb 15 n) (n - 15)) (set d 0 (k * 16 + x)) 1 d₁ r₁
    → PutAt (put_if (rule k).args a) d₁ r₁ d₂ r₂ → Put (emit (token k n a [])) d d₂ r₂
unfolding emit
headed k n a x d d₁ d₂ r₁ r₂ low one two =
    rw (← low, append-nil)
    (put_append _ (put_if (rule k).args a) d d₁ d₂ _ _
    (put_append ((k * 16 + x) ∷ []) (put_if (leb 15 n) (n - 15)) d (set d 0 (k * 16 + x)) d₁ 1 _ (record { size = refl; bytes = refl }) one) two)

room : (k n a : ℕ) (d : List ℕ) → length (emit (token k n a [])) ≤ length d
    → 1 + length (put_if (leb 15 n) (n - 15)) + length (put_if (rule k).args a) + 0 ≤ length d
room k n a d h = rw length_emit at h

pub bounds-out-0 : goal.bounds-out-0
bounds-out-0 c = omega (arith, room _ _ _ _ c.requires.2)

pub put_if-number-requires : goal.put_if-number-requires
put_if-number-requires c = rw (length-set, number_is c.checked_sub.result c.args.n c.checked_sub.ensures) (omega (arith, room _ _ _ _ c.requires.2))

pub put_if-requires : goal.put_if-requires
put_if-requires c =
    let a = c.args in
    let one : PutAt (put_if (leb 15 a.n) (a.n - 15)) _ 1 _ _ = rw (number_is c.checked_sub.result c.args.n c.checked_sub.ensures) at c.put_if-number.ensures in
    let same : length c.put_if-number.new.out ≡ length a.out.now = put_at_same _ _ _ _ _ one ∙ simp length-set in
    rw (second_is _ _ c.requires.1) (omega (arith, room _ _ _ _ c.requires.2, one.after, same))

pub returns : goal.returns
returns c =
    headed c.args.kind c.args.n (unwrap_or c.args.second 0) _ _ _ _ _ _ c.min.ensures
    (rw (number_is c.checked_sub.result c.args.n c.checked_sub.ensures) at c.put_if-number.ensures) (rw (second_is _ _ c.requires.1) at c.put_if.ensures)
