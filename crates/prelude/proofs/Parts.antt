-- Parts of slices, and stores into them.
--
-- In order: the part `&s[k..]`; `sets d i p` of `lib.Seq`, the list d with p stored from index i on; `Put` and `PutAt`, and from
-- `Put` to `store`.
use mathlib.Core.Path.{◌≡◌, sym, ap, ◌∙◌}
use mathlib.Core.List.{List, [], ◌∷◌, ◌++◌, append-nil}
use Prim.Native.Nat.{ℕ, zero, suc, ◌+◌, ◌-◌, ◌≤◌, ◌<◌}
use native.Mathlib.Nat.{zero-add, add-zero, add-suc, suc-add, le-add_right}
use native.Mathlib.Omega.{arith}
use lib.ListN.{length, take, drop, set, length-drop, length-append, take-append-drop, drop_of_length-le}
use lib.Seq.{drop-append_seam, drop-drop, sets, sets-eq, length-sets, take_all, drop-set-add, take-set-le}
use borrow.Author.Tests.{le-leb, lt-leb}
use borrow.Rule.Slice.PartMut.{put_mid}
use Rattle.prelude.specs.Bytes.{Bytes, stored, store, Put, PutAt}

-- ---- the part from k on

pub part_from : (k : ℕ) (s : List ℕ) → take (length s - k) (drop k s) ≡ drop k s
part_from k s = take_all (length s - k) (drop k s) (simp length-drop (omega arith))

pub length_part : (k : ℕ) (s : List ℕ) → length (take (length s - k) (drop k s)) ≡ length s - k
length_part k s = rw (part_from k s, length-drop)

pub bytes_drop : (k : ℕ) (s : List ℕ) → Bytes s → Bytes (drop k s)
bytes_drop zero s b = b
bytes_drop (suc k) [] b = tt
bytes_drop (suc k) (x ∷ s) b = bytes_drop k s b.1

pub bytes_after : (p s : List ℕ) → Bytes (p ++ s) → Bytes s
bytes_after [] s b = b
bytes_after (x ∷ p) s b = bytes_after p s b.1

pub bytes_front : (p s : List ℕ) → Bytes (p ++ s) → Bytes p
bytes_front [] s b = tt
bytes_front (x ∷ p) s b = (b.0, bytes_front p s b.1)

-- past a part of the bytes that begin at `at`
pub drop_past : (s : List ℕ) (at : ℕ) (p rest : List ℕ) → drop at s ≡ p ++ rest → drop (at + length p) s ≡ rest
drop_past s at p rest same = sym (drop-drop (length p) at s) ∙ rw same (drop-append_seam p rest)

pub length_past : (at : ℕ) (p q : List ℕ) → at + length (p ++ q) ≡ at + length p + length q
length_past at p q = omega (arith, length-append p q)

-- ---- stores

sets_append : (p q d : List ℕ) (i : ℕ) → sets d i (p ++ q) ≡ sets (sets d i p) (i + length p) q
sets_append [] q d i = rw add-zero
sets_append (a ∷ p) q d i = sets_append p q (set d i a) (suc i) ∙ simp (add-suc, suc-add)

sets_front : (p d : List ℕ) → length p ≤ length d → sets d 0 p ≡ p ++ drop (length p) d
sets_front p d h = sets-eq p d 0 (omega arith) ∙ simp zero-add

sets_drop : (p d : List ℕ) (w i : ℕ) → take w d ++ sets (drop w d) i p ≡ sets d (w + i) p
sets_drop [] d w i = take-append-drop w d
sets_drop (a ∷ p) d w i =
    rw (← take-set-le w d (w + i) a (le-add_right w i), ← drop-set-add w d i a)
    (sets_drop p (set d (w + i) a) w (suc i) ∙ rw add-suc)

-- the part from w on comes back with p stored at its front
sets_part : (p d : List ℕ) (w : ℕ) → w ≤ length d → put_mid w (length d - w) d (sets (take (length d - w) (drop w d)) 0 p) ≡ sets d w p
sets_part p d w h =
    rw (part_from w d, drop_of_length-le (drop w d) {i = length d - w} (rw length-drop (omega arith)), append-nil)
    (sets_drop p d w 0 ∙ rw add-zero)

-- ---- Put and PutAt

pub put_same : (p d e : List ℕ) (r : ℕ) → Put p d e r → length e ≡ length d
put_same p d e r put = rw put.bytes (length-sets d 0 p)

-- p stored at the front of the part from w on
put_part : (p d e : List ℕ) (w r : ℕ) → w ≤ length d → Put p (take (length d - w) (drop w d)) e r → put_mid w (length d - w) d e ≡ sets d w p
put_part p d e w r h put = rw put.bytes (sets_part p d w h)

-- p stored at the front of the part from w on
pub put_at_part : (p d e : List ℕ) (w r : ℕ) → w ≤ length d → Put p (take (length d - w) (drop w d)) e r
    → PutAt p d w (put_mid w (length d - w) d e) (w + r)
put_at_part p d e w r h put = record { after = ap (λ n. w + n) put.size; bytes = put_part p d e w r h put }

-- p at the front, and then q after it
pub put_append : (p q d e f : List ℕ) (r s : ℕ) → Put p d e r → PutAt q e r f s → Put (p ++ q) d f s
put_append p q d e f r s put next = record {
  size = omega (arith, length-append p q, put.size, next.after);
  bytes = next.bytes ∙ cc (sets_append p q d 0, zero-add (length p), put.size, put.bytes);
}

pub put_at_same : (p d e : List ℕ) (w r : ℕ) → PutAt p d w e r → length e ≡ length d
put_at_same p d e w r put = rw put.bytes (length-sets d w p)

pub store_put : (p d e : List ℕ) (r : ℕ) → length p ≤ length d → Put p d e r → stored r e ≡ store p d
unfolding store
store_put p d e r h put = rw (le-leb _ _ h, put.size, put.bytes, sets_front p d h)

pub store_none : (p d : List ℕ) → length d < length p → stored 0 d ≡ store p d
unfolding store
store_none p d h = rw (lt-leb _ _ h)
