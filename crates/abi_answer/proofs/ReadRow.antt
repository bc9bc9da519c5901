-- What `twine_read` answers is what `read` answers (`read_row_is`).
--
-- In order: the bits of a float in the file, and in its region; the row of `twine_read` for a scanned head, and the row of
-- the value on it (`rows_same`); for the value at any offset of any file (`read_row_is`).
use mathlib.Core.Path.{◌≡◌, refl, sym, ap, ◌∙◌}
use mathlib.Core.Bool.{false}
use mathlib.Core.List.{List, [], ◌∷◌, ◌++◌, map}
use Prim.Native.Nat.{ℕ, ◌+◌, ◌-◌, ◌*◌, ◌≤◌}
use native.Mathlib.Omega.{arith}
use lib.Dec.{eqb}
use lib.ListN.{length, take, drop, take-append-drop, length-drop, length-append}
use lib.Seq.{take-append-le, drop-append-le}
use borrow.Author.Tests.{le-leb, ne_eqb, eqb-true, eqb-false}
use Rattle.prelude.specs.Answer.{Answer, ok, error, bind}
use Rattle.prelude.proofs.Tests.{pick_elim}
use Rattle.prelude.proofs.Tables.{SameRow, same_row, get_d_coded}
use Rattle.error.specs.Error.{Fault}
use Rattle.leb128.specs.declared.Mode.{Mode}
use Rattle.little_endian.specs.LittleEndian.{load}
use Rattle.kind.specs.Kind.{rule}
use Rattle.kind.proofs.Laws.{used_lt}
use Rattle.scan.specs.declared.Head.{Head}
use Rattle.scan.proofs.Places.{Within, scan_within}
use Rattle.reader_region.specs.Region.{region_len, in_region, peek_in, peek_of}
use Rattle.reader_region.proofs.Laws.{peek_scan}
use Rattle.reader_value.specs.Value.{value_on, read_in, read_of}
use Rattle.reader_value.specs.Row.{rows_on, row_on}
use Rattle.reader_value.proofs.Rows.{size_is, items_is, row_value}
use Rattle.abi_error.specs.Reply.{Reply, reply}
use Rattle.abi_answer.specs.declared.Row.{Row}
use Rattle.abi_answer.specs.Read.{float_bits, rows_c, row_of, head_c, read_c, words_c, value_c, after_numbers}

-- ---- the bits of a float

-- they are the same where more bytes follow
load_front : (k f : ℕ) (s t : List ℕ) → f + k ≤ length s → load k (drop f (s ++ t)) ≡ load k (drop f s)
unfolding load
load_front k f s t h =
    let own : k ≤ length (drop f s) = omega (arith, length-drop f s) in
    let more : k ≤ length (drop f s ++ t) = omega (arith, length-append (drop f s) t) in
    rw (drop-append-le f s t (omega arith), le-leb _ _ own, le-leb _ _ more, take-append-le k (drop f s) t own)

-- ---- the rows

module _ (file : List ℕ) (m at : ℕ) (h : Head) (w : Within (take m file) at h) where
  abbrev s : List ℕ
  s = take m file

  float_same : h.kind ≡ 3 → float_bits file h ≡ load (4 + 4 * h.n) (drop h.first s)
  unfolding rule
  float_same e =
      let most : h.n ≤ 1 = rw e at w.most in
      let len = size_is s at h w 3 e in
      let whole = take-append-drop m file in
      let front : (k : ℕ) → k ≤ h.end - h.first → load k (drop h.first file) ≡ load k (drop h.first s) = λ k le.
      ap (λ l. load k (drop h.first l)) (sym whole) ∙ load_front k h.first s (drop m file) (omega (arith, w.body, w.end)) in
      pick_elim (λ x. x ≡ load (4 + 4 * h.n) (drop h.first s)) (eqb h.n 0)
      (λ z. let none = eqb-true h.n 0 z in rw none (front 4 (omega arith)))
      (λ z. let more : h.n ≡ 0 → ⊥ = eqb-false h.n 0 z in let one : h.n ≡ 1 = omega arith in rw one (front 8 (omega arith)))

  abbrev reply_of : Row → Reply
  reply_of r = reply 0 (h.kind ∷ r.number ∷ h.first ∷ r.count ∷ [])

  -- the third word is where the body or the items start
  starts : eqb h.first 0 ≡ false
  starts = ne_eqb h.first 0 (λ z. omega (arith, w.numbers))

  same_rows : (d : Reply) → SameRow h.kind d (map reply_of (rows_c file at h)) (map (words_c h.first) (rows_on s at h))
  unfolding rule
  same_rows d =
      same_row 3 (λ e. rw (float_same e, size_is s at h w 3 e))
      (same_row 4 (λ e. let len : h.end - h.first ≡ h.n = omega (arith, size_is s at h w 4 e) in rw (starts, len))
      (same_row 5 (λ e. let len : h.end - h.first ≡ h.n = omega (arith, size_is s at h w 5 e) in rw (starts, len))
      (same_row 6 (λ e. let all : h.items ≡ h.n = omega (arith, items_is s at h w 6 refl e) in rw (starts, all))
      (same_row 7 (λ e. let all : h.items ≡ 2 * h.n = omega (arith, items_is s at h w 7 refl e) in rw (starts, all))
      (same_row 8 (λ e. let all : h.items ≡ 1 = omega (arith, items_is s at h w 8 refl e) in rw (starts, all))
      (same_row 11 (λ e. let all : h.items ≡ 1 = omega (arith, items_is s at h w 11 refl e) in rw (starts, all))
      (same_row 12 (λ e. rw starts)
      (same_row 13 (λ e. absurd (omega (arith, rw e at w.used)))
      (record { row = refl })))))))))

  rows_same : reply_of (row_of file at h) ≡ words_c h.first (row_on s at h)
  unfolding row_of row_on
  rows_same =
      let lt = used_lt h.kind w.used in
      let d = reply 0 [] in
      get_d_coded reply_of (rows_c file at h) _ h.kind _ d refl lt ∙ (same_rows d).row
      ∙ sym (get_d_coded (words_c h.first) (rows_on s at h) _ h.kind _ d refl lt)

-- ---- at an offset

pub read_row_is : (mode : Mode) (file : List ℕ) (at : ℕ) → read_c mode file at ≡ value_c (after_numbers (peek_of mode file at)) (read_of mode file at)
unfolding in_region read_in bind
read_row_is mode file at = by_region (region_len (length file) at)
  where
    by_head : (m : ℕ) (a : Answer Fault Head) → peek_in mode false (take m file) at ≡ a
        → head_c file at a ≡ value_c (after_numbers a) (bind a (λ h. ok (value_on (take m file) at h)))
    by_head m (ok h) e =
        let w = scan_within mode false (take m file) at h (peek_scan mode false (take m file) at h (sym e)) in
        rows_same file m at h w ∙ ap (words_c h.first) (sym (row_value (take m file) at h w))
    by_head m (error e) q = refl

    by_region : (a : Answer Fault ℕ)
        → head_c file at (bind a (λ m. peek_in mode false (take m file) at))
        ≡ value_c (after_numbers (bind a (λ m. peek_in mode false (take m file) at))) (bind a (λ m. read_in mode (take m file) at))
    by_region (ok m) = by_head m (peek_in mode false (take m file) at) refl
    by_region (error e) = refl
