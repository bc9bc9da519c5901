-- What `read` returns, in document 01's numbers.
--
-- In order: the body's bytes and the items that a kind has for n (`size_is`, `items_is`); the row of the value on a scanned
-- head is the head's row (`row_value`); so it is for what is read at an offset (`rows_read`).
use mathlib.Core.Path.{◌≡◌, refl, sym, ap, ◌∙◌}
use mathlib.Core.Bool.{false}
use mathlib.Core.List.{List, map}
use Prim.Native.Nat.{ℕ, zero, suc, ◌+◌, ◌-◌, ◌*◌, ◌≤◌}
use native.Mathlib.Omega.{arith}
use lib.Dec.{eqb}
use lib.IntN.{pos}
use lib.ListN.{length, take, drop, get_or-map}
use borrow.Author.Tests.{eqb-true, eqb-false}
use Rattle.prelude.specs.Answer.{Answer, ok, error, bind}
use Rattle.prelude.proofs.Tests.{pick_elim}
use Rattle.prelude.proofs.Tables.{SameRow, same_row}
use Rattle.error.specs.Error.{Fault}
use Rattle.leb128.specs.declared.Mode.{Mode}
use Rattle.little_endian.specs.LittleEndian.{load}
use Rattle.kind.specs.Kind.{rule, size}
use Rattle.scan.specs.declared.Head.{Head}
use Rattle.scan.proofs.Places.{Within, scan_within}
use Rattle.reader_region.specs.Region.{region_len, in_region, peek_in}
use Rattle.reader_region.proofs.Laws.{peek_scan}
use Rattle.reader_value.specs.Value.{scalar, float, value_rows, value_on, read_in, read_of}
use Rattle.reader_value.specs.declared.Value.{Value}
use Rattle.reader_value.specs.declared.Value.TheVariants.{Null}
use Rattle.reader_value.specs.Row.{ValueRow, value_row, rows_on, row_on, read_row_in, read_row_of}
use Rattle.reader_value.specs.Answers.{row_of_value}

scalar_row : (n : ℕ) → n ≤ 2 → row_of_value (scalar n) ≡ value_row 0 (pos n) 0 0
scalar_row zero h = refl
scalar_row (suc zero) h = refl
scalar_row (suc (suc zero)) h = refl
scalar_row (suc (suc (suc n))) h = absurd (omega arith)

float_row : (s : List ℕ) (h : Head) → h.n ≤ 1
    → row_of_value (float s h) ≡ value_row 3 (pos (load (4 + 4 * h.n) (drop h.first s))) (4 + 4 * h.n) 0
float_row s h most =
    pick_elim (λ v. row_of_value v ≡ value_row 3 (pos (load (4 + 4 * h.n) (drop h.first s))) (4 + 4 * h.n) 0) (eqb h.n 0)
    (λ z. rw (eqb-true h.n 0 z))
    (λ z. let more : h.n ≡ 0 → ⊥ = eqb-false h.n 0 z in let one : h.n ≡ 1 = omega arith in rw one)

module _ (s : List ℕ) (at : ℕ) (h : Head) (w : Within s at h) where
  pub size_is : (k : ℕ) → h.kind ≡ k → h.end - h.first ≡ size (rule k) h.n
  size_is k e = rw e at w.sized

  pub items_is : (k : ℕ) → (rule k).args ≡ false → h.kind ≡ k → h.items ≡ (rule k).single + (rule k).each * h.n
  items_is k one e = rw e at (w.counted (rw e one))

  most : (k : ℕ) → h.kind ≡ k → h.n ≤ (rule k).most
  most k e = rw e at w.most

  unused : {X : Type 0} (k : ℕ) → (rule k).lows ≡ 0 → h.kind ≡ k → X
  unused k none e = absurd (omega (arith, none, rw e at w.used))

  same_rows : SameRow h.kind (row_of_value Null) (map row_of_value (value_rows s at h)) (rows_on s at h)
  unfolding rule
  same_rows =
      same_row 0 (λ e. rw e (scalar_row h.n (most 0 e)))
      (same_row 1 (λ e. rw e)
      (same_row 2 (λ e. rw e)
      (same_row 3 (λ e. rw e (float_row s h (most 3 e)))
      (same_row 4 (λ e. let len : h.end - h.first ≡ h.n = omega (arith, size_is 4 e) in rw (e, len))
      (same_row 5 (λ e. let len : h.end - h.first ≡ h.n = omega (arith, size_is 5 e) in rw (e, len))
      (same_row 6 (λ e. let all : h.items ≡ h.n = omega (arith, items_is 6 refl e) in rw (e, all))
      (same_row 7 (λ e. let all : h.items ≡ 2 * h.n = omega (arith, items_is 7 refl e) in rw (e, all))
      (same_row 8 (λ e. rw e)
      (same_row 9 (unused 9 refl)
      (same_row 10 (λ e. rw e)
      (same_row 11 (λ e. rw e)
      (same_row 12 (λ e. rw e)
      (same_row 13 (unused 13 refl)
      (same_row 14 (λ e. rw e)
      (same_row 15 (λ e. rw e)
      (record { row = refl }))))))))))))))))

  pub row_value : row_of_value (value_on s at h) ≡ row_on s at h
  unfolding value_on row_on
  row_value = sym (get_or-map row_of_value (value_rows s at h) h.kind Null) ∙ same_rows.row

-- ---- at an offset

-- what was read, in document 01's numbers
abbrev pub rows_of : Answer Fault Value → Answer Fault ValueRow
rows_of (ok v) = ok (row_of_value v)
rows_of (error e) = error e

read_in_row : (mode : Mode) (s : List ℕ) (at : ℕ) → rows_of (read_in mode s at) ≡ read_row_in mode s at
unfolding read_in read_row_in bind
read_in_row mode s at = by_cases (peek_in mode false s at) refl
  where
    by_cases : (a : Answer Fault Head) → peek_in mode false s at ≡ a → rows_of (bind a (λ h. ok (value_on s at h))) ≡ bind a (λ h. ok (row_on s at h))
    by_cases (ok h) e = ap ok (row_value s at h (scan_within mode false s at h (peek_scan mode false s at h (sym e))))
    by_cases (error e) q = refl

read_of_row : (mode : Mode) (file : List ℕ) (at : ℕ) → rows_of (read_of mode file at) ≡ read_row_of mode file at
unfolding in_region bind
read_of_row mode file at = by_cases (region_len (length file) at)
  where
    by_cases : (a : Answer Fault ℕ) → rows_of (bind a (λ n. read_in mode (take n file) at)) ≡ bind a (λ n. read_row_in mode (take n file) at)
    by_cases (ok n) = read_in_row mode (take n file) at
    by_cases (error e) = refl

pub rows_read : (mode : Mode) (file : List ℕ) (at : ℕ) {a : Answer Fault Value} → a ≡ read_of mode file at → rows_of a ≡ read_row_of mode file at
rows_read mode file at e = ap rows_of e ∙ read_of_row mode file at
