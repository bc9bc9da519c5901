-- What a value that was read says of the head there, on every file.
--
-- In order: its kind is the head's (`kind_value`), and the items that it counts are the head's (`count_value`); the head of a value that was read
-- (`read_by`).
use mathlib.Core.Path.{◌≡◌, refl, sym, ap, ◌∙◌}
use mathlib.Core.Bool.{true, false}
use mathlib.Core.List.{List}
use mathlib.Core.Option.{none, some}
use Prim.Native.Nat.{ℕ}
use native.Mathlib.Nat.{zero-add}
use native.Mathlib.Omega.{arith}
use lib.Dec.{eqb}
use lib.IntN.{pos, negsuc}
use lib.ListN.{length, take}
use Rattle.prelude.specs.Pick.{pick}
use Rattle.prelude.specs.Answer.{ok}
use Rattle.prelude.proofs.Tests.{pick_elim}
use Rattle.prelude.proofs.Readers.{bind_ok_by}
use Rattle.leb128.specs.declared.Mode.{Mode}
use Rattle.kind.specs.Kind.{rule, immediate}
use Rattle.kind.proofs.Laws.{used_lt}
use Rattle.scan.specs.declared.Head.{Head}
use Rattle.scan.proofs.Places.{Within}
use Rattle.reader_region.specs.Region.{region_len, in_region, peek_in}
use Rattle.reader_value.specs.Value.{value_rows, value_on, read_in, read_of}
use Rattle.reader_value.specs.declared.Value.{Value}
use Rattle.reader_value.specs.declared.Value.TheVariants.{False, True, Null, Integer, Float32, Float64, Text, Bytes}
use Rattle.reader_value.specs.declared.Value.TheVariants.{Array, Map, Tag, Variant, Variant1, VariantN, Reference, Pointer}
use Rattle.guarantees.specs.Items.{count_of}
use Rattle.guarantees.proofs.Rows.{Rows, past, ◌▸◌, rows_at}

-- the kind of a value that was read
abbrev pub kind_of : Value → ℕ
kind_of False = 0
kind_of True = 0
kind_of Null = 0
kind_of (Integer (pos n)) = 1
kind_of (Integer (negsuc n)) = 2
kind_of (Float32 b) = 3
kind_of (Float64 b) = 3
kind_of (Text first len) = 4
kind_of (Bytes first len) = 5
kind_of (Array n first) = 6
kind_of (Map n items first) = 7
kind_of (Tag n first) = 8
kind_of (Variant i) = 10
kind_of (Variant1 i first) = 11
kind_of (VariantN i n first) = 12
kind_of (Reference x) = 14
kind_of (Pointer x) = 15

module _ (s : List ℕ) (at : ℕ) (h : Head) (w : Within s at h) where
  row_of : (P : Value → Type 0) → Rows (λ k v. h.kind ≡ k → P v) 0 (value_rows s at h) → P (value_on s at h)
  unfolding value_on
  row_of P r = rows_at (λ k v. h.kind ≡ k → P v) 0 h.kind (value_rows s at h) Null r (used_lt h.kind w.used) (sym (zero-add h.kind))

  reserved : {X : Type 0} (k : ℕ) → (rule k).lows ≡ 0 → h.kind ≡ k → X
  reserved k lows e = absurd (omega (arith, lows, w.used, ap (λ j. (rule j).lows) e))

  -- what holds of each scalar, and of both floats
  scalars : (P : Value → Type 0) → P False → P True → P Null → P (pick (eqb h.n 0) False (pick (eqb h.n 1) True Null))
  scalars P f t n = pick_elim P (eqb h.n 0) (λ _. f) (λ _. pick_elim P (eqb h.n 1) (λ _. t) (λ _. n))

  abbrev OfKind : Value → Type 0
  OfKind v = kind_of v ≡ h.kind

  pub kind_value : kind_of (value_on s at h) ≡ h.kind
  unfolding rule
  kind_value =
      row_of OfKind
      ((λ e. scalars OfKind (sym e) (sym e) (sym e))
      ▸ sym
      ▸ sym
      ▸ (λ e. pick_elim OfKind (eqb h.n 0) (λ _. sym e) (λ _. sym e))
      ▸ sym
      ▸ sym
      ▸ sym
      ▸ sym
      ▸ sym
      ▸ reserved 9 refl
      ▸ sym
      ▸ sym
      ▸ sym
      ▸ reserved 13 refl
      ▸ sym
      ▸ sym
      ▸ past)

  record Counted (v : Value) : Type 0 where
    items : count_of v ≡ pick (immediate (rule h.kind)) none (some h.items)

  -- of a kind without items, and with items
  leaf : (k : ℕ) {v : Value} → immediate (rule k) ≡ true → count_of v ≡ none → h.kind ≡ k → Counted v
  leaf k own e q = record { items = rw (q, own) e }

  holds : (k : ℕ) {v : Value} → immediate (rule k) ≡ false → count_of v ≡ some h.items → h.kind ≡ k → Counted v
  holds k own e q = record { items = rw (q, own) e }

  -- a tag and a variant of one have one item
  one : (k : ℕ) → (rule k).args ≡ false → (rule k).single ≡ 1 → (rule k).each ≡ 0 → h.kind ≡ k → some 1 ≡ some h.items
  one k args single each q = ap some (sym (w.counted (rw q args) ∙ rw (q, single, each) (omega arith)))

  pub count_value : count_of (value_on s at h) ≡ pick (immediate (rule h.kind)) none (some h.items)
  unfolding rule
  count_value =
      (row_of Counted
      ((λ e. scalars Counted (leaf 0 refl refl e) (leaf 0 refl refl e) (leaf 0 refl refl e))
      ▸ leaf 1 refl refl
      ▸ leaf 2 refl refl
      ▸ (λ e. pick_elim Counted (eqb h.n 0) (λ _. leaf 3 refl refl e) (λ _. leaf 3 refl refl e))
      ▸ leaf 4 refl refl
      ▸ leaf 5 refl refl
      ▸ holds 6 refl refl
      ▸ holds 7 refl refl
      ▸ (λ e. holds 8 refl (one 8 refl refl refl e) e)
      ▸ reserved 9 refl
      ▸ leaf 10 refl refl
      ▸ (λ e. holds 11 refl (one 11 refl refl refl e) e)
      ▸ holds 12 refl refl
      ▸ reserved 13 refl
      ▸ leaf 14 refl refl
      ▸ leaf 15 refl refl
      ▸ past)).items

-- the head of a value that was read
pub read_by : (mode : Mode) {X : Type 0} (file : List ℕ) (at : ℕ) (v : Value) → read_of mode file at ≡ ok v
    → ((n : ℕ) (h : Head) → ok n ≡ region_len (length file) at → ok h ≡ peek_in mode false (take n file) at → v ≡ value_on (take n file) at h → X) → X
unfolding in_region read_in
read_by mode file at v e k = bind_ok_by _ _ (sym e) (λ n opened q. bind_ok_by _ _ q (λ h peeked r. k n h opened peeked (cc)))
