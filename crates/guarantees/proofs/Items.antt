-- The items of a value by what reading it returns, of every file.
--
-- In order: an item number at or past the count is NO_ITEM (`item_missing`), and every one of a value without items is WRONG_KIND (`item_leaf`); of a value
-- that `skip` accepts, item i + 1 starts where skipping item i ends (`item_next`), and the last item ends where the value does (`item_last`).
use mathlib.Core.Path.{◌≡◌, refl, sym, ap, ◌∙◌}
use mathlib.Core.Bool.{Bool, true, false}
use mathlib.Core.List.{List}
use mathlib.Core.Option.{none, some}
use Prim.Native.Nat.{ℕ, suc, ◌≤◌, ◌<◌}
use native.Mathlib.Omega.{arith}
use lib.ListN.{length, take}
use Rattle.prelude.specs.Pick.{pick}
use Rattle.prelude.specs.Answer.{ok, error}
use Rattle.prelude.proofs.Readers.{bind_ok}
use Rattle.error.specs.Error.{fault, NO_ITEM, WRONG_KIND}
use Rattle.leb128.specs.declared.Mode.{Mode}
use Rattle.kind.specs.Kind.{rule, immediate}
use Rattle.scan.specs.declared.Head.{Head}
use Rattle.scan.proofs.Places.{scan_within}
use Rattle.reader_region.specs.Region.{region_len, peek_in}
use Rattle.reader_region.proofs.Laws.{length_region, peek_scan}
use Rattle.reader_value.specs.Value.{read_of}
use Rattle.reader_value.specs.declared.Value.{Value}
use Rattle.reader_items.specs.Items.{skip_in, skip_of, item_on, item_in, item_of}
use Rattle.guarantees.specs.Items.{count_of}
use Rattle.guarantees.proofs.Heads.{count_value, read_by}
use Rattle.guarantees.proofs.Queries.{no_item_on, item_found, item_in_next, item_in_last, region_any, in_region_of}

-- a count is that of a head whose kind has items
some_by : {X : Type 0} (t : Bool) (m n : ℕ) → pick t none (some m) ≡ some n → (t ≡ false → m ≡ n → X) → X
some_by true m n e k = let z : ◌≡◌ {A = ℕ} 0 1 = cc in absurd (omega arith)
some_by false m n e k = k refl (cc)

none_by : (t : Bool) (m : ℕ) → pick t none (some m) ≡ none → t ≡ true
none_by true m e = refl
none_by false m e = let z : ◌≡◌ {A = ℕ} 0 1 = cc in absurd (omega arith)

module _ (mode : Mode) (file : List ℕ) (at : ℕ) (v : Value) (read : read_of mode file at ≡ ok v) where
  -- the head of a value that has n items
  counted_by : {X : Type 0} (n : ℕ) → count_of v ≡ some n
      → ((len : ℕ) (h : Head) → ok len ≡ region_len (length file) at → ok h ≡ peek_in mode false (take len file) at → immediate (rule h.kind) ≡ false
      → h.items ≡ n → X) → X
  counted_by n count k =
      read_by mode file at v read (λ len h opened peeked same.
      let w = scan_within mode false (take len file) at h (peek_scan mode false (take len file) at h peeked) in
      some_by (immediate (rule h.kind)) h.items n (sym (count_value (take len file) at h w) ∙ ap count_of (sym same) ∙ count)
      (k len h opened peeked))

  pub item_leaf : (i : ℕ) → count_of v ≡ none → item_of mode file at i ≡ error (fault WRONG_KIND at)
  unfolding item_in item_on
  item_leaf i count =
      read_by mode file at v read (λ len h opened peeked same.
      let w = scan_within mode false (take len file) at h (peek_scan mode false (take len file) at h peeked) in
      let own = none_by (immediate (rule h.kind)) h.items (sym (count_value (take len file) at h w) ∙ ap count_of (sym same) ∙ count) in
      in_region_of file at len opened (λ s. item_in mode s at i) ∙ sym (bind_ok (item_on mode (take len file) at i) peeked (rw own)))

  module _ (n : ℕ) (count : count_of v ≡ some n) where
    pub item_missing : (i : ℕ) → n ≤ i → item_of mode file at i ≡ error (fault NO_ITEM at)
    item_missing i past =
        counted_by n count (λ len h opened peeked holds items. sym (no_item_on mode file at i len h opened peeked holds (omega arith)))

    -- item i of a value that `skip` accepts
    module _ (i p end : ℕ) (here : item_of mode file at i ≡ ok p) (skips : skip_of mode file at ≡ ok end) where
      -- in the region, p is in it too
      within_by : {X : Type 0} → ((len : ℕ) (h : Head) → let s = take len file in ok len ≡ region_len (length file) at → ok h ≡ peek_in mode false s at
          → h.items ≡ n → ok p ≡ item_in mode s at i → ok end ≡ skip_in mode s at → skip_of mode file p ≡ skip_in mode s p → X) → X
      within_by k =
          counted_by n count (λ len h opened peeked holds items.
          let s = take len file in
          let found = sym here ∙ in_region_of file at len opened (λ s. item_in mode s at i) in
          let less : p < len = omega (arith, (item_found mode s at i p found).inside, length_region file at len opened) in
          k len h opened peeked items found (sym skips ∙ in_region_of file at len opened (λ s. skip_in mode s at))
          (in_region_of file p len (region_any (length file) at len opened p less) (λ s. skip_in mode s p)))

      pub item_next : suc i < n → item_of mode file at (suc i) ≡ skip_of mode file p
      item_next more =
          within_by (λ len h opened peeked items found skipped next.
          in_region_of file at len opened (λ s. item_in mode s at (suc i)) ∙ item_in_next mode (take len file) at i p end h peeked skipped (omega arith) found
          ∙ sym next)

      pub item_last : suc i ≡ n → skip_of mode file p ≡ ok end
      item_last last =
          within_by (λ len h opened peeked items found skipped next.
          next ∙ sym (item_in_last mode (take len file) at i p end h peeked (items ∙ sym last) found skipped))
