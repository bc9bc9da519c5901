-- The queries in both modes.
--
-- In order: from a region to the file; then each query in a region: the token and its value, the items, pointers and the body, pairs.
use mathlib.Core.Path.{refl}
use mathlib.Core.Logic.{inr}
use mathlib.Core.Bool.{Bool, true, false}
use mathlib.Core.List.{List}
use Prim.Native.Nat.{ℕ, zero, suc}
use lib.Dec.{eqb, leb}
use lib.ListN.{take}
use Rattle.prelude.specs.Answer.{Answer}
use Rattle.prelude.proofs.Turns.{Stops, from_or}
use Rattle.error.specs.Error.{Fault}
use Rattle.leb128.specs.declared.Mode.TheVariants.{Strict, Tolerant}
use Rattle.kind.specs.Kind.{rule, immediate}
use Rattle.reader_region.specs.Region.{in_region, peek_in}
use Rattle.reader_value.specs.Value.{read_in}
use Rattle.reader_value.specs.Row.{read_row_in}
use Rattle.reader_items.specs.Items.{skip_items, skip_in, item_on, item_in}
use Rattle.reader_follow.specs.Follow.{Position, position, follow_turned, follow_turn, follow_from, follow_in}
use Rattle.reader_body.specs.Body.{body_place_in}
use Rattle.reader_lookup.specs.Lookup.{is_key, pairs, lookup_in}
use Rattle.guarantees_modes.specs.Modes.{IsOverlong}
use Rattle.guarantees_modes.proofs.Either.{Or, or_pick, Same, same_bind, same_turned}
use Rattle.guarantees_modes.proofs.Tokens.{same_scan_at}

pub same_in_region : {A : Type 0} (file : List ℕ) (at : ℕ) {j k : List ℕ → Answer Fault A} → ((s : List ℕ) → Same (j s) (k s))
    → Same (in_region file at j) (in_region file at k)
unfolding in_region
same_in_region file at h = same_bind (inr refl) (λ n. h (take n file))

module _ (s : List ℕ) where
  pub same_peek_in : (inner : Bool) (at : ℕ) → Same (peek_in Strict inner s at) (peek_in Tolerant inner s at)
  unfolding peek_in
  same_peek_in inner at = same_bind (same_scan_at at inner s) (λ h. inr refl)

  pub same_read_in : (at : ℕ) → Same (read_in Strict s at) (read_in Tolerant s at)
  unfolding read_in
  same_read_in at = same_bind (same_peek_in false at) (λ h. inr refl)

  pub same_read_row_in : (at : ℕ) → Same (read_row_in Strict s at) (read_row_in Tolerant s at)
  unfolding read_row_in
  same_read_row_in at = same_bind (same_peek_in false at) (λ h. inr refl)

  -- ---- items

  same_skip_items : (k at : ℕ) → Same (skip_items Strict s k at) (skip_items Tolerant s k at)
  unfolding skip_items
  same_skip_items zero at = inr refl
  same_skip_items (suc k) at = same_bind (same_peek_in true at) (λ h. same_skip_items k h.end)

  pub same_skip_in : (at : ℕ) → Same (skip_in Strict s at) (skip_in Tolerant s at)
  unfolding skip_in
  same_skip_in at = same_bind (same_peek_in false at) (λ h. same_skip_items h.items h.end)

  pub same_item_in : (at i : ℕ) → Same (item_in Strict s at i) (item_in Tolerant s at i)
  unfolding item_in item_on
  same_item_in at i =
      same_bind (same_peek_in false at) (λ h.
      or_pick IsOverlong (immediate (rule h.kind)) (inr refl)
      (or_pick IsOverlong (leb h.items i) (inr refl) (same_bind (same_skip_items i h.end) (λ q. inr refl))))

  -- ---- pointers

  same_follow_turn : (p : Position) → Or (Stops IsOverlong) (follow_turn Strict s p) (follow_turn Tolerant s p)
  unfolding follow_turn
  same_follow_turn p = same_turned (follow_turned p) (λ e. refl) (same_peek_in false p.place)

  pub same_follow_from : (p : Position) → Same (follow_from Strict s p) (follow_from Tolerant s p)
  unfolding follow_from
  same_follow_from p = from_or IsOverlong same_follow_turn _ _ p

  pub same_follow_in : (at : ℕ) → Same (follow_in Strict s at) (follow_in Tolerant s at)
  unfolding follow_in
  same_follow_in at = same_bind (same_follow_from (position at 0)) (λ m. inr refl)

  pub same_body_place_in : (at : ℕ) → Same (body_place_in Strict s at) (body_place_in Tolerant s at)
  unfolding body_place_in
  same_body_place_in at = same_bind (same_follow_from (position at 0)) (λ m. inr refl)

  -- ---- pairs

  same_pairs : (at : ℕ) (key : List ℕ) (k q : ℕ) → Same (pairs Strict s at key k q) (pairs Tolerant s at key k q)
  unfolding pairs
  same_pairs at key zero q = inr refl
  same_pairs at key (suc k) q =
      same_bind (same_peek_in true q) (λ h.
      same_bind (same_follow_from (position q 0)) (λ m.
      or_pick IsOverlong (is_key s key m.head) (inr refl) (same_bind (same_peek_in true h.end) (λ v. same_pairs at key k v.end))))

  pub same_lookup_in : (at : ℕ) (key : List ℕ) → Same (lookup_in Strict s at key) (lookup_in Tolerant s at key)
  unfolding lookup_in
  same_lookup_in at key = same_bind (same_peek_in false at) (λ h. or_pick IsOverlong (eqb h.kind 7) (same_pairs at key h.n h.end) (inr refl))
