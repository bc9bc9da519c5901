-- A file has at most one reading.
--
-- In order: equal bytes begin with the same token, since what is emitted is scanned back (`first_same`); items, as many
-- on both sides, with any bytes after them (`items_same`); values (`values_same`); the delta byte (`last_same`); files
-- (`one_reading`).
use mathlib.Core.Path.{◌≡◌, refl, sym, ap, ◌∙◌}
use mathlib.Core.Bool.{Bool, true, false}
use mathlib.Core.List.{List, [], ◌∷◌, ◌++◌, append_assoc}
use Prim.Native.Nat.{ℕ}
use native.Mathlib.Nat.{suc_inj}
use native.Mathlib.Omega.{arith}
use lib.ListN.{length, length-append}
use lib.Seq.{take_at, drop_at}
use Rattle.prelude.specs.Each.{Each}
use Rattle.leb128.specs.declared.Mode.{Mode}
use Rattle.token.specs.Token.{Token, emit, Fits}
use Rattle.token.proofs.Laws.{scan_emit, emit_pos}
use Rattle.values.specs.Values.{Value, bytes, region, Item, Formed, WellFormed}
use Rattle.values.proofs.Laws.{fits_item, fits_head}

pub first_same : {mode : Mode} (inner : Bool) (t u : Token) (r s : List ℕ) → Fits mode inner t r → Fits mode inner u s → emit t ++ r ≡ emit u ++ s
    → (t ≡ u) × (r ≡ s)
first_same {mode} inner t u r s f g e =
    let p = scan_emit mode inner 0 t r f in
    let q = scan_emit mode inner 0 u s g in
    (cc, cc)

pub items_same : (mode : Mode) (is js : List Token) (r s : List ℕ) → Each (Item mode) is → Each (Item mode) js → length is ≡ length js
    → bytes is ++ r ≡ bytes js ++ s
    → (is ≡ js) × (r ≡ s)
unfolding bytes
items_same mode [] [] r s f g n e = (refl, e)
items_same mode [] (j ∷ js) r s f g n e = absurd (omega arith)
items_same mode (i ∷ is) [] r s f g n e = absurd (omega arith)
items_same mode (i ∷ is) (j ∷ js) r s f g n e =
    let first = first_same true i j _ _ (fits_item i f.0 _) (fits_item j g.0 _) (simp append_assoc at e) in
    let more = items_same mode is js r s f.1 g.1 (suc_inj n) first.1 in
    (cc (first.0, more.0), more.1)

pub values_same : (mode : Mode) (vs ws : List Value) → Each (Formed mode) vs → Each (Formed mode) ws → region vs ≡ region ws → vs ≡ ws
unfolding bytes region
values_same mode [] [] f g e = refl
values_same mode [] (w ∷ ws) f g e = absurd (omega (arith, emit_pos w.head, simp length-append at (ap length e)))
values_same mode (v ∷ vs) [] f g e = absurd (omega (arith, emit_pos v.head, simp length-append at (ap length e)))
values_same mode (v ∷ vs) (w ∷ ws) f g e =
    let first = first_same false v.head w.head _ _ (fits_head v f.0 (region vs)) (fits_head w g.0 (region ws)) (simp append_assoc at e) in
    let count : length v.items ≡ length w.items = cc (f.0.count, g.0.count, first.0) in
    let items = items_same mode v.items w.items (region vs) (region ws) f.0.items g.0.items count first.1 in
    let same : v ≡ w = λ k. record { head = first.0 k; items = items.0 k } in
    cc (same, values_same mode vs ws f.1 g.1 items.1)

-- lists with one more at the end
pub last_same : (a b : List ℕ) (x y : ℕ) → a ++ (x ∷ []) ≡ b ++ (y ∷ []) → (a ≡ b) × (x ≡ y)
last_same a b x y e =
    let n : length a ≡ length b = omega (arith, simp length-append at (ap length e)) in (
      cc (take_at a (x ∷ []) (length b) n, take_at b (y ∷ []) (length b) refl),
      cc (drop_at a (x ∷ []) (length b) n, drop_at b (y ∷ []) (length b) refl),
    )

pub one_reading : {mode : Mode} (file : List ℕ) (vs ws : List Value) (e f : ℕ) → WellFormed mode file vs e → WellFormed mode file ws f → (vs ≡ ws) × (e ≡ f)
one_reading {mode} file vs ws e f v w =
    let last = last_same (region vs) (region ws) v.delta w.delta (sym v.same ∙ w.same) in
    (values_same mode vs ws v.values.formed w.values.formed last.0, omega (arith, v.named, w.named, last.1, ap length last.0))
