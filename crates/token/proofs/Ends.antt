-- What `scan` leaves of the bytes, for numbers in any form, not only the shortest.
--
-- In order: the rest after a number is an end of the bytes; the body and the rest after a token are shorter than the
-- bytes; an item also reads as a value, and has no items itself.
use mathlib.Core.Path.{◌≡◌, refl, ap, ◌∙◌}
use Prim.Native.Nat.{ℕ, suc, ◌+◌, ◌-◌, ◌/◌, ◌≤◌, ◌<◌}
use mathlib.Core.Bool.{Bool, true, false, true≢false}
use mathlib.Core.List.{List, [], ◌∷◌}
use native.Mathlib.Nat.{zero-mul}
use native.Mathlib.Omega.{arith}
use borrow.Author.Tests.{not-true, not-false}
use lib.ListN.{length, take, drop, length-drop, length-append}
use lib.Seq.{drop-drop}
use Rattle.prelude.specs.Answer.{got}
use Rattle.prelude.proofs.Tests.{facts}
use Rattle.prelude.proofs.Readers.{then_by, or_error_by, need_by, need_ok, bind_by, bad_got}
use Rattle.leb128.specs.declared.Mode.{Mode}
use Rattle.leb128.proofs.Laws.{get_ends}
use Rattle.kind.specs.Kind.{rule, size, pending}
use Rattle.kind.proofs.Laws.{rule_row, immediate_none}
use Rattle.token.specs.Token.{Token}
use Rattle.token.specs.Scan.{get_if, Spelling, spelling, number, scan_kind, scan}
use Rattle.token.proofs.Laws.{body_by}

-- ---- the rest after a number

pub record End (s rest : List ℕ) : Type 0 where
  pub short : length rest ≤ length s
  pub end : rest ≡ drop (length s - length rest) s

pub end_drop : (j : ℕ) (s rest : List ℕ) → j ≤ length s → End (drop j s) rest → End s rest
end_drop j s rest h e =
    let l = length-drop j s in
    let same : j + (length (drop j s) - length rest) ≡ length s - length rest = omega (arith, e.short) in
    record { short = omega (arith, e.short); end = e.end ∙ drop-drop _ j s ∙ ap (λ m. drop m s) same }

pub get_if_end : (mode : Mode) (w : Bool) (s : List ℕ) (v : ℕ) (rest : List ℕ) → get_if mode w s ≡ got v rest → End s rest
unfolding get_if
get_if_end mode true s v rest e = let g = get_ends mode 9 0 v s rest e in record { short = omega (arith, g.shorter); end = g.end }
get_if_end mode false s v rest e =
    let same : rest ≡ s = cc in
    let none : length s - length s ≡ 0 = omega arith in
    rw same (record { short = omega arith; end = rw none })

number_short : (mode : Mode) (at : ℕ) (w : Bool) (s : List ℕ) (v : Spelling) (rest : List ℕ) → number mode at w s ≡ got v rest → length rest ≤ length s
unfolding number
number_short mode at w s v rest e =
    then_by _ _ e (λ n mid e₁ e₂. or_error_by _ _ e₁ (λ e₃. let same : mid ≡ rest = cc in rw (← same) (get_if_end mode w s n mid e₃).short))

-- a number that is not there is 0
number_none : (mode : Mode) (at : ℕ) (w : Bool) (s : List ℕ) (v : Spelling) (rest : List ℕ) → w ≡ false → number mode at w s ≡ got v rest → v.value ≡ 0
unfolding number get_if
number_none mode at true s v rest f e = absurd (true≢false f)
number_none mode at false s v rest f e =
    then_by _ _ e (λ n mid e₁ e₂.
    or_error_by _ _ e₁ (λ e₃. let is : v ≡ spelling n (take (length s - length mid) s) = cc in let zero : n ≡ 0 = cc in rw (is, zero)))

-- ---- what `scan` leaves

-- the body and the rest are shorter than s, the counted items have a byte each, the kind is in use, n is within its bound,
-- the body is as long as n says, and there is an argument count only if the kind has one
pub record Left (s : List ℕ) (t : Token) (rest : List ℕ) : Type 0 where
  pub after : length t.body + length rest < length s
  pub count : pending (rule t.kind) t.n t.args ≤ suc (length rest)
  pub used : 0 < (rule t.kind).lows
  pub most : t.n ≤ (rule t.kind).most
  pub sized : length t.body ≡ size (rule t.kind) t.n
  pub alone : (rule t.kind).args ≡ false → t.args ≡ 0

pub scan_left : (mode : Mode) (inner : Bool) (at : ℕ) (s : List ℕ) (t : Token) (rest : List ℕ) → scan mode inner at s ≡ got t rest → Left s t rest
unfolding scan scan_kind
scan_left mode inner at [] t rest e = bad_got e
scan_left mode inner at (h ∷ s) t rest e =
    need_by _ _ _ e (λ low e₁.
    need_by _ _ _ e₁ (λ flat e₂.
    bind_by _ _ _ e₂ (λ v s₁ ev e₃.
    need_by _ _ _ e₃ (λ most e₄.
    bind_by _ _ _ e₄ (λ a s₂ ea e₅.
    body_by _ _ _ _ _ v a s₂ t rest e₅ (λ b et sc sized room.
    let one = number_short mode _ _ s v s₁ ev in
    let two = number_short mode _ _ s₁ a s₂ ea in
    rw et (record {
      after = omega (arith, ap length sc, length-append b rest);
      count = omega (arith, (rule_row (h / 16)).single);
      used = omega facts;
      most = omega facts;
      sized = sized;
      alone = λ f. number_none mode _ _ s₁ a s₂ f ea;
    })))))))

-- ---- items

-- what is read as an item is read as a value
pub scan_item : (mode : Mode) (at : ℕ) (s : List ℕ) (t : Token) (rest : List ℕ) → scan mode true at s ≡ got t rest → scan mode false at s ≡ got t rest
unfolding scan scan_kind
scan_item mode at [] t rest e = bad_got e
scan_item mode at (h ∷ s) t rest e =
    need_by _ _ _ e (λ low e₁. need_by _ _ _ e₁ (λ flat e₂. need_ok _ _ s low (need_ok _ _ s refl e₂)))

-- and has no items
pub item_pending : (mode : Mode) (at : ℕ) (s : List ℕ) (t : Token) (rest : List ℕ) → scan mode true at s ≡ got t rest
    → pending (rule t.kind) t.n t.args ≡ 0
unfolding scan scan_kind
item_pending mode at [] t rest e = bad_got e
item_pending mode at (h ∷ s) t rest e =
    need_by _ _ _ e (λ low e₁.
    need_by _ _ _ e₁ (λ flat e₂.
    bind_by _ _ _ e₂ (λ v s₁ ev e₃.
    need_by _ _ _ e₃ (λ most e₄.
    bind_by _ _ _ e₄ (λ a s₂ ea e₅.
    body_by _ _ _ _ _ v a s₂ t rest e₅ (λ b et sc sized room.
    let none = immediate_none (h / 16) (not-false _ (not-true _ flat)) in
    let z = number_none mode _ (rule (h / 16)).args s₁ a s₂ none.args ea in
    rw (et, none.single, none.each, z, zero-mul)))))))
