-- The definitions on examples: a file of four values, and files without a reading.
use mathlib.Core.Path.{◌≡◌, refl, sym, subst}
use mathlib.Core.Bool.{true, false≢true}
use mathlib.Core.List.{List, [], ◌∷◌, ◌++◌}
use Prim.Native.Nat.{ℕ, ◌≤◌, ◌<◌}
use native.Mathlib.Omega.{arith}
use lib.ListN.{length}
use Rattle.prelude.specs.Search.{among, rank}
use Rattle.prelude.specs.Each.{Each}
use Rattle.leb128.specs.declared.Mode.{Mode}
use Rattle.kind.specs.Kind.{rule}
use Rattle.token.specs.Token.{Token, token, put_if, emit, Allowed}
use Rattle.token.proofs.Laws.{spelled_token}
use Rattle.utf8.specs.Text.{Text, is_text, text_from, next, lead}
use Rattle.utf8.proofs.Laws.{is_text_text}
use Rattle.values.specs.Values.{Value, bytes, region, starts, Sound, Item, Formed, TargetsEarlier, WellFormed}
use Rattle.values.specs.Paths.{targets, targets_of, deepest, depths_from, depths_of_values}
use Rattle.values.proofs.Unique.{values_same, last_same}

abbrev text : List ℕ → Token
text b = token 4 (length b) 0 b

abbrev pointer : ℕ → Token
pointer n = token 15 n 0 []

abbrev value : Token → List Token → Value
value t ts = record { head = t; items = ts }

abbrev hello : List Value
hello =
    value (text (0x68 ∷ 0x65 ∷ 0x6c ∷ 0x6c ∷ 0x6f ∷ [])) []
    ∷ value (token 6 1 0 []) (pointer 6 ∷ [])
    ∷ value (token 6 2 0 []) (pointer 8 ∷ pointer 3 ∷ [])
    ∷ value (token 7 2 0 []) (text (0x61 ∷ []) ∷ pointer 5 ∷ text (0x78 ∷ []) ∷ token 0 1 0 [] ∷ [])
    ∷ []

-- ---- tokens and values

infixr 5 ◌&◌
abbrev ◌&◌ : {A B : Type 0} → A → B → A × B
◌&◌ a b = (a, b)

sound : {mode : Mode} (k n : ℕ) (b : List ℕ) → Allowed (token k n 0 b) → (k ≡ 4 → Text b) → Sound mode (token k n 0 b)
sound {mode} k n b a t = record { allowed = a; spelled = spelled_token mode k n 0 b a; text = t }

plain : {mode : Mode} (k n : ℕ) → Allowed (token k n 0 []) → (k ≡ 4 → ⊥) → Sound mode (token k n 0 [])
plain k n a other = sound k n [] a (λ e. absurd (other e))

array_head : {mode : Mode} (n : ℕ) → n < 15 → Sound mode (token 6 n 0 [])
unfolding rule
array_head n h = plain 6 n (omega arith) (λ e. omega arith)

text_item : {mode : Mode} (b : List ℕ) → length b < 15 → is_text b ≡ true → Item mode (text b)
unfolding rule
text_item b h e = record { sound = sound 4 (length b) b (omega arith) (λ k. is_text_text b e); immediate = refl }

pointer_item : {mode : Mode} (n : ℕ) → n < 15 → Item mode (pointer n)
unfolding rule
pointer_item n h = record { sound = plain 15 n (omega arith) (λ e. omega arith); immediate = refl }

true_item : {mode : Mode} → Item mode (token 0 1 0 [])
unfolding rule
true_item = record { sound = plain 0 1 (omega arith) (λ e. omega arith); immediate = refl }

-- an array of one pointer
pointing : {mode : Mode} (n : ℕ) → n < 15 → Formed mode (value (token 6 1 0 []) (pointer n ∷ []))
unfolding rule
pointing n h = record { head = array_head 1 (omega arith); items = pointer_item n h & tt; count = refl }

-- ---- the file

formed : (mode : Mode) → Each (Formed mode) hello
unfolding rule text_from next lead
formed mode =
    record { head = (text_item _ (omega arith) refl).sound; items = tt; count = refl }
    & pointing 6 (omega arith)
    & record { head = array_head 2 (omega arith); items = pointer_item 8 (omega arith) & pointer_item 3 (omega arith) & tt; count = refl }
    & record {
      head = plain 7 2 (omega arith) (λ e. omega arith);
      items = text_item _ (omega arith) refl & pointer_item 5 (omega arith) & text_item _ (omega arith) refl & true_item & tt;
      count = refl;
    }
    & tt

-- a token that is neither a reference nor a pointer
none : {X : Type 0} (k : ℕ) → k < 14 → 14 ≤ k → X
none k h l = absurd (omega arith)

targeted : TargetsEarlier [] 0 hello
unfolding bytes emit put_if rule among
targeted =
    (none 4 (omega arith) & tt)
    & (none 6 (omega arith) & (λ k. (omega arith, refl)) & tt)
    & (none 6 (omega arith) & (λ k. (omega arith, refl)) & (λ k. (omega arith, refl)) & tt)
    & (none 7 (omega arith) & none 4 (omega arith) & (λ k. (omega arith, refl)) & none 4 (omega arith) & none 0 (omega arith) & tt)
    & tt

hello_well_formed : {mode : Mode} → WellFormed mode
    (0x45 ∷ 0x68 ∷ 0x65 ∷ 0x6c ∷ 0x6c ∷ 0x6f ∷ 0x61 ∷ 0xf6 ∷ 0x62 ∷ 0xf8 ∷ 0xf3 ∷ 0x72 ∷ 0x41 ∷ 0x61 ∷ 0xf5 ∷ 0x41 ∷ 0x78 ∷ 0x01 ∷ 0x06 ∷ []) hello 11
unfolding region bytes emit put_if rule starts among
hello_well_formed {mode} = record {
  short = omega arith;
  values = record { formed = formed mode; targets = targeted };
  delta = 6;
  same = refl;
  named = refl;
  start = refl;
}

starts_hello : starts 0 hello ≡ 0 ∷ 6 ∷ 8 ∷ 11 ∷ []
unfolding starts bytes emit put_if rule
starts_hello = refl

depths_hello : depths_of_values hello ≡ 1 ∷ 2 ∷ 3 ∷ 4 ∷ []
unfolding depths_of_values depths_from deepest targets_of targets starts bytes emit put_if rule rank
depths_hello = refl

-- ---- files without a reading

-- formed values whose references and pointers do not go back to starts
no_reading : {mode : Mode} (us : List Value) (d : ℕ) → Each (Formed mode) us → (TargetsEarlier [] 0 us → ⊥) → (vs : List Value) (entry : ℕ)
    → WellFormed mode (region us ++ (d ∷ [])) vs entry → ⊥
no_reading {mode} us d f wrong vs entry w =
    let same = last_same (region vs) (region us) w.delta d (sym w.same) in
    wrong (subst (TargetsEarlier [] 0) (values_same mode vs us w.values.formed f same.0) w.values.targets)

-- an array that points to itself
to_itself : {mode : Mode} (vs : List Value) (entry : ℕ) → WellFormed mode (0x61 ∷ 0xf0 ∷ 0x01 ∷ []) vs entry → ⊥
unfolding region bytes emit put_if rule among
to_itself vs entry w =
    no_reading (value (token 6 1 0 []) (pointer 0 ∷ []) ∷ []) 0x01 (pointing 0 (omega arith) & tt) (λ b. false≢true (b.0.1.0 (omega arith)).1) vs entry w

-- an array that points below 0, after a value that starts at 0
below_file : {mode : Mode} (vs : List Value) (entry : ℕ) → WellFormed mode (0x01 ∷ 0x61 ∷ 0xf5 ∷ 0x01 ∷ []) vs entry → ⊥
unfolding region bytes emit put_if rule among
below_file vs entry w =
    no_reading (value (token 0 1 0 []) [] ∷ value (token 6 1 0 []) (pointer 5 ∷ []) ∷ []) 0x01
    (record { head = true_item.sound; items = tt; count = refl } & pointing 5 (omega arith) & tt)
    (λ b. absurd (omega (arith, (b.1.0.1.0 (omega arith)).0))) vs entry w
