-- The rows on document 01's samples and on the witnesses of docs/READINGS.md, by the bytes; nothing is read.
use mathlib.Core.Path.{◌≡◌, refl, sym, ap, subst}
use mathlib.Core.Bool.{Bool, true, false, false≢true}
use mathlib.Core.List.{List, [], ◌∷◌, ◌++◌}
use Prim.Native.Nat.{ℕ, ◌-◌, ◌/◌, ◌%◌, ◌^◌, ◌≤◌, ◌<◌}
use native.Mathlib.Omega.{arith}
use borrow.Author.Rules.{rules}
use lib.Dec.{leb, lit≤, lit<}
use lib.ListN.{replicate}
use Rattle.prelude.specs.Search.{among}
use Rattle.prelude.specs.Each.{Each}
use Rattle.error.specs.Error.{fault, TRUNC, RESERVED, OVERLONG, RANGE, NESTED, BAD_TARGET, FULL, LONG_BODY, LONG_LIST}
use Rattle.leb128.specs.Leb.{value, least_of}
use Rattle.leb128.specs.declared.Mode.{Mode}
use Rattle.leb128.specs.declared.Mode.TheVariants.{Strict, Tolerant}
use Rattle.kind.specs.Kind.{rule}
use Rattle.guarantees_faults.specs.Faults as faults
use Rattle.guarantees_faults.specs.Faults.{GoesOn, Number, NumberIf, Usable, Counted, Whole, RefusedHead, RefusedToken}

-- a value at the front of s; an item at 1, in the value that starts at 0
abbrev Value : Mode → List ℕ → ℕ → Type 0
Value mode s e = RefusedHead mode s false 0 (fault e 0)

abbrev Item : Mode → List ℕ → ℕ → Type 0
Item mode s e = RefusedHead mode s true 1 (fault e 1)

pub used : {mode : Mode} (h : ℕ) (m : List ℕ) → h % 16 < (rule (h / 16)).lows → Usable mode (h ∷ m) false 0 h m
used h m l = record { header = refl; used = l; flat = λ e. absurd (false≢true e) }

-- A11, A12
no_word : {mode : Mode} → RefusedToken mode (0x90 ∷ []) 0 [] 0 0 (fault FULL 0)
no_word = faults.full refl (lit≤ tt)

reserved_item : (mode : Mode) → Item mode (0x61 ∷ 0x90 ∷ []) RESERVED
unfolding rule
reserved_item mode = faults.reserved refl (lit≤ tt)

nested_item : (mode : Mode) → Item mode (0x61 ∷ 0x6f ∷ []) NESTED
unfolding rule
nested_item mode = faults.nested refl (lit< tt) refl refl

-- an integer of a longer form; A1: the region's end before the tenth byte, and after it
integer : {mode : Mode} (m : List ℕ) → Usable mode (0x1f ∷ m) false 0 0x1f m
unfolding rule
integer m = used 0x1f m (lit< tt)

overlong : Value Strict (0x1f ∷ 0x80 ∷ 0 ∷ []) OVERLONG
overlong = faults.number (integer _) (lit≤ tt) (faults.padded refl (0x80 ∷ []) [] (lit≤ tt, tt) (lit≤ tt) (lit≤ tt))

nine_go_on : Each GoesOn (replicate 9 0x80)
nine_go_on = search rules

cut_at_nine : (mode : Mode) → Value mode (0x1f ∷ replicate 9 0x80) TRUNC
cut_at_nine mode = faults.number (integer _) (lit≤ tt) (faults.cut nine_go_on (lit< tt))

tenth_goes_on : (mode : Mode) → Value mode (0x1f ∷ replicate 10 0x80) RANGE
tenth_goes_on mode = faults.number (integer _) (lit≤ tt) (faults.tenth (replicate 9 0x80) 0x80 [] nine_go_on refl (lit≤ tt))

-- W-203, A2: the tolerant mode takes a last byte of 0, also as the tenth, and so has no error there; a tenth byte of 2 is RANGE in both
tolerated : Number Tolerant (0x80 ∷ 0 ∷ []) 0 []
unfolding value
tolerated = faults.number (0x80 ∷ []) 0 [] (search rules) (lit< tt) (lit≤ tt) (λ e. absurd (omega arith)) (λ is l. absurd (omega (arith, ap least_of is)))

tenth_tolerated : Number Tolerant (replicate 9 0x80 ++ (0 ∷ [])) 0 []
unfolding value
tenth_tolerated = faults.number (replicate 9 0x80) 0 [] nine_go_on (lit< tt) (lit≤ tt) (λ e. lit≤ tt) (λ is l. absurd (omega (arith, ap least_of is)))

tenth_over : (mode : Mode) → Value mode (0x1f ∷ (replicate 9 0x80 ++ (2 ∷ []))) RANGE
tenth_over mode = faults.number (integer _) (lit≤ tt) (faults.tenth (replicate 9 0x80) 2 [] nine_go_on refl (lit≤ tt))

-- A7: a variant index of 2^32, and no argument count
index_first : (mode : Mode) → Value mode (0xcf ∷ 0xf1 ∷ 0xff ∷ 0xff ∷ 0xff ∷ 0x0f ∷ []) RANGE
unfolding rule value
index_first mode =
    let m : List ℕ = 0xf1 ∷ 0xff ∷ 0xff ∷ 0xff ∷ 0x0f ∷ [] in
    let five : Number mode m (2 ^ 32 - 15) [] =
    faults.number (0xf1 ∷ 0xff ∷ 0xff ∷ 0xff ∷ []) 0x0f [] (search rules) (lit< tt) (lit≤ tt) (λ e. absurd (omega arith)) (λ is l. lit≤ tt) in
    faults.over (used 0xcf m (lit< tt)) (faults.some five) (lit< tt)

-- a header whose n is its low nibble, of a kind without a second number
pub plain : {mode : Mode} (s : List ℕ) (inner : Bool) (q h : ℕ) (m : List ℕ) → Usable mode s inner q h m → leb 15 (h % 16) ≡ false
    → h % 16 ≤ (rule (h / 16)).most → (rule (h / 16)).args ≡ false → Counted mode s inner q h (h % 16) 0 m
plain {mode} s inner q h m u small most one = record {
  after = m;
  numbered = record {
    after = m;
    usable = u;
    more = 0;
    number = subst (λ w. NumberIf mode w m 0 m) (sym small) faults.none;
    sum = omega arith;
    most = most;
  };
  count = subst (λ w. NumberIf mode w m 0 m) (sym one) faults.none;
}

-- a value, and no second number
bare : {mode : Mode} (h : ℕ) (m : List ℕ) → h % 16 < (rule (h / 16)).lows → leb 15 (h % 16) ≡ false → h % 16 ≤ (rule (h / 16)).most → (rule (h / 16)).args ≡ false
    → Counted mode (h ∷ m) false 0 h (h % 16) 0 m
bare h m l small most one = plain _ _ _ h m (used h m l) small most one

-- D2: a float's body that is cut is TRUNC at the header
cut_float : (mode : Mode) → Value mode (0x30 ∷ 0 ∷ 1 ∷ 2 ∷ []) TRUNC
unfolding rule
cut_float mode = faults.float (bare 0x30 _ (lit< tt) refl (lit≤ tt) refl) refl (lit< tt)

-- A8: three items in two bytes, which are reserved
count_first : {mode : Mode} → RefusedHead mode (0x63 ∷ 0x90 ∷ 0x90 ∷ []) false 0 (fault LONG_LIST 1)
unfolding rule
count_first = faults.exceeds (bare 0x63 _ (lit< tt) refl (lit≤ tt) refl) (faults.items refl (lit< tt)) refl

-- A9: two pairs in three bytes; one fits
two_pairs : {mode : Mode} → RefusedHead mode (0x72 ∷ 0x10 ∷ 0x11 ∷ 0x12 ∷ []) false 0 (fault LONG_LIST 1)
unfolding rule
two_pairs = faults.exceeds (bare 0x72 _ (lit< tt) refl (lit≤ tt) refl) (faults.pairs refl (lit< tt)) refl

one_pair : {mode : Mode} → Whole mode (0x71 ∷ 0x10 ∷ 0x11 ∷ 0x12 ∷ []) false 0 0x71 1 []
unfolding rule
one_pair = record { args = 0; after = _; numbers = bare 0x71 (0x10 ∷ 0x11 ∷ 0x12 ∷ []) (lit< tt) refl (lit≤ tt) refl; room = lit≤ tt; body = refl }

-- D1: the length of an item, at the offset after its header; a text with nothing after it, at the region's end
item_length : {mode : Mode} → RefusedHead mode (0x61 ∷ 0x45 ∷ 0x61 ∷ []) true 1 (fault LONG_BODY 2)
unfolding rule
item_length {mode} =
    let u : Usable mode (0x61 ∷ 0x45 ∷ 0x61 ∷ []) true 1 0x45 (0x61 ∷ []) = record { header = refl; used = lit< tt; flat = λ l. refl } in
    faults.exceeds (plain _ _ _ _ _ u refl (lit≤ tt) refl) (faults.text refl (lit< tt)) refl

length_at_the_end : {mode : Mode} → RefusedHead mode (0x45 ∷ []) false 0 (fault LONG_BODY 1)
unfolding rule
length_at_the_end = faults.exceeds (bare 0x45 [] (lit< tt) refl (lit≤ tt) refl) (faults.text refl (lit< tt)) refl

-- W-201: "01's `7f` sample becomes LONG_LIST, 10"
pairs_of_2^63 : {mode : Mode} → RefusedHead mode (0x7f ∷ 0xf1 ∷ (replicate 7 0xff ++ (0x7f ∷ []))) false 0 (fault LONG_LIST 10)
unfolding rule value
pairs_of_2^63 {mode} =
    let m : List ℕ = 0xf1 ∷ (replicate 7 0xff ++ (0x7f ∷ [])) in
    let nine : Number mode m (2 ^ 63 - 15) [] =
    faults.number (0xf1 ∷ replicate 7 0xff) 0x7f [] (search rules) (lit< tt) (lit≤ tt) (λ e. absurd (omega arith)) (λ is l. lit≤ tt) in
    let c : Counted mode (0x7f ∷ m) false 0 0x7f (2 ^ 63) 0 [] = record {
      after = [];
      numbered = record { after = m; usable = used 0x7f m (lit< tt); more = 2 ^ 63 - 15; number = faults.some nine; sum = refl; most = lit≤ tt };
      count = faults.none;
    } in
    faults.exceeds c (faults.pairs refl (lit< tt)) refl

-- D1: the argument count 133 after a variant index of 15, at the offset after the second number
arguments_after_both : {mode : Mode} → RefusedHead mode (0xcf ∷ 0x00 ∷ 0x85 ∷ 0x01 ∷ 0x10 ∷ []) false 0 (fault LONG_LIST 4)
unfolding rule value
arguments_after_both {mode} =
    let m : List ℕ = 0x00 ∷ 0x85 ∷ 0x01 ∷ 0x10 ∷ [] in
    let index : Number mode m 0 (0x85 ∷ 0x01 ∷ 0x10 ∷ []) =
    faults.number [] 0x00 _ tt (lit< tt) (lit≤ tt) (λ e. absurd (omega arith)) (λ is l. absurd (omega arith)) in
    let count : Number mode (0x85 ∷ 0x01 ∷ 0x10 ∷ []) 133 (0x10 ∷ []) =
    faults.number (0x85 ∷ []) 0x01 _ (search rules) (lit< tt) (lit≤ tt) (λ e. absurd (omega arith)) (λ is l. lit≤ tt) in
    let c : Counted mode (0xcf ∷ m) false 0 0xcf 15 133 (0x10 ∷ []) = record {
      after = 0x85 ∷ 0x01 ∷ 0x10 ∷ [];
      numbered = record { after = m; usable = used 0xcf m (lit< tt); more = 0; number = faults.some index; sum = refl; most = lit≤ tt };
      count = faults.some count;
    } in
    faults.exceeds c (faults.arguments refl (lit< tt)) refl

-- "lets `61 f0` point at its own array"
own_array : {mode : Mode} → RefusedToken mode (0x61 ∷ 0xf0 ∷ []) 1 [] 1 1 (fault BAD_TARGET 1)
unfolding rule among
own_array {mode} =
    let u : Usable mode (0x61 ∷ 0xf0 ∷ []) true 1 0xf0 [] = record { header = refl; used = lit< tt; flat = λ l. refl } in
    let w : Whole mode (0x61 ∷ 0xf0 ∷ []) true 1 0xf0 0 [] = record {
      args = 0;
      after = [];
      numbers = plain _ _ _ _ _ u refl (lit≤ tt) refl;
      room = lit≤ tt;
      body = refl;
    } in
    faults.target (λ z. absurd (omega arith)) w (λ e. absurd (omega arith)) (lit≤ tt) (λ l. refl)
