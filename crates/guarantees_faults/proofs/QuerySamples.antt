-- The relations of specs/Queries.antt on the witnesses of docs/READINGS.md and on small files, by the bytes; nothing is read.
use mathlib.Core.Path.{◌≡◌, refl}
use mathlib.Core.Bool.{Bool, true, false, false≢true}
use mathlib.Core.Logic.{inl}
use mathlib.Core.List.{List, [], ◌∷◌}
use Prim.Native.Nat.{ℕ, ◌+◌, ◌-◌, ◌/◌, ◌%◌, ◌≤◌, ◌<◌}
use native.Mathlib.Omega.{arith}
use lib.Dec.{leb, lit≤, lit<}
use lib.ListN.{length, take}
use Rattle.error.specs.Error.{fault, TRUNC, RESERVED, NESTED, BAD_TARGET, OUTSIDE, NO_ITEM, WRONG_KIND}
use Rattle.leb128.specs.declared.Mode.{Mode}
use Rattle.kind.specs.Kind.{rule, size, counted, pending}
use Rattle.guarantees_faults.specs.Faults as faults
use Rattle.guarantees_faults.specs.Faults.{Usable, Whole}
use Rattle.guarantees_faults.specs.Queries as queries
use Rattle.guarantees_faults.specs.Queries.{AnsweredQuery, RefusedQuery, Read, RefusedRead, Skips, RefusedSkip, HasItem, RefusedItem}
use Rattle.guarantees_faults.specs.Queries.{Reaches, RefusedFollow, HasBody, RefusedBody, KeyItem, RefusedLookup}
use Rattle.guarantees_faults.proofs.Samples.{used, plain}

-- B1: the offset of the delta byte
delta_outside : (mode : Mode) → RefusedQuery (0 ∷ []) 0 (λ s. RefusedRead mode s false 0) (fault OUTSIDE 0)
delta_outside mode = queries.outside (lit≤ tt) (lit≤ tt) (lit≤ tt)

-- a token at q whose header is all of its numbers
module _ {mode : Mode} (s : List ℕ) (inner : Bool) (q h : ℕ) (m : List ℕ) (u : Usable mode s inner q h m) (small : leb 15 (h % 16) ≡ false)
    (most : h % 16 ≤ (rule (h / 16)).most)
    (one : (rule (h / 16)).args ≡ false) (room : size (rule (h / 16)) (h % 16) + counted (rule (h / 16)) (h % 16) 0 ≤ length m) where
  abbrev whole : Whole mode s inner q h (h % 16) (take (size (rule (h / 16)) (h % 16)) m)
  whole = record { args = 0; after = m; numbers = plain s inner q h m u small most one; room = room; body = refl }

  abbrev read : (14 ≤ h / 16 → h % 16 < q) → Read mode s inner q
  read target = record {
    header = h;
    n = h % 16;
    body = _;
    whole = whole;
    kind = h / 16;
    kind_is = refl;
    items = pending (rule (h / 16)) (h % 16) 0;
    items_are = refl;
    first = length s - length m;
    first_is = refl;
    end = length s - length m + size (rule (h / 16)) (h % 16);
    end_is = refl;
    target = target;
  }

-- B5: BAD_TARGET before WRONG_KIND
target_first : (mode : Mode) → RefusedQuery (0xf0 ∷ 0 ∷ []) 0 (λ s. RefusedItem mode s 0 0) (fault BAD_TARGET 0)
unfolding rule
target_first mode =
    queries.inside (lit≤ tt) (lit< tt)
    (queries.value (queries.target (whole (0xf0 ∷ []) false 0 0xf0 [] (used 0xf0 [] (lit< tt)) refl (lit≤ tt) refl (lit≤ tt)) (lit≤ tt) (lit≤ tt)))

-- an item of kind 6
array : {mode : Mode} → Read mode (0x61 ∷ 0x60 ∷ []) false 0
unfolding rule
array = read _ false 0 0x61 (0x60 ∷ []) (used 0x61 (0x60 ∷ []) (lit< tt)) refl (lit≤ tt) refl (lit≤ tt) (λ l. absurd (omega arith))

nested_item : (mode : Mode) → RefusedQuery (0x61 ∷ 0x60 ∷ 0 ∷ []) 0 (λ s. RefusedSkip mode s 0) (fault NESTED 1)
unfolding rule array
nested_item mode =
    let here = faults.nested refl (lit< tt) refl refl in
    queries.inside (lit≤ tt) (lit< tt) (queries.items array (record { i = 0; less = lit< tt; p = 1; before = queries.none; refused = queries.head here }))

-- B4: a tag whose item would start at the region's end, which is TRUNC there
tag : {mode : Mode} → Read mode (0x81 ∷ []) false 0
unfolding rule
tag = read _ false 0 0x81 [] (used 0x81 [] (lit< tt)) refl (lit≤ tt) refl (lit≤ tt) (λ l. absurd (omega arith))

tag_skipped : (mode : Mode) → RefusedQuery (0x81 ∷ 0 ∷ []) 0 (λ s. RefusedSkip mode s 0) (fault TRUNC 1)
unfolding rule tag
tag_skipped mode =
    let here = faults.ended (lit≤ tt) in
    queries.inside (lit≤ tt) (lit< tt) (queries.items tag (record { i = 0; less = lit< tt; p = 1; before = queries.none; refused = queries.head here }))

tag_item : (mode : Mode) → RefusedQuery (0x81 ∷ 0 ∷ []) 0 (λ s. RefusedItem mode s 0 0) (fault TRUNC 1)
unfolding rule tag
tag_item mode = queries.inside (lit≤ tt) (lit< tt) (queries.ended tag refl (lit< tt) queries.none (lit≤ tt))

-- B6: NO_ITEM before the items, which are reserved
two : {mode : Mode} → Read mode (0x62 ∷ 0x90 ∷ 0x90 ∷ []) false 0
unfolding rule
two = read _ false 0 0x62 (0x90 ∷ 0x90 ∷ []) (used 0x62 (0x90 ∷ 0x90 ∷ []) (lit< tt)) refl (lit≤ tt) refl (lit≤ tt) (λ l. absurd (omega arith))

past_the_count : (mode : Mode) → RefusedQuery (0x62 ∷ 0x90 ∷ 0x90 ∷ 0 ∷ []) 0 (λ s. RefusedItem mode s 0 2) (fault NO_ITEM 0)
unfolding rule two
past_the_count mode = queries.inside (lit≤ tt) (lit< tt) (queries.past two refl (lit≤ tt))

item_before : (mode : Mode) → RefusedQuery (0x62 ∷ 0x90 ∷ 0x90 ∷ 0 ∷ []) 0 (λ s. RefusedItem mode s 0 1) (fault RESERVED 1)
unfolding rule two
item_before mode =
    let here = queries.head (faults.reserved refl (lit≤ tt)) in
    queries.inside (lit≤ tt) (lit< tt)
    (queries.before two refl (lit< tt) (record { i = 0; less = lit< tt; p = 1; before = queries.none; refused = here }))

-- B14: the place of a fault that following meets, and of WRONG_KIND after following
pointer : {mode : Mode} (h : ℕ) → Read mode (h ∷ 0xf0 ∷ []) false 1
unfolding rule
pointer {mode} h =
    let u : Usable mode (h ∷ 0xf0 ∷ []) false 1 0xf0 [] = record { header = refl; used = lit< tt; flat = λ e. absurd (false≢true e) } in
    read _ false 1 0xf0 [] u refl (lit≤ tt) refl (lit≤ tt) (λ l. lit< tt)

reserved_met : (mode : Mode) → RefusedQuery (0x90 ∷ 0xf0 ∷ 0 ∷ []) 1 (λ s. RefusedFollow mode s 1) (fault RESERVED 0)
unfolding rule pointer
reserved_met mode =
    queries.inside (lit≤ tt) (lit< tt) (queries.pointer (pointer 0x90) refl (queries.value (queries.head (faults.reserved refl (lit≤ tt)))))

integer : {mode : Mode} → Read mode (0x10 ∷ 0xf0 ∷ []) false 0
unfolding rule
integer = read _ false 0 0x10 (0xf0 ∷ []) (used 0x10 (0xf0 ∷ []) (lit< tt)) refl (lit≤ tt) refl (lit≤ tt) (λ l. absurd (omega arith))

one_hop : {mode : Mode} → Reaches mode (0x10 ∷ 0xf0 ∷ []) 1 1 0 integer
unfolding rule pointer integer
one_hop = queries.pointer (pointer 0x10) refl (queries.here integer (λ e. absurd (omega arith)))

integer_reached : (mode : Mode) → RefusedQuery (0x10 ∷ 0xf0 ∷ 0 ∷ []) 1 (λ s. RefusedBody mode s 1) (fault WRONG_KIND 0)
unfolding integer
integer_reached mode = queries.inside (lit≤ tt) (lit< tt) (queries.kind one_hop (λ e. absurd (omega arith)) (λ e. absurd (omega arith)))

-- B9: the value of another key is not followed, here to the reserved header at 0
value_not_followed : (mode : Mode) → RefusedQuery (0x90 ∷ 0x71 ∷ 0x10 ∷ 0xf2 ∷ 0 ∷ []) 1 (λ s. RefusedLookup mode s 1 []) (fault NO_ITEM 1)
unfolding rule
value_not_followed mode =
    let s : List ℕ = 0x90 ∷ 0x71 ∷ 0x10 ∷ 0xf2 ∷ [] in
    let at1 : Usable mode s false 1 0x71 (0x10 ∷ 0xf2 ∷ []) = record { header = refl; used = lit< tt; flat = λ e. absurd (false≢true e) } in
    let at2 : (inner : Bool) → Usable mode s inner 2 0x10 (0xf2 ∷ []) = λ inner. record { header = refl; used = lit< tt; flat = λ e. refl } in
    let at3 : Usable mode s true 3 0xf2 [] = record { header = refl; used = lit< tt; flat = λ e. refl } in
    let key : (inner : Bool) → Read mode s inner 2 =
    λ inner. read s inner 2 0x10 (0xf2 ∷ []) (at2 inner) refl (lit≤ tt) refl (lit≤ tt) (λ l. absurd (omega arith)) in
    let other : KeyItem mode s 2 = record {
      item = key true;
      hops = 0;
      p = 2;
      v = key false;
      reaches = queries.here (key false) (λ e. absurd (omega arith));
    } in
    queries.inside (lit≤ tt) (lit< tt)
    (queries.missing (read s false 1 0x71 (0x10 ∷ 0xf2 ∷ []) at1 refl (lit≤ tt) refl (lit≤ tt) (λ l. absurd (omega arith))) refl
    (queries.next other (λ (e, same). absurd (omega arith)) (read s true 3 0xf2 [] at3 refl (lit≤ tt) refl (lit≤ tt) (λ l. lit< tt)) queries.none))

-- an array of two integers: item 1 starts where item 0 ends, and the value ends where item 1 does
abbrev region : List ℕ
region = 0x62 ∷ 0x10 ∷ 0x11 ∷ []

integers : {mode : Mode} → Read mode region false 0
unfolding rule
integers = read region false 0 0x62 (0x10 ∷ 0x11 ∷ []) (used 0x62 (0x10 ∷ 0x11 ∷ []) (lit< tt)) refl (lit≤ tt) refl (lit≤ tt) (λ l. absurd (omega arith))

first : {mode : Mode} → Read mode region true 1
unfolding rule
first {mode} =
    let u : Usable mode region true 1 0x10 (0x11 ∷ []) = record { header = refl; used = lit< tt; flat = λ e. refl } in
    read region true 1 0x10 (0x11 ∷ []) u refl (lit≤ tt) refl (lit≤ tt) (λ l. absurd (omega arith))

second : {mode : Mode} → Read mode region true 2
unfolding rule
second {mode} =
    let u : Usable mode region true 2 0x11 [] = record { header = refl; used = lit< tt; flat = λ e. refl } in
    read region true 2 0x11 [] u refl (lit≤ tt) refl (lit≤ tt) (λ l. absurd (omega arith))

item_1 : (mode : Mode) → AnsweredQuery (0x62 ∷ 0x10 ∷ 0x11 ∷ 2 ∷ []) 0 (λ s. HasItem mode s 0 1 2)
unfolding rule integers first
item_1 mode = record {
  short = lit≤ tt;
  inside = lit< tt;
  answers = record { value = integers; kind = refl; less = lit< tt; before = queries.next first queries.none; inside = lit< tt };
}

skipped : (mode : Mode) → AnsweredQuery (0x62 ∷ 0x10 ∷ 0x11 ∷ 2 ∷ []) 0 (λ s. Skips mode s 0 3)
unfolding rule integers first second
skipped mode = record {
  short = lit≤ tt;
  inside = lit< tt;
  answers = record { value = integers; items = queries.next first (queries.next second queries.none) };
}

-- the body of a text of one byte, asked for at a pointer to it
text_reached : (mode : Mode) → AnsweredQuery (0x41 ∷ 0x61 ∷ 0xf1 ∷ 0 ∷ []) 2 (λ s. HasBody mode s 2 1 1)
unfolding rule
text_reached mode =
    let s : List ℕ = 0x41 ∷ 0x61 ∷ 0xf1 ∷ [] in
    let r : Read mode s false 0 =
    read s false 0 0x41 (0x61 ∷ 0xf1 ∷ []) (used 0x41 (0x61 ∷ 0xf1 ∷ []) (lit< tt)) refl (lit≤ tt) refl (lit≤ tt) (λ l. absurd (omega arith)) in
    let u : Usable mode s false 2 0xf1 [] = record { header = refl; used = lit< tt; flat = λ e. absurd (false≢true e) } in
    let p : Read mode s false 2 = read s false 2 0xf1 [] u refl (lit≤ tt) refl (lit≤ tt) (λ l. lit< tt) in
    record {
      short = lit≤ tt;
      inside = lit< tt;
      answers = record {
        hops = 1;
        p = 0;
        value = r;
        reaches = queries.pointer p refl (queries.here r (λ e. absurd (omega arith)));
        kind = inl refl;
        first_is = refl;
        len_is = refl;
      };
    }
