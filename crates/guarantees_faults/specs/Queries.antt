-- What a query answers, and what it is refused for (document 01, "Questions at an offset"; document 02, W-201 and W-203), by the bytes and the kind
-- table alone; nothing here reads.
--
-- "All work on unchecked files: EMPTY, TOO_LONG, OUTSIDE, the order above, then WRONG_KIND". As in specs/Faults.antt a row says its own fault f, number
-- and place, and that no row above it applies.
--
--   AnsweredQuery file at P
--                        a query at the offset `at` of a file is answered: the file is not too long, `at` is in its region, all bytes but the last, and
--                        P holds of the region
--   RefusedQuery file at P f
--                        it is refused: EMPTY, TOO_LONG, OUTSIDE, or as P says of the region
--
-- The others are about an offset q of a region s, whose numbers are read in `mode`.
--
--   Read inner q         the token at q is read, as an item if `inner` is true: its body, its kind and n, how many items it has, the offset after its
--                        numbers, which is the body's first, and its end, the offset after the body
--   head_of r             its kind, n, items, first and end as the code has them
--   RefusedRead inner q f
--                        it is refused: for what its header, numbers and counts say, or BAD_TARGET if its target is below 0
--   Items k q e          k items are read, the first at q, each other one at the end of the one before; e is the end of the last, or q if k is 0
--   RefusedItems k q f   of k such items one is refused, and those before it are read
--   Skips q e            the value at q and its items are read; e is the end of the last, or of the value if it has none
--   RefusedSkip q f      skipping is refused: the value, or one of its items
--   HasItem q i p        the value at q is read, its kind has items, and i is below their count; the items before item i are read, and it starts at p,
--                        the end of the last of those, which is in the region
--   RefusedItem q i f    the query for item i is refused: the value, WRONG_KIND for a kind without items, NO_ITEM at or past the count, one of the items
--                        before it, or TRUNC at the region's end if it would start there
--   Reaches q hops p v   following meets that many pointers, and then the value v at p, which is not a pointer
--   RefusedFollow q f    following is refused: the value, or, if that is a pointer, following from its target
--   HasBody q first len  following leads to a text or a byte string, whose body is len bytes, the first at `first`
--   RefusedBody q f      the query for a body is refused: following, or WRONG_KIND of the value reached if it is neither a text nor a byte string
--   KeyItem q            the item at q is read, and following from it leads to a value v
--   IsKey key k          that value of the item k is a text with the bytes `key`
--   OtherPairs key n q e n pairs, one after the other, whose keys are others and whose values are read; e is the end of the last, or q if n is 0
--   RefusedPair key q f  the pair at q is refused: its key, following it, TRUNC at the region's end if it is the key and its value would start there, or
--                        the value of another key
--   FirstPair key n q x  of n pairs, the first at q, one after others has the key, and its value item starts at x, which is in the region
--   Finds q key x        the value at q is read and is a map, and x is where the value item of its first pair with the key starts
--   RefusedLookup q key f
--                        the lookup is refused: the value, WRONG_KIND if it is not a map, one of its pairs after others, or NO_ITEM after all of them
use Rattle.std.specs.Prelude.{ℕ, suc, ◌+◌, ◌-◌, ◌/◌, ◌≤◌, ◌<◌, ◌≡◌, Bool, true, false, ◌⊎◌, List, length, take}
use Rattle.error.specs.Error.{Fault, fault, LIMIT, EMPTY, TOO_LONG, TRUNC, BAD_TARGET, OUTSIDE, NO_ITEM, WRONG_KIND}
use Rattle.leb128.specs.declared.Mode.{Mode}
use Rattle.kind.specs.Kind.{rule, size, pending, immediate}
use Rattle.scan.specs.declared.Head.{Head}
use Rattle.guarantees_faults.specs.Faults.{Whole, RefusedHead}

-- ---- a file

pub record AnsweredQuery (file : List ℕ) (at : ℕ) (P : List ℕ → Type 0) : Type 0 where
  pub short : length file ≤ LIMIT
  pub inside : at < length file - 1
  pub answers : P (take (length file - 1) file)

pub data RefusedQuery (file : List ℕ) (at : ℕ) (P : List ℕ → Fault → Type 0) : Fault → Type 0 where
  empty : length file ≡ 0 → RefusedQuery file at P (fault EMPTY 0)
  long : LIMIT < length file → RefusedQuery file at P (fault TOO_LONG 0)
  outside : 1 ≤ length file → length file ≤ LIMIT → length file - 1 ≤ at → RefusedQuery file at P (fault OUTSIDE at)
  inside : {f : Fault} → length file ≤ LIMIT → at < length file - 1 → P (take (length file - 1) file) f → RefusedQuery file at P f

module _ (mode : Mode) (s : List ℕ) where
  -- ---- a token

  -- a target is not below 0
  pub record Read (inner : Bool) (q : ℕ) : Type 0 where
    pub header : ℕ
    pub n : ℕ
    pub body : List ℕ
    pub whole : Whole mode s inner q header n body
    pub kind : ℕ
    pub kind_is : kind ≡ header / 16
    pub items : ℕ
    pub items_are : items ≡ pending (rule kind) n whole.args
    pub first : ℕ
    pub first_is : first ≡ length s - length whole.after
    pub end : ℕ
    pub end_is : end ≡ first + size (rule kind) n
    pub target : 14 ≤ kind → n < q

  abbrev pub head_of : {inner : Bool} {q : ℕ} → Read inner q → Head
  head_of r = record { kind = r.kind; n = r.n; items = r.items; first = r.first; end = r.end }

  pub data RefusedRead (inner : Bool) (q : ℕ) : Fault → Type 0 where
    head : {f : Fault} → RefusedHead mode s inner q f → RefusedRead inner q f
    target : {h n : ℕ} {b : List ℕ} → Whole mode s inner q h n b → 14 ≤ h / 16 → q ≤ n → RefusedRead inner q (fault BAD_TARGET q)

  -- ---- items

  pub data Items : ℕ → ℕ → ℕ → Type 0 where
    none : {q : ℕ} → Items 0 q q
    next : {k q e : ℕ} (r : Read true q) → Items k r.end e → Items (suc k) q e

  pub record RefusedItems (k q : ℕ) (f : Fault) : Type 0 where
    pub i : ℕ
    pub less : i < k
    pub p : ℕ
    pub before : Items i q p
    pub refused : RefusedRead true p f

  pub record Skips (q e : ℕ) : Type 0 where
    pub value : Read false q
    pub items : Items value.items value.end e

  pub data RefusedSkip (q : ℕ) : Fault → Type 0 where
    value : {f : Fault} → RefusedRead false q f → RefusedSkip q f
    items : {f : Fault} (r : Read false q) → RefusedItems r.items r.end f → RefusedSkip q f

  pub record HasItem (q i p : ℕ) : Type 0 where
    pub value : Read false q
    pub kind : immediate (rule value.kind) ≡ false
    pub less : i < value.items
    pub before : Items i value.end p
    pub inside : p < length s

  pub data RefusedItem (q i : ℕ) : Fault → Type 0 where
    value : {f : Fault} → RefusedRead false q f → RefusedItem q i f
    kind : (r : Read false q) → immediate (rule r.kind) ≡ true → RefusedItem q i (fault WRONG_KIND q)
    past : (r : Read false q) → immediate (rule r.kind) ≡ false → r.items ≤ i → RefusedItem q i (fault NO_ITEM q)
    before : {f : Fault} (r : Read false q) → immediate (rule r.kind) ≡ false → i < r.items → RefusedItems i r.end f → RefusedItem q i f
    ended : {p : ℕ} (r : Read false q) → immediate (rule r.kind) ≡ false → i < r.items → Items i r.end p → length s ≤ p
        → RefusedItem q i (fault TRUNC (length s))

  -- ---- pointers

  pub data Reaches : ℕ → ℕ → (p : ℕ) → Read false p → Type 0 where
    here : {q : ℕ} (r : Read false q) → (r.kind ≡ 15 → ⊥) → Reaches q 0 q r
    pointer : {q hops p : ℕ} {v : Read false p} (r : Read false q) → r.kind ≡ 15 → Reaches (q - r.n - 1) hops p v → Reaches q (suc hops) p v

  pub data RefusedFollow : ℕ → Fault → Type 0 where
    value : {q : ℕ} {f : Fault} → RefusedRead false q f → RefusedFollow q f
    pointer : {q : ℕ} {f : Fault} (r : Read false q) → r.kind ≡ 15 → RefusedFollow (q - r.n - 1) f → RefusedFollow q f

  pub record HasBody (q first len : ℕ) : Type 0 where
    pub hops : ℕ
    pub p : ℕ
    pub value : Read false p
    pub reaches : Reaches q hops p value
    pub kind : (value.kind ≡ 4) ⊎ (value.kind ≡ 5)
    pub first_is : first ≡ value.first
    pub len_is : len ≡ length value.body

  pub data RefusedBody (q : ℕ) : Fault → Type 0 where
    follow : {f : Fault} → RefusedFollow q f → RefusedBody q f
    kind : {hops p : ℕ} {v : Read false p} → Reaches q hops p v → (v.kind ≡ 4 → ⊥) → (v.kind ≡ 5 → ⊥) → RefusedBody q (fault WRONG_KIND p)

  -- ---- keys

  pub record KeyItem (q : ℕ) : Type 0 where
    pub item : Read true q
    pub hops : ℕ
    pub p : ℕ
    pub v : Read false p
    pub reaches : Reaches q hops p v

  abbrev pub IsKey : List ℕ → {q : ℕ} → KeyItem q → Type 0
  IsKey key k = (k.v.kind ≡ 4) × (k.v.body ≡ key)

  pub data OtherPairs (key : List ℕ) : ℕ → ℕ → ℕ → Type 0 where
    none : {q : ℕ} → OtherPairs key 0 q q
    next : {n q e : ℕ} (k : KeyItem q) → (IsKey key k → ⊥) → (v : Read true k.item.end) → OtherPairs key n v.end e → OtherPairs key (suc n) q e

  pub data RefusedPair (key : List ℕ) (q : ℕ) : Fault → Type 0 where
    item : {f : Fault} → RefusedRead true q f → RefusedPair key q f
    follow : {f : Fault} → Read true q → RefusedFollow q f → RefusedPair key q f
    ended : (k : KeyItem q) → IsKey key k → length s ≤ k.item.end → RefusedPair key q (fault TRUNC (length s))
    value : {f : Fault} (k : KeyItem q) → (IsKey key k → ⊥) → RefusedRead true k.item.end f → RefusedPair key q f

  pub record FirstPair (key : List ℕ) (n q x : ℕ) : Type 0 where
    pub i : ℕ
    pub less : i < n
    pub p : ℕ
    pub others : OtherPairs key i q p
    pub own : KeyItem p
    pub is_key : IsKey key own
    pub place : x ≡ own.item.end
    pub inside : x < length s

  pub record Finds (q : ℕ) (key : List ℕ) (x : ℕ) : Type 0 where
    pub value : Read false q
    pub kind : value.kind ≡ 7
    pub pair : FirstPair key value.n value.end x

  pub data RefusedLookup (q : ℕ) (key : List ℕ) : Fault → Type 0 where
    value : {f : Fault} → RefusedRead false q f → RefusedLookup q key f
    kind : (r : Read false q) → (r.kind ≡ 7 → ⊥) → RefusedLookup q key (fault WRONG_KIND q)
    pair : {i p : ℕ} {f : Fault} (r : Read false q) → r.kind ≡ 7 → i < r.n → OtherPairs key i r.end p → RefusedPair key p f → RefusedLookup q key f
    missing : {e : ℕ} (r : Read false q) → r.kind ≡ 7 → OtherPairs key r.n r.end e → RefusedLookup q key (fault NO_ITEM q)
