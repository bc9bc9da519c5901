-- What a token is refused for (document 01, "Numbers of refusal", and document 02, W-201 and W-203), by the bytes and the kind table alone; nothing here
-- reads.
-- Which kinds have a length or a count, and what it measures, is said kind by kind, and not by the table.
--
-- The rows of `RefusedToken`, and in them those of `RefusedHead`, are in the paper's order: "the first fault wins. Within a value: FULL, RESERVED,
-- NESTED, number (TRUNC, then RANGE of the tenth byte, OVERLONG, RANGE of n), the second number of kind 12 likewise, TRUNC of the body, BAD_TEXT,
-- BAD_TARGET". Of a length or count, LONG_BODY or LONG_LIST stands for TRUNC of the body in this order, with a place of its own. A row says its own fault,
-- and that no row above it applies: `HasWord`, `Header`, `Usable`, `Numbered`, `Counted` and `Whole` gather, step by step, what was not refused.
--
--   GoesOn b             b is a continuation byte
--   Number mode s n rest the bytes s are the number n, in the strict mode in its shortest form, and then `rest`
--   BadNumber mode s e   s begins with no number, for the reason e; OVERLONG in the strict mode alone
--   NumberIf mode w s n rest
--                        the same as `Number` if w is true; else there is none, and n is 0
--   overlong_in mode      OVERLONG in the strict mode; none in the tolerant one
--   long_errors           LONG_BODY and LONG_LIST
--   Exceeds k n a left e the length or count that a token of kind k announces, by n or by the argument count a, exceeds the `left` bytes after its numbers,
--                        or half of them if it counts pairs; the error is e
--
-- A token is wanted at the offset q of the region s, and if `inner` is true, as an item; its numbers are read in `mode`.
--
--   Header h m           a header h is at q, the bytes m after it; its kind is h / 16 and its low nibble h % 16
--   Usable h m           .. and its kind and low nibble are in use, and it is an immediate if an item is wanted
--   Numbered h n m       .. and its number n is within its kind's bound; now m is after the number
--   Counted h n a m      .. and a is its second number, or 0 if its kind has none
--   Whole h n b          .. and its body b is in the region, and a byte for each item that it counts
--   RefusedHead f        the token is refused with f, number and place, for what its header, numbers and counts say
--   HasPlace f           the place of f is q, where the token is wanted; if f is one of `long_errors`, it is the offset just after the numbers
--
-- In check's walk `done` are the starts of the values before it, `cap` is how many words the table has, and `pending` how many items are pending in the
-- open value, or 0 if there is none and a new value is wanted.
--
--   HasWord              a new value has a word
--   RefusedToken f       the token is refused with f
use Rattle.std.specs.Prelude.{ℕ, ◌+◌, ◌-◌, ◌*◌, ◌/◌, ◌%◌, ◌≤◌, ◌<◌, ◌≡◌, Bool, true, false, List, [], ◌∷◌, ◌++◌, ltb, leb, length, take, drop}
use Rattle.prelude.specs.Search.{among}
use Rattle.prelude.specs.Each.{Each}
use Rattle.error.specs.Error.{Fault, fault, TRUNC, RESERVED, OVERLONG, RANGE, NESTED, BAD_TEXT, BAD_TARGET, FULL, LONG_BODY, LONG_LIST}
use Rattle.leb128.specs.Leb.{value}
use Rattle.leb128.specs.declared.Mode.{Mode}
use Rattle.leb128.specs.declared.Mode.TheVariants.{Strict, Tolerant}
use Rattle.utf8.specs.Text.{Text}
use Rattle.kind.specs.Kind.{rule, size, counted, immediate}

-- ---- numbers

-- a byte with the high bit: another one of the number follows
abbrev pub GoesOn : ℕ → Type 0
GoesOn b = 128 ≤ b

-- a number of the bytes p and a last byte b: at most ten, a tenth of at most 1, and in the strict mode a last one of 0 only as the first
pub data Number (mode : Mode) : List ℕ → ℕ → List ℕ → Type 0 where
  number : (p : List ℕ) (b : ℕ) (rest : List ℕ) → Each GoesOn p → b < 128 → length p ≤ 9 → (length p ≡ 9 → b ≤ 1)
      → (mode ≡ Strict → 1 ≤ length p → 1 ≤ b) → Number mode (p ++ (b ∷ rest)) (value (p ++ (b ∷ []))) rest

pub data BadNumber (mode : Mode) : List ℕ → ℕ → Type 0 where
  -- the region ends inside the number
  cut : {s : List ℕ} → Each GoesOn s → length s < 10 → BadNumber mode s TRUNC
  -- its tenth byte is over 1
  tenth : (p : List ℕ) (b : ℕ) (rest : List ℕ) → Each GoesOn p → length p ≡ 9 → 2 ≤ b → BadNumber mode (p ++ (b ∷ rest)) RANGE
  -- its last byte is 0 and not the first, which the tolerant mode takes
  padded : mode ≡ Strict → (p rest : List ℕ) → Each GoesOn p → length p ≤ 9 → 1 ≤ length p → BadNumber mode (p ++ (0 ∷ rest)) OVERLONG

pub data NumberIf (mode : Mode) : Bool → List ℕ → ℕ → List ℕ → Type 0 where
  none : {s : List ℕ} → NumberIf mode false s 0 s
  some : {s : List ℕ} {n : ℕ} {rest : List ℕ} → Number mode s n rest → NumberIf mode true s n rest

abbrev pub overlong_in : Mode → List ℕ
overlong_in Strict = OVERLONG ∷ []
overlong_in Tolerant = []

-- ---- lengths and counts

abbrev pub long_errors : List ℕ
long_errors = LONG_BODY ∷ LONG_LIST ∷ []

pub data Exceeds (k n a left : ℕ) : ℕ → Type 0 where
  -- the length of a text, and of a byte string
  text : k ≡ 4 → left < n → Exceeds k n a left LONG_BODY
  bytes : k ≡ 5 → left < n → Exceeds k n a left LONG_BODY
  -- the item count of an array, the pair count of a map, the argument count of a variant of many
  items : k ≡ 6 → left < n → Exceeds k n a left LONG_LIST
  pairs : k ≡ 7 → left / 2 < n → Exceeds k n a left LONG_LIST
  arguments : k ≡ 12 → left < a → Exceeds k n a left LONG_LIST

-- ---- a token

module _ (mode : Mode) (s : List ℕ) (inner : Bool) (q : ℕ) where
  abbrev pub Header : ℕ → List ℕ → Type 0
  Header h m = drop q s ≡ h ∷ m

  pub record Usable (h : ℕ) (m : List ℕ) : Type 0 where
    pub header : Header h m
    pub used : h % 16 < (rule (h / 16)).lows
    pub flat : inner ≡ true → immediate (rule (h / 16)) ≡ true

  -- n is the low nibble below 15; at 15 a number follows, and n is 15 more than that
  pub record Numbered (h n : ℕ) (m : List ℕ) : Type 0 where
    pub after : List ℕ
    pub usable : Usable h after
    pub more : ℕ
    pub number : NumberIf mode (leb 15 (h % 16)) after more m
    pub sum : n ≡ h % 16 + more
    pub most : n ≤ (rule (h / 16)).most

  pub record Counted (h n a : ℕ) (m : List ℕ) : Type 0 where
    pub after : List ℕ
    pub numbered : Numbered h n after
    pub count : NumberIf mode (rule (h / 16)).args after a m

  pub record Whole (h n : ℕ) (b : List ℕ) : Type 0 where
    pub args : ℕ
    pub after : List ℕ
    pub numbers : Counted h n args after
    pub room : size (rule (h / 16)) n + counted (rule (h / 16)) n args ≤ length after
    pub body : b ≡ take (size (rule (h / 16)) n) after

  pub data RefusedHead : Fault → Type 0 where
    -- a token is wanted at the region's end
    ended : length s ≤ q → RefusedHead (fault TRUNC q)
    -- reserved kind or low
    reserved : {h : ℕ} {m : List ℕ} → Header h m → (rule (h / 16)).lows ≤ h % 16 → RefusedHead (fault RESERVED q)
    -- an item of a kind that is not an immediate
    nested : {h : ℕ} {m : List ℕ} → Header h m → h % 16 < (rule (h / 16)).lows → inner ≡ true → immediate (rule (h / 16)) ≡ false
        → RefusedHead (fault NESTED q)
    -- the number: TRUNC, RANGE of the tenth byte, OVERLONG
    number : {h : ℕ} {m : List ℕ} {e : ℕ} → Usable h m → 15 ≤ h % 16 → BadNumber mode m e → RefusedHead (fault e q)
    -- n over its kind's bound, which is at most 2^64-1
    over : {h v : ℕ} {m rest : List ℕ} → Usable h m → NumberIf mode (leb 15 (h % 16)) m v rest → (rule (h / 16)).most < h % 16 + v
        → RefusedHead (fault RANGE q)
    -- the second number likewise
    second : {h n : ℕ} {m : List ℕ} {e : ℕ} → Numbered h n m → (rule (h / 16)).args ≡ true → BadNumber mode m e → RefusedHead (fault e q)
    -- the region ends inside a float's body, of 4 bytes or of 8
    float : {h n a : ℕ} {m : List ℕ} → Counted h n a m → h / 16 ≡ 3 → length m < 4 + 4 * n → RefusedHead (fault TRUNC q)
    -- a length or count exceeds the bytes left; the bytes after the numbers begin at its place p
    exceeds : {h n a e p : ℕ} {m : List ℕ} → Counted h n a m → Exceeds (h / 16) n a (length m) e → p + length m ≡ length s → RefusedHead (fault e p)

  pub data HasPlace (f : Fault) : Type 0 where
    wanted : among f.number long_errors ≡ false → f.place ≡ q → HasPlace f
    numbers : {h n a : ℕ} {m : List ℕ} → Counted h n a m → among f.number long_errors ≡ true → f.place + length m ≡ length s → HasPlace f

-- ---- a token in check's walk

module _ (mode : Mode) (s : List ℕ) (cap : ℕ) (done : List ℕ) (pending q : ℕ) where
  abbrev pub HasWord : Type 0
  HasWord = pending ≡ 0 → length done < cap

  pub data RefusedToken : Fault → Type 0 where
    -- one value more than the table has words
    full : pending ≡ 0 → cap ≤ length done → RefusedToken (fault FULL q)
    -- what its header, numbers and counts say; an item is wanted if items are pending
    head : {f : Fault} → HasWord → RefusedHead mode s (ltb 0 pending) q f → RefusedToken f
    text : {h n : ℕ} {b : List ℕ} → HasWord → Whole mode s (ltb 0 pending) q h n b → h / 16 ≡ 4 → (Text b → ⊥) → RefusedToken (fault BAD_TEXT q)
    -- a reference or pointer whose target is below 0, or not the start of a value that ended before
    target : {h n : ℕ} {b : List ℕ} → HasWord → Whole mode s (ltb 0 pending) q h n b → (h / 16 ≡ 4 → Text b) → 14 ≤ h / 16
        → (n < q → among (q - n - 1) done ≡ false) → RefusedToken (fault BAD_TARGET q)
