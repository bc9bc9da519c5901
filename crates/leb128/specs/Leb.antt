-- LEB128 numbers (document 01, "Row of a file"): seven bits a byte, the lowest first, the high bit set on all but the last byte.
--
--   top k             `put k` and `get mode k` reach every number below it
--   put k n           the shortest bytes of n, with at most k after the first; k is 9 for n below 2 ^ 64
--   value s           the number that the bytes s of a number hold, shortest or not
--   Groups s          s are the bytes of one number: the high bit is set on all but the last
--   Spells mode n s   s are bytes of the number n, which has at most 64 bits: at most ten bytes, and in the strict mode the
--                     shortest; the mode is the paper's manner (document 02, W-203)
--   Begins mode n s rest
--                     the bytes s begin with bytes of the number n, and then comes `rest`
--   continued s       the bytes s of a number with the high bit set on the last too: more bytes follow
--   pad k s           the bytes s of a number, padded by k bytes: 80s, and 00 at the end; s as it is if k is 0
--   least_of mode      the least that a last byte may be if it is not the first: 1 in the strict mode, 0 in the tolerant one
--   last_of least b s  the answer at a last byte b, with the bytes s after it
--   get mode k least s
--                     the number at the front of s and the bytes after it, with at most k bytes after the first; or the
--                     first fault: TRUNC if the bytes end before the number does, RANGE if a last allowed byte is over
--                     1, OVERLONG if a last byte is below `least`, which is 0 at the first byte and `least_of mode`
--                     after it, so that the tolerant mode has no OVERLONG (document 02, W-203). `get mode 9 0` reads a
--                     number
use Rattle.std.specs.Prelude.{ℕ, zero, suc, ◌+◌, ◌*◌, ◌/◌, ◌%◌, ◌^◌, ◌≤◌, ◌<◌, ◌≡◌, List, [], ◌∷◌, ◌++◌, ltb, leb, length, replicate}
use Rattle.prelude.specs.Pick.{pick}
use Rattle.prelude.specs.Answer.{Res, got, bad, guard, then}
use Rattle.error.specs.Error.{TRUNC, OVERLONG, RANGE}
use Rattle.leb128.specs.declared.Mode.{Mode}
use Rattle.leb128.specs.declared.Mode.TheVariants.{Strict, Tolerant}

abbrev pub top : ℕ → ℕ
top k = 2 * 128 ^ k

unfoldable pub put : ℕ → ℕ → List ℕ
put zero n = n ∷ []
put (suc k) n = let more = (n % 128 + 128) ∷ put k (n / 128) in pick (ltb n 128) (n ∷ []) more

unfoldable pub value : List ℕ → ℕ
value [] = 0
value (b ∷ s) = b % 128 + 128 * value s

abbrev pub Groups : List ℕ → Type 0
Groups [] = ⊥
Groups (b ∷ []) = b < 128
Groups (b ∷ (c ∷ s)) = (128 ≤ b) × Groups (c ∷ s)

pub record Spells (mode : Mode) (n : ℕ) (s : List ℕ) : Type 0 where
  pub groups : Groups s
  pub same : value s ≡ n
  pub below : n < 2 ^ 64
  pub ten : length s ≤ 10
  pub shortest : mode ≡ Strict → s ≡ put 9 n

pub record Begins (mode : Mode) (n : ℕ) (s rest : List ℕ) : Type 0 where
  pub bytes : List ℕ
  pub all : s ≡ bytes ++ rest
  pub spells : Spells mode n bytes

-- ---- padding

unfoldable pub continued : List ℕ → List ℕ
continued [] = []
continued (b ∷ []) = (b + 128) ∷ []
continued (b ∷ (c ∷ s)) = b ∷ continued (c ∷ s)

unfoldable pub pad : ℕ → List ℕ → List ℕ
pad zero s = s
pad (suc k) s = continued s ++ (replicate k 0x80 ++ (0x00 ∷ []))

-- ---- reading

abbrev pub least_of : Mode → ℕ
least_of Strict = 1
least_of Tolerant = 0

abbrev pub last_of : ℕ → ℕ → List ℕ → Res ℕ ℕ
last_of least b s = guard (leb least b) OVERLONG (got b s)

unfoldable pub get : Mode → ℕ → ℕ → List ℕ → Res ℕ ℕ
get mode k least [] = bad TRUNC
get mode zero least (b ∷ s) = guard (ltb b 2) RANGE (last_of least b s)
get mode (suc k) least (b ∷ s) =
    pick (ltb b 128) (last_of least b s) (then (get mode k (least_of mode) s) (λ n rest. got (b % 128 + 128 * n) rest))
