-- UTF-8 by RFC 3629, section 3: code points and their octets. No contract cites this file: it says, without the table of
-- forms, what a text is.
--
--   surrogates           the code points from D800 to DFFF
--   Encodable c          UTF-8 encodes the code point c: it is from 0 to 10FFFF, and no surrogate
--   Row                  a row of section 3's table: the range of its character numbers, the range of its first octet, and how
--                        many octets 10xxxxxx follow
--   utf8_rows             the table; 0xxxxxxx is from 00 to 7F, 110xxxxx from C0 to DF, 1110xxxx from E0 to EF, 11110xxx from F0
--                        to F7
--   row_of part rs x      the first row of rs that has x in its range `part`
--   following k c        k octets 10xxxxxx whose bits x are the lowest 6k bits of c, the highest first
--   FitsRow r c          the bits x of the row r can be those of c: its first octet is then in the row's range
--   octets r c           the octets of the row r whose bits x are those of c, if they can be; no octets without a row
--   encode c             the octets of c, by the row that has c among its character numbers; of a surrogate too, which `Utf8` leaves out
--   utf8 cs              the octets of each of cs, one after the other
--   Utf8 s               s is the UTF-8 form of some code points: their octets, and UTF-8 encodes each of them
--   keep r v cs          v and then cs, if v is among the character numbers of r and no surrogate; else, or if cs is one, a refusal
--   decode_from r v k s   s goes on inside a character of the row r: v are its bits so far, and k of its octets are to come; the code
--                        points from that character on, or a refusal if s is not so
--   decode s             the code points whose UTF-8 form is s; a refusal if there are none
use Rattle.std.specs.Prelude.{ℕ, zero, suc, ◌+◌, ◌-◌, ◌*◌, ◌/◌, ◌%◌, ◌^◌, ◌≤◌, ◌≡◌, ◌&&◌, not, List, [], ◌∷◌, ◌++◌}
use Rattle.std.proofs.Math.Option.{Option, some, none, bind}
use Rattle.prelude.specs.Pick.{pick}
use Rattle.prelude.specs.Each.{Each}
use Rattle.utf8.specs.Text.{Range, range, continuation, within}

abbrev pub surrogates : Range
surrogates = range 0xD800 0xDFFF

abbrev pub Encodable : ℕ → Type 0
Encodable c = (c ≤ 0x10FFFF) × (surrogates.lo ≤ c → c ≤ surrogates.hi → ⊥)

pub record Row : Type 0 where
  pub numbers : Range
  pub first : Range
  pub more : ℕ

abbrev pub row : Range → Range → ℕ → Row
row numbers first more = record { numbers = numbers; first = first; more = more }

abbrev pub utf8_rows : List Row
utf8_rows =
    row (range 0x0 0x7F) (range 0x00 0x7F) 0
    ∷ row (range 0x80 0x7FF) (range 0xC0 0xDF) 1
    ∷ row (range 0x800 0xFFFF) (range 0xE0 0xEF) 2
    ∷ row (range 0x10000 0x10FFFF) (range 0xF0 0xF7) 3
    ∷ []

unfoldable pub row_of : (Row → Range) → List Row → ℕ → Option Row
row_of part [] x = none
row_of part (r ∷ rs) x = pick (within (part r) x) (some r) (row_of part rs x)

-- ---- from code points to octets

unfoldable pub following : ℕ → ℕ → List ℕ
following zero c = []
following (suc k) c = (0x80 + (c / 64 ^ k) % 64) ∷ following k c

abbrev pub octets : Option Row → ℕ → List ℕ
octets none c = []
octets (some r) c = (r.first.lo + c / 64 ^ r.more) ∷ following r.more c

abbrev pub encode : ℕ → List ℕ
encode c = octets (row_of (λ r. r.numbers) utf8_rows c) c

unfoldable pub utf8 : List ℕ → List ℕ
utf8 [] = []
utf8 (c ∷ cs) = encode c ++ utf8 cs

abbrev pub FitsRow : Row → ℕ → Type 0
FitsRow r c = r.first.lo + c / 64 ^ r.more ≤ r.first.hi

abbrev pub Utf8 : List ℕ → Type 0
Utf8 s = (cs : List ℕ) × Each Encodable cs × (utf8 cs ≡ s)

-- ---- from octets to code points

abbrev pub keep : Row → ℕ → Option (List ℕ) → Option (List ℕ)
keep r v none = none
keep r v (some cs) = pick (within r.numbers v && not (within surrogates v)) (some (v ∷ cs)) none

unfoldable pub decode_from : Row → ℕ → ℕ → List ℕ → Option (List ℕ)
decode_from r v zero [] = keep r v (some [])
decode_from r v zero (b ∷ s) = keep r v (bind (row_of (λ q. q.first) utf8_rows b) (λ q. decode_from q (b - q.first.lo) q.more s))
decode_from r v (suc k) [] = none
decode_from r v (suc k) (b ∷ s) = pick (within continuation b) (decode_from r (v * 64 + (b - 0x80)) k s) none

abbrev pub decode : List ℕ → Option (List ℕ)
decode [] = some []
decode (b ∷ s) = bind (row_of (λ r. r.first) utf8_rows b) (λ r. decode_from r (b - r.first.lo) r.more s)
