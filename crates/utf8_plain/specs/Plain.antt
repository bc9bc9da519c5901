-- Plain bytes, those of ASCII (document 02, W-205). A word is eight bytes as one number below 2^64, the first byte the lowest.
--
--   Plain s       each byte of s is plain: below 80
--   plain_front s  how many bytes of s are before the first that is not plain; all of them if there is none
--   high_bits k    the number whose k bytes are all 80: the highest bit of each
--   are_plain w    the one test of W-205: whether no byte of the word w has its highest bit set. It says yes exactly if all
--                 eight are plain (`plain_exactly`)
use Rattle.std.specs.Prelude.{ℕ, zero, suc, ◌+◌, ◌*◌, ◌<◌, Bool, List, [], ◌∷◌, eqb, ltb}
use Rattle.std.specs.Int.Bits.{bit_and}
use Rattle.prelude.specs.Pick.{pick}
use Rattle.prelude.specs.Each.{Each}

abbrev pub Plain : List ℕ → Type 0
Plain s = Each (λ b. b < 0x80) s

unfoldable pub plain_front : List ℕ → ℕ
plain_front [] = 0
plain_front (b ∷ s) = pick (ltb b 0x80) (suc (plain_front s)) 0

abbrev pub high_bits : ℕ → ℕ
high_bits zero = 0
high_bits (suc k) = 0x80 + 0x100 * high_bits k

unfoldable pub are_plain : ℕ → Bool
are_plain w = eqb (bit_and w (high_bits 8)) 0
