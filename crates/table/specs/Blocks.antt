-- Blocks: how many words of a rising table are less than each multiple of 4,096.
--
--   BLOCK               the size of a block
--   Counted blocks t    word number b of `blocks` is the rank of b * BLOCK in t
--   Below m t           every word of t is less than m
use Rattle.std.specs.Prelude.{◌≡◌, List, ℕ, ◌*◌, ◌<◌, length, get_or}
use Rattle.prelude.specs.Search.{rank}

abbrev pub BLOCK : ℕ
BLOCK = 4096

abbrev pub Counted : List ℕ → List ℕ → Type 0
Counted blocks t = (b : ℕ) → b < length blocks → get_or blocks b 0 ≡ rank (b * BLOCK) t

abbrev pub Below : ℕ → List ℕ → Type 0
Below m t = (k : ℕ) → k < length t → get_or t k 0 < m
