-- What the entry reaches (W-204: "the values some descent from the entry reaches"), in one pass from the entry down to the first value: targets are earlier, so
-- a value's mark is settled once the pass meets it.
--
--   aims ss ts         the numbers of the values that the references and pointers among the tokens ts name, if the values start at ss
--   aims_at s ss i      the numbers of the values that value number i of the region s leads to
--   marked js ms       the marks ms, with those of the numbers js set
--   sweep f k ms       the marks ms after a pass over the values k - 1 down to 0, in which each value i that is marked sets the marks of the numbers f i
--   reached s ss e     a mark for each value of the region s, if they start at ss: set if value number e reaches it. It reaches itself
use Rattle.std.specs.Prelude.{ℕ, zero, suc, Bool, true, false, List, [], ◌∷◌, leb, length, get_or, set, replicate}
use Rattle.prelude.specs.Pick.{pick}
use Rattle.prelude.specs.Search.{rank}
use Rattle.prune_tokens.specs.Tokens.{PlacedHead, heads_of, target_of}

unfoldable pub aims : List ℕ → List PlacedHead → List ℕ
aims ss [] = []
aims ss (t ∷ ts) = let more = aims ss ts in pick (leb 14 t.head.kind) (rank (target_of t) ss ∷ more) more

abbrev pub aims_at : List ℕ → List ℕ → ℕ → List ℕ
aims_at s ss i = aims ss (heads_of s ss i)

unfoldable pub marked : List ℕ → List Bool → List Bool
marked [] ms = ms
marked (j ∷ js) ms = marked js (set ms j true)

unfoldable pub sweep : (ℕ → List ℕ) → ℕ → List Bool → List Bool
sweep f zero ms = ms
sweep f (suc k) ms = sweep f k (pick (get_or ms k false) (marked (f k) ms) ms)

unfoldable pub reached : List ℕ → List ℕ → ℕ → List Bool
reached s ss e = sweep (aims_at s ss) (suc e) (set (replicate (length ss) false) e true)
