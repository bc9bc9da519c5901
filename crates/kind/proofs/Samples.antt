-- The table's column "immediate" and the reserved kinds, as document 01 has them.
use mathlib.Core.Path.{◌≡◌, refl}
use mathlib.Core.Bool.{true, false, not, ◌&&◌}
use mathlib.Core.List.{[], ◌∷◌, map}
use lib.Dec.{eqb, ltb}
use Rattle.kind.specs.Kind.{table, immediate}

-- yes for 0 to 5, 10, 14 and 15
immediates : map immediate table
    ≡ true ∷ true ∷ true ∷ true ∷ true ∷ true ∷ false ∷ false ∷ false ∷ false ∷ true ∷ false ∷ false ∷ false ∷ true ∷ true ∷ []
immediates = refl

-- a kind is an immediate exactly if it is not reserved and never has items
itemless : map immediate table ≡ map (λ r. ltb 0 r.lows && eqb r.single 0 && eqb r.each 0 && not r.args) table
itemless = refl

-- 9 and 13
reserves : map (λ r. eqb r.lows 0) table
    ≡ false ∷ false ∷ false ∷ false ∷ false ∷ false ∷ false ∷ false ∷ false ∷ true ∷ false ∷ false ∷ false ∷ true ∷ false ∷ false ∷ []
reserves = refl
