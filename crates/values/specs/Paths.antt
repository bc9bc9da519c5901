-- Paths and depth (document 01: "descent").
--
--   targets q ts           the targets of the references and pointers among the tokens ts, the first at q
--   targets_of at vs        for each of the values vs, the first at `at`: the targets of the references and pointers
--                          that it is or holds
--   Refers vs i x          value number i is or holds a reference or pointer, its header at q, whose target q - n - 1 is x
--   Leads vs i j           value number i is or holds a reference or pointer to the start of value number j: `Refers`, by
--                          the list of targets
--   Path vs i l            a path from value number i; l are the numbers of the values on it, i first
--   Depth vs i d           d is the depth of value number i: a path from it has d values, and none has more
--   Falling l              each is less than those before it, so none occurs twice
--   deepest ds js          the greatest depth of the values with numbers js, by the depths ds; 0 if there are none
--   depths_from ss ds tss   the depths ds of the first values, and those of the values after them, whose targets are
--                          tss; ss are the starts of all values
--   depths_of_values vs      the depths, from left to right, each one more than the greatest depth of the value's targets
--
-- `-` stops at 0: a target q - n - 1 is meaningful if n < q, as `HasTarget` says.
use Rattle.std.specs.Prelude.{ℕ, suc, ◌+◌, ◌-◌, ◌≤◌, ◌<◌, max, ◌≡◌, true, List, [], ◌∷◌, ◌++◌, map, leb, length, get_or}
use Rattle.prelude.specs.Pick.{pick}
use Rattle.prelude.specs.Search.{among, rank}
use Rattle.prelude.specs.Each.{Each}
use Rattle.token.specs.Token.{Token, emit}
use Rattle.values.specs.Values.{Value, tokens, bytes, region, starts}

unfoldable pub targets : ℕ → List Token → List ℕ
targets q [] = []
targets q (t ∷ ts) =
    let more = targets (q + length (emit t)) ts in
    pick (leb 14 t.kind) ((q - t.n - 1) ∷ more) more

unfoldable pub targets_of : ℕ → List Value → List (List ℕ)
targets_of at [] = []
targets_of at (v ∷ vs) = targets at (tokens v) ∷ targets_of (at + length (bytes (tokens v))) vs

pub record Refers (vs : List Value) (i x : ℕ) : Type 0 where
  pub before : List Value
  pub value : Value
  pub after : List Value
  pub values : vs ≡ before ++ (value ∷ after)
  pub numbered : length before ≡ i
  pub front : List Token
  pub token : Token
  pub back : List Token
  pub tokens : tokens value ≡ front ++ (token ∷ back)
  pub kind : 14 ≤ token.kind
  pub target : x ≡ length (region before) + length (bytes front) - token.n - 1

abbrev pub Leads : List Value → ℕ → ℕ → Type 0
Leads vs i j = (j < length vs) × (among (get_or (starts 0 vs) j 0) (get_or (targets_of 0 vs) i []) ≡ true)

pub data Path (vs : List Value) : ℕ → List ℕ → Type 0 where
  end : {i : ℕ} → Path vs i (i ∷ [])
  step : {i j : ℕ} {l : List ℕ} → Leads vs i j → Path vs j l → Path vs i (i ∷ l)

pub record Depth (vs : List Value) (i d : ℕ) : Type 0 where
  pub values : List ℕ
  pub path : Path vs i values
  pub long : length values ≡ d
  pub longest : (l : List ℕ) → Path vs i l → length l ≤ d

abbrev pub Falling : List ℕ → Type 0
Falling [] = Unit {0}
Falling (x ∷ l) = Each (λ y. y < x) l × Falling l

-- ---- the depths, computed

unfoldable pub deepest : List ℕ → List ℕ → ℕ
deepest ds [] = 0
deepest ds (j ∷ js) = max (get_or ds j 0) (deepest ds js)

unfoldable pub depths_from : List ℕ → List ℕ → List (List ℕ) → List ℕ
depths_from ss ds [] = ds
depths_from ss ds (os ∷ more) = depths_from ss (ds ++ (suc (deepest ds (map (λ x. rank x ss) os)) ∷ [])) more

unfoldable pub depths_of_values : List Value → List ℕ
depths_of_values vs = depths_from (starts 0 vs) [] (targets_of 0 vs)
