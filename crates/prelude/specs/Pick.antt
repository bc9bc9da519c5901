-- Choice by a test: the one if-then-else of all definitions.
--
--   pick t x y    x if t is true, else y
use Rattle.std.specs.Prelude.{Bool, true, false}

abbrev pub pick : {A : Type 0} → Bool → A → A → A
pick true x y = x
pick false x y = y
