-- What holds for the paths in a file that check accepts (demand 3, last sentence; document 01, "Check and depths", "Questions at an offset").
--
--   AcceptedPaths mode file count entry
--                the file has `count` values; no path from one of them meets a value twice, since the numbers of the values met fall; depths,
--                with words enough in both tables, accepts the file, and leaves the starts, and one depth a value; a value's depth is the number
--                of values on the longest path from it; and following from value number j leads, by at most j hops, to a value that is
--                not a pointer
use Rattle.std.specs.Prelude.{ℕ, ◌≤◌, ◌<◌, ◌≡◌, List, length, get_or}
use Rattle.prelude.specs.Answer.{ok}
use Rattle.leb128.specs.declared.Mode.{Mode}
use Rattle.values.specs.Values.{Value, starts, WellFormed}
use Rattle.values.specs.Paths.{Path, Depth, Falling}
use Rattle.checker.specs.Check.{filled}
use Rattle.depths.specs.Depths.{deepened, depths_of}
use Rattle.guarantees.specs.Places.{FollowsTo}

pub record AcceptedPaths (mode : Mode) (file : List ℕ) (count entry : ℕ) : Type 0 where
  pub values : List Value
  pub well_formed : WellFormed mode file values entry
  pub counted : count ≡ length values
  pub acyclic : (i : ℕ) (l : List ℕ) → i < count → Path values i l → Falling l
  pub depths : List ℕ
  pub each : length depths ≡ count
  pub accepted : (cap room : ℕ) → count ≤ cap → count ≤ room
      → depths_of mode file cap room ≡ deepened (ok (count, entry)) (filled cap (starts 0 values)) (filled room depths)
  pub exact : (i : ℕ) → i < count → Depth values i (get_or depths i 0)
  pub hops : (j : ℕ) → j < count → FollowsTo mode file values j (get_or (starts 0 values) j 0)
