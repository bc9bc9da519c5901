-- What only this crate's private functions cite.
--
--   bytes_of o    the shortest bytes of a number; none if there is no number
use Rattle.std.specs.Prelude.{ℕ, List, [], Option, Some, None}
use Rattle.leb128.specs.Leb.{put}

abbrev pub bytes_of : Option ℕ → List ℕ
bytes_of (Some n) = put 9 n
bytes_of None = []
