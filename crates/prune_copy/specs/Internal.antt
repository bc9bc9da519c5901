-- What the functions require. No contract of a function for users cites this file.
--
--   Ready t blocks     the starts that t keeps rise and are counted by `blocks`, and t is numbered
--   HeadIn s h        the head h is of a token of the region s: of a kind below 16, with its body in the region
use Rattle.std.specs.Prelude.{ℕ, ◌≤◌, ◌<◌, List, length}
use Rattle.scan.specs.declared.Head.{Head}
use Rattle.prune_marks.specs.Marks.{Indexed, NumberedTo}

pub record Ready (t blocks : List ℕ) : Type 0 where
  pub indexed : Indexed t blocks
  pub numbered : NumberedTo (length t) t

pub record HeadIn (s : List ℕ) (h : Head) : Type 0 where
  pub kind : h.kind < 16
  pub body : h.first ≤ h.end
  pub end : h.end ≤ length s
