-- `writer_listing::is_listed_near` meets its contract.
use mathlib.Core.Path.{◌≡◌, ◌∙◌}
use mathlib.Core.Bool.{true, ◌&&◌, and_comm}
use mathlib.Core.List.{List}
use Prim.Native.Nat.{ℕ, ◌≤◌, ◌<◌}
use native.Mathlib.Omega.{arith}
use lib.Dec.{ltb}
use lib.ListN.{length, take, get_or}
use lib.Seq.{get_or-take, length-take-le}
use Rattle.prelude.specs.Search.{among}
use Rattle.prelude.proofs.Searches.{among_at}
use Rattle.writer_listing.proofs.is_listed_near.Goals as goal

-- word number i is x
found : (w x n i : ℕ) (t : List ℕ) → i < n → n ≤ length t → get_or t i 0 ≡ x → ltb x w ≡ ltb x w && among x (take n t)
found w x n i t h k e =
    rw (among_at x (take n t) i (omega (arith, length-take-le n t k)) (get_or-take n t i 0 h ∙ e), and_comm (ltb x w) true)

pub returns-then-starts-near : goal.returns-then-starts-near
returns-then-starts-near c = λ w h. found _ _ _ _ _ c.if-near-count.true h c.if-starts-near.true
