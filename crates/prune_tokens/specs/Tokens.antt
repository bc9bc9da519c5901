-- The tokens of a value, as a scan of the region finds them one after the other.
--
--   PlacedHead           a token: the offset of its header, and its head
--   heads_by at a more    the token at `at`, if it was scanned with the answer a, and `more` from its end on
--   heads_in k s end at   at most k tokens of the region s from `at` on, those that start before `end`. A token that does not scan ends them; no accepted
--                        file has one
--   heads s end at       all of them
--   heads_of s ss i       the tokens of value number i, if the values of s start at ss: it ends where the next one starts, and the last at the region's end
--   target_of t           the offset that a reference or pointer t names. `-` stops at 0: it is meaningful if n is less than the offset of the header
use Rattle.std.specs.Prelude.{ℕ, zero, suc, ◌-◌, false, List, [], ◌∷◌, leb, length, get_or}
use Rattle.prelude.specs.Pick.{pick}
use Rattle.prelude.specs.Answer.{Answer, ok, error}
use Rattle.error.specs.Error.{Fault}
use Rattle.leb128.specs.declared.Mode.TheVariants.{Strict}
use Rattle.scan.specs.Answers.{scan_at}
use Rattle.scan.specs.declared.Head.{Head}

pub record PlacedHead : Type 0 where
  pub place : ℕ
  pub head : Head

abbrev pub heads_by : ℕ → Answer Fault Head → (ℕ → List PlacedHead) → List PlacedHead
heads_by at (ok h) more = record { place = at; head = h } ∷ more h.end
heads_by at (error e) more = []

unfoldable pub heads_in : ℕ → List ℕ → ℕ → ℕ → List PlacedHead
heads_in zero s end at = []
heads_in (suc k) s end at = pick (leb end at) [] (heads_by at (scan_at Strict false s at) (heads_in k s end))

unfoldable pub heads : List ℕ → ℕ → ℕ → List PlacedHead
heads s end at = heads_in (suc (length s - at)) s end at

unfoldable pub heads_of : List ℕ → List ℕ → ℕ → List PlacedHead
heads_of s ss i = heads s (get_or ss (suc i) (length s)) (get_or ss i 0)

abbrev pub target_of : PlacedHead → ℕ
target_of t = t.place - t.head.n - 1
