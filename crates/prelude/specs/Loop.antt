-- A loop as a definition: a turn goes on from a state, or stops with an answer.
--
--   Turn S R            what a turn does: `go` on from a state of S, or `stop` with an answer of R
--   follow t f          f applied to the state from which t goes on, or the answer with which it stops
--   run turn r k s      the answer of at most k turns from s; r if they do not stop
--   from turn μ r s     the answer of the loop from s, if each turn makes the measure μ less; then r is never the answer
use Rattle.std.specs.Prelude.{ℕ, zero, suc}

pub data Turn (S R : Type 0) : Type 0 where
  go : S → Turn S R
  stop : R → Turn S R

abbrev pub follow : {S R : Type 0} → Turn S R → (S → R) → R
follow (go s) f = f s
follow (stop r) f = r

unfoldable pub run : {S R : Type 0} → (S → Turn S R) → R → ℕ → S → R
run turn r zero s = r
run turn r (suc k) s = follow (turn s) (run turn r k)

unfoldable pub from : {S R : Type 0} → (S → Turn S R) → (S → ℕ) → R → S → R
from turn μ r s = run turn r (suc (μ s)) s
