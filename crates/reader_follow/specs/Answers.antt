-- What the answers of this crate's functions mean.
--
--   follow_head_answer r  the value that following reached, or the error's number and place
--   follow_answer r      its offset and the hops, or the same error
use Rattle.std.specs.Prelude.{ℕ, Result}
use Rattle.prelude.specs.Answer.{Answer}
use Rattle.error.specs.Error.{Fault, answered}
use Rattle.error.specs.declared.Error.{Error}
use Rattle.reader_follow.specs.Follow as reached
use Rattle.reader_follow.specs.declared.Followed.{Followed}
use Rattle.scan.specs.declared.Head.{Head}

abbrev pub follow_head_answer : Result (Followed × Head) Error → Answer Fault reached.Followed
follow_head_answer = answered (λ f. reached.followed f.0.at f.0.hops f.1)

abbrev pub follow_answer : Result Followed Error → Answer Fault (ℕ × ℕ)
follow_answer = answered (λ f. (f.at, f.hops))
