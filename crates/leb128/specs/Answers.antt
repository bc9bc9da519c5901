-- What the answer of `get` means.
--
--   answer_of r   a result of `get` in document 01's terms: the number with the bytes left, or the error's number
use Rattle.std.specs.Prelude.{ℕ, Result, Ok, Err}
use Rattle.prelude.specs.Answer.{Answer, ok, error}
use Rattle.error.specs.Error.{number_of}
use Rattle.error.specs.declared.ErrorKind.{ErrorKind}
use Rattle.leb128.specs.declared.Number.{Number}

abbrev pub answer_of : Result Number ErrorKind → Answer ℕ (ℕ × ℕ)
answer_of (Ok g) = ok (g.value, g.left)
answer_of (Err k) = error (number_of k)
