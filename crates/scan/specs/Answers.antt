-- What the answer of `scan` means.
--
--   answer_of r           a result of `scan` in document 01's terms: the head, or the error's number and place
--   head_of len r         what was scanned, by offsets of a region of len bytes: `first` is just after the numbers,
--                        `end` just after the body
--   scan_at mode inner s at
--                        the token at the offset `at` of the region s, as an item (NESTED) if `inner` is true
--   body_on s h           the bytes of the body of a token with head h in the region s
use Rattle.std.specs.Prelude.{ℕ, ◌-◌, Bool, List, Result, length, take, drop}
use Rattle.prelude.specs.Answer.{Answer, ok, error, Res, got, bad}
use Rattle.error.specs.Error.{Fault, answered}
use Rattle.error.specs.declared.Error.{Error}
use Rattle.leb128.specs.declared.Mode.{Mode}
use Rattle.kind.specs.Kind.{rule, pending}
use Rattle.token.specs.Token.{Token}
use Rattle.token.specs.Scan.{scan}
use Rattle.scan.specs.declared.Head.{Head}

abbrev pub answer_of : Result Head Error → Answer Fault Head
answer_of = answered (λ h. h)

unfoldable pub head_of : ℕ → Res Fault Token → Answer Fault Head
head_of len (got t rest) = ok (record {
  kind = t.kind;
  n = t.n;
  items = pending (rule t.kind) t.n t.args;
  first = len - length rest - length t.body;
  end = len - length rest;
})
head_of len (bad e) = error e

unfoldable pub scan_at : Mode → Bool → List ℕ → ℕ → Answer Fault Head
scan_at mode inner s at = head_of (length s) (scan mode inner at (drop at s))

abbrev pub body_on : List ℕ → Head → List ℕ
body_on s h = take (h.end - h.first) (drop h.first s)
