-- Check (document 01, "Check and depths"): the walk over the region, then the entry.
--
--   entry_at p d done      the entry that the delta byte d at offset p names, or BAD_ENTRY
--   check_in mode file cap
--                         for a table of cap words, the starts of a file's values and its entry; or the first fault
--   Checked, checked a t  an answer, and the table that it comes with
--   filled cap ws         a table of cap words: ws at the front, and zeros after them
--   listed cap a          answer and table for the outcome a of `check_in`
--   check_of mode file cap
--                         what check answers and leaves in a table of cap words: count and entry, with the starts and
--                         then zeros; or the first fault, with zeros only
use Rattle.std.specs.Prelude.{ℕ, ◌-◌, ◌&&◌, List, [], ◌++◌, eqb, ltb, length, take, get_or, replicate}
use Rattle.prelude.specs.Pick.{pick}
use Rattle.prelude.specs.Answer.{Answer, ok, error, bind}
use Rattle.prelude.specs.Search.{among}
use Rattle.error.specs.Error.{Fault, fault, LIMIT, EMPTY, TOO_LONG, BAD_ENTRY}
use Rattle.leb128.specs.declared.Mode.{Mode}
use Rattle.checker_value.specs.Walk.{between, starts_from}

unfoldable pub entry_at : ℕ → ℕ → List ℕ → Answer Fault ℕ
entry_at p d done = pick (ltb d p && among (p - d - 1) done) (ok (p - d - 1)) (error (fault BAD_ENTRY p))

unfoldable pub check_in : Mode → List ℕ → ℕ → Answer Fault ((List ℕ) × ℕ)
check_in mode file cap =
    let p = length file - 1 in
    pick (eqb (length file) 0) (error (fault EMPTY 0))
    (pick (ltb LIMIT (length file)) (error (fault TOO_LONG 0))
    (bind (starts_from mode (take p file) cap (between 0 [])) (λ done.
    bind (entry_at p (get_or file p 0) done) (λ e. ok (done, e)))))

pub record Checked : Type 0 where
  pub answer : Answer Fault (ℕ × ℕ)
  pub starts : List ℕ

abbrev pub checked : Answer Fault (ℕ × ℕ) → List ℕ → Checked
checked a t = record { answer = a; starts = t }

abbrev pub filled : ℕ → List ℕ → List ℕ
filled cap ws = ws ++ replicate (cap - length ws) 0

abbrev pub listed : ℕ → Answer Fault ((List ℕ) × ℕ) → Checked
listed cap (ok r) = checked (ok (length r.0, r.1)) (filled cap r.0)
listed cap (error e) = checked (error e) (replicate cap 0)

unfoldable pub check_of : Mode → List ℕ → ℕ → Checked
check_of mode file cap = listed cap (check_in mode file cap)
