-- Prune (W-204).
--
--   Refusal            why a file is not pruned: check refuses it, with a place; or the writer refuses a call of the new file, without one
--   Pruned, pruned a out old new
--                      an answer, and the output and the two tables of starts that it comes with
--   refused out cap words f
--                      the refusal f, with zeros in the output and in both tables
--   close_number k w out table
--                      a close at the value that is listed in word number k of the table
--   new_file s ss e out table
--                      what is left of this output and table by the calls of a new writer that write what value number e reaches, of the values of the
--                      region s, which start at ss, and close at it; the first refused one decides
--   pruned_by out cap words ss k v r
--                      the answer and the memory after these calls left r with the verdict v, if the entry is then value number k
--   prune_in out cap words s a
--                      the same for the outcome a of `check_in` on a file with the region s
--   prune_of file out cap words
--                      what prune answers and leaves in the output `out`, an old table of cap words and a new one of `words`: check's refusals first; then the
--                      writer's; else the new file's length, count and entry, with the output and the new table as the calls leave them, and the old table
--                      as check does
use Rattle.std.specs.Prelude.{ℕ, suc, ◌-◌, List, length, take, get_or, replicate}
use Rattle.prelude.specs.Answer.{Answer, ok, error}
use Rattle.prelude.specs.Search.{rank}
use Rattle.error.specs.Error.{Fault}
use Rattle.leb128.specs.declared.Mode.TheVariants.{Strict}
use Rattle.checker.specs.Check.{check_in, filled}
use Rattle.writer_refusal.specs.Refusal.{Verdict}
use Rattle.writer_refusal.specs.declared.State.{State}
use Rattle.writer.specs.Step.{fresh, close_at, Result}
use Rattle.prune_marks.specs.Marks.{kept}
use Rattle.prune_reach.specs.Reach.{reached}
use Rattle.prune_copy.specs.Copy.{and_on, copy_values}

pub data Refusal : Type 0 where
  bad_file : Fault → Refusal
  no_fit : ℕ → Refusal

pub record Pruned : Type 0 where
  pub answer : Answer Refusal (ℕ × ℕ × ℕ)
  pub out : List ℕ
  pub old : List ℕ
  pub new : List ℕ

abbrev pub pruned : Answer Refusal (ℕ × ℕ × ℕ) → List ℕ → List ℕ → List ℕ → Pruned
pruned a out old new = record { answer = a; out = out; old = old; new = new }

abbrev pub refused : List ℕ → ℕ → ℕ → Refusal → Pruned
refused out cap words f = pruned (error f) (replicate (length out) 0) (replicate cap 0) (replicate words 0)

abbrev pub close_number : ℕ → State → List ℕ → List ℕ → Result
close_number k w out table = close_at (get_or table k 0) w out table

-- value number e becomes the last of the new file, and its entry
unfoldable pub new_file : List ℕ → List ℕ → ℕ → List ℕ → List ℕ → Result
new_file s ss e out table =
    let ms = reached s ss e in
    and_on (copy_values s ss ms (suc e) 0 fresh out table) (close_number (kept (take e ms)))

module _ (out : List ℕ) (cap words : ℕ) where
  abbrev pub pruned_by : List ℕ → ℕ → Verdict → Result → Pruned
  pruned_by ss k (ok u) r = pruned (ok (r.writer.written, r.writer.count, get_or r.table k 0)) r.out (filled cap ss) r.table
  pruned_by ss k (error f) r = refused out cap words (no_fit f)

  abbrev pub prune_in : List ℕ → Answer Fault ((List ℕ) × ℕ) → Pruned
  prune_in s (ok c) =
      let ss = c.0 in
      let e = rank c.1 ss in
      let r = new_file s ss e out (replicate words 0) in
      pruned_by ss (kept (take e (reached s ss e))) r.answer r
  prune_in s (error f) = refused out cap words (bad_file f)

unfoldable pub prune_of : List ℕ → List ℕ → ℕ → ℕ → Pruned
prune_of file out cap words = prune_in out cap words (take (length file - 1) file) (check_in Strict file cap)
