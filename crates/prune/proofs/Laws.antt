-- The ways through prune.
--
-- In order: a row of values; its table marked; the new file; what is left in memory.
use mathlib.Core.Path.{◌≡◌, refl, sym, ap, ◌∙◌}
use mathlib.Core.Bool.{Bool, true, false}
use mathlib.Core.List.{List, ◌++◌}
use Prim.Native.Nat.{ℕ, suc, ◌-◌, ◌/◌, ◌^◌, ◌≤◌, ◌<◌}
use native.Mathlib.Omega.{arith}
use lib.ListN.{length, take, drop, get_or, replicate, length-take, length-map, take-append-drop}
use Rattle.prelude.specs.Answer.{Answer, ok, error}
use Rattle.prelude.specs.Search.{rank}
use Rattle.prelude.proofs.Searches.{among_by, rank_at, rising_ge}
use Rattle.error.specs.Error.{Fault}
use Rattle.error.specs.declared.ErrorKind.{ErrorKind}
use Rattle.leb128.specs.declared.Mode.TheVariants.{Strict}
use Rattle.table.specs.Blocks.{Counted, Below}
use Rattle.std.specs.Prelude.{Result, Ok, Err, is_ok}
use Rattle.checker.specs.Check.{checked, check_of}
use Rattle.checker.proofs.Found.{Found, accepted as check-accepted, refused as check-refused}
use Rattle.writer_refusal.specs.Refusal.{Verdict}
use Rattle.writer.specs.Step as step
use Rattle.writer.specs.Step.{fresh}
use Rattle.prune_marks.specs.Marks.{starts_in, marks_in, kept, Indexed, Numbers}
use Rattle.prune_reach.specs.Reach.{reached}
use Rattle.prune_copy.specs.Copy.{and_on, copy_values}
use Rattle.prune.specs.Prune.{Refusal, Pruned, pruned, bad_file, no_fit, close_number, new_file, pruned_by, prune_of}
use Rattle.prune.specs.Answers.{file_answer, prune_answer}
use Rattle.prune.specs.Internal.{Row, Marked, Rebuilt, Made, made, told_by, told, cleared}
use Rattle.prune.specs.declared.NewFile.{NewFile}
use Rattle.prune.specs.declared.PruneError.{PruneError}
use Rattle.prune.specs.declared.PruneError.TheVariants.{BadFile, NoFit}

-- ---- a row of values

module _ (s ss : List ℕ) (entry : ℕ) (row : Row s ss entry) where
  pub row_below : Below (2 ^ 24) ss
  row_below k h = omega (arith, row.inside k h, row.short)

  pub row_blocks : (b : ℕ) → length s ≤ b → Below b ss
  row_blocks b h k i = omega (arith, row.inside k i)

  pub entry_lt : entry < 2 ^ 24
  entry_lt = let a = among_by entry ss row.start in omega (arith, row_below a.0 a.1, a.2)

  rank_lt : rank entry ss < length ss
  rank_lt = let a = among_by entry ss row.start in omega (arith, a.1, rank_at entry ss row.rising a.0 a.1 a.2)

  row_few : length ss ≤ length s
  row_few = omega (arith, rank_lt, rising_ge ss row.rising (length ss - 1) (omega (arith, rank_lt)), row.inside (length ss - 1) (omega (arith, rank_lt)))

  -- ---- its table marked

  module _ (blocks : List ℕ) (counted : Counted blocks ss) (t : List ℕ) (starts : starts_in t ≡ ss) where
    pub row_indexed : Indexed t blocks
    row_indexed = record { rising = rw starts row.rising; counted = rw starts counted }

    pub row_inside : Below (length s) (starts_in t)
    row_inside = rw starts row.inside

    pub row_number : (e x : ℕ) → e ≡ rank x (starts_in t) → x ≡ entry → e < length t
    row_number e x is same = omega (arith, rw (starts, same) at is, rank_lt, ap length starts, length-map t (λ w. w / 256))

    pub row_unmarked : marks_in t ≡ replicate (length ss) false → marks_in t ≡ replicate (length t) false
    row_unmarked m = let same : length t ≡ length ss = omega (arith, ap length starts, length-map t (λ w. w / 256)) in m ∙ rw same refl

    pub row_short : (u : List ℕ) → starts_in u ≡ starts_in t → length u < 2 ^ 28
    row_short u same =
        omega (arith, row_few, row.short, ap length (same ∙ starts), length-map u (λ w. w / 256))

    pub row_marked : (e x : ℕ) → e ≡ rank x (starts_in t) → x ≡ entry → (u : List ℕ) → starts_in u ≡ starts_in t → marks_in u ≡ reached s (starts_in t) e
        → (v : List ℕ) → Numbers u v → Marked s ss blocks entry v e
    row_marked e x is same u kept-starts marks v n =
        let all = n.starts ∙ kept-starts ∙ starts in
        record {
          number = rw (starts, same) at is;
          inside = omega (arith, row_number e x is same, ap length all, ap length starts, length-map t (λ w. w / 256), length-map v (λ w. w / 256));
          starts = all;
          marks = n.marks ∙ (rw starts at marks);
          ready = record { indexed = record { rising = rw all row.rising; counted = rw all counted }; numbered = n.numbered };
        }

-- ---- the new file

pub rebuilt_is : (s ss blocks : List ℕ) (entry : ℕ) (t : List ℕ) (e : ℕ) → Marked s ss blocks entry t e → (out table ss' out' table' : List ℕ)
    (r : Result NewFile ErrorKind) → ss' ≡ starts_in t → made (file_answer r) out' table' ≡ told (kept (take e (marks_in t)))
    (and_on (copy_values s (starts_in t) (marks_in t) (suc e) 0 fresh out table) (close_number (kept (take e (marks_in t)))))
    → Rebuilt s ss entry out table ss' out' table' r
unfolding new_file
rebuilt_is s ss blocks entry t e m out table ss' out' table' r same e' =
    record { same = same ∙ m.starts; made = rw (← m.number) (rw (m.starts, m.marks) at e') }

-- the starts are the first words of a table
pub file_rebuilt : (s old : List ℕ) (count entry : ℕ) (out table zeros ss' out' table' : List ℕ) (r : Result NewFile ErrorKind)
    → zeros ≡ table → Rebuilt s (take count old) entry out zeros ss' out' table' r
    → (ss' ++ drop count old ≡ old) × Rebuilt s (take count old) entry out table (take count (ss' ++ drop count old)) out' table' r
file_rebuilt s old count entry out table zeros ss' out' table' r same b =
    let whole : ss' ++ drop count old ≡ old = rw b.same (take-append-drop count old) in
    (whole, record { same = ap (take count) whole; made = rw same at b.made })

-- ---- what is left in memory

-- the answer to writing the new file, as prune's
abbrev pub as_pruned : Answer ℕ (ℕ × ℕ × ℕ) → Answer Refusal (ℕ × ℕ × ℕ)
as_pruned (ok f) = ok f
as_pruned (error n) = error (no_fit n)

-- the old table after it: 0 on an error
abbrev pub old_after : Answer ℕ (ℕ × ℕ × ℕ) → List ℕ → List ℕ
old_after (ok f) t = t
old_after (error n) t = replicate (length t) 0

module _ (file t : List ℕ) (cap : ℕ) where
  pub file_refused : (f : Fault) → checked (error f) t ≡ check_of Strict file cap → (out u : List ℕ)
      → cleared (error (bad_file f)) out t u ≡ prune_of file out cap (length u)
  unfolding prune_of
  file_refused f left out u = let e = check-refused Strict file t cap f left in rw (e.0, e.1)

  module _ (count entry : ℕ) (left : checked (ok (count, entry)) t ≡ check_of Strict file cap) where
    facts : Found Strict file t cap count entry
    facts = check-accepted Strict file t cap count entry left

    pub file_some : 1 ≤ length file
    file_some = facts.some

    pub file_fits : count ≤ length t
    file_fits = facts.fits

    pub file_row : Row (take (length file - 1) file) (take count t) entry
    file_row =
        let f = facts in
        record { short = rw length-take (omega (arith, f.some, f.short)); rising = f.rising; inside = f.inside; start = f.start }

    -- the calls that write the new file leave memory of the same lengths
    pub file_left : (out : List ℕ) (words : ℕ) (old u out' table' : List ℕ) (a : Result NewFile ErrorKind) → old ≡ old_after (file_answer a) t → length out' ≡ length out
        → length table' ≡ words → Rebuilt (take (length file - 1) file) (take count t) entry out (replicate words 0) u out' table' a
        → cleared (as_pruned (file_answer a)) out' old table' ≡ prune_of file out cap words
    unfolding prune_of
    file_left out words old u out' table' a same bytes long b = rw facts.found (by_cases _ _ _ b.made)
      where
        by_cases : (v : Verdict) (k : ℕ) (n : step.Result) → made (file_answer a) out' table' ≡ told_by v k n
            → cleared (as_pruned (file_answer a)) out' old table' ≡ pruned_by out cap words (take count t) k v n
        by_cases (ok z) k n q =
            let reported : file_answer a ≡ ok (n.writer.written, n.writer.count, get_or n.table k 0) = ap (λ (m : Made). m.answer) q in
            let kept : old ≡ t = rw reported at same in
            rw (reported, ap (λ (m : Made). m.out) q, ap (λ (m : Made). m.table) q, kept, ← facts.table) refl
        by_cases (error g) k n q =
            let reported : file_answer a ≡ error g = ap (λ (m : Made). m.answer) q in
            let zeros : old ≡ replicate (length t) 0 = rw reported at same in
            rw (reported, bytes, long, zeros, facts.long) refl

-- b is whether there is no error; on one, output and new table become 0
module _ (b : Bool) (r : Result NewFile PruneError) (is : b ≡ is_ok r) (out old new : List ℕ) (p : Pruned) (left : cleared (prune_answer r) out old new ≡ p) where
  pub memory_left : b ≡ true → pruned (prune_answer r) out old new ≡ p
  memory_left good = by_cases r (sym is ∙ good) left
    where
      by_cases : (q : Result NewFile PruneError) → is_ok q ≡ true → cleared (prune_answer q) out old new ≡ p → pruned (prune_answer q) out old new ≡ p
      by_cases (Ok f) e l = l
      by_cases (Err f) e l = cc

  pub memory_cleared : b ≡ false → (o u : List ℕ) → o ≡ replicate (length out) 0 → u ≡ replicate (length new) 0
      → pruned (prune_answer r) o old u ≡ p
  memory_cleared bad o u eo eu = by_cases r (sym is ∙ bad) left
    where
      by_cases : (q : Result NewFile PruneError) → is_ok q ≡ false → cleared (prune_answer q) out old new ≡ p → pruned (prune_answer q) o old u ≡ p
      by_cases (Ok f) e l = cc
      by_cases (Err (BadFile f)) e l = rw (eo, eu) l
      by_cases (Err (NoFit f)) e l = rw (eo, eu) l
