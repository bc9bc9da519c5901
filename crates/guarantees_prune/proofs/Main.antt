-- The theorems of prune (W-204), restated; each is a citation. docs/GUARANTEES.md quotes these statements, and reads them aloud.
--
-- What prune leaves of a well-formed file; that this settles the new values and the new file; that pruning the new file changes nothing; what prune refuses,
-- and that there is no other answer; that an error comes with zeros; samples.
use mathlib.Core.Path.{◌≡◌}
use mathlib.Core.Logic.{◌⊎◌}
use mathlib.Core.List.{List, ◌++◌, map}
use Prim.Native.Nat.{ℕ, ◌≤◌}
use lib.ListN.{length, drop}
use Rattle.prelude.specs.Answer.{ok, error}
use Rattle.prelude.specs.Bytes.{Bytes}
use Rattle.error.specs.Error.{Fault}
use Rattle.leb128.specs.declared.Mode.TheVariants.{Strict}
use Rattle.values.specs.Values.{Value, starts, Values, WellFormed}
use Rattle.checker.specs.Check.{filled, check_of}
use Rattle.prune.specs.Prune.{Refusal, bad_file, pruned, refused, prune_of}
use Rattle.guarantees_prune.specs.Pruned.{Keeps, Prunes}
use Rattle.guarantees_prune.specs.Samples.{Sample, prune_sample, samples, refusals}
use Rattle.guarantees_prune.proofs.Unique as unique
use Rattle.guarantees_prune.proofs.Prunes as leaves
use Rattle.guarantees_prune.proofs.Again as again
use Rattle.guarantees_prune.proofs.Answers as answers
use Rattle.guarantees_prune.proofs.Samples as sampled

-- ---- what prune leaves

pub prunes : (file : List ℕ) (vs : List Value) (entry cap : ℕ) → Bytes file → WellFormed Strict file vs entry → length vs ≤ cap → (out : List ℕ) (words : ℕ)
    → Prunes file vs entry cap out words
prunes = leaves.prunes

pub keeps_unique : (vs : List Value) (e : ℕ) (ws : List Value) (f : ℕ) (xs : List Value) (g : ℕ) → Values Strict ws → Values Strict xs
    → Keeps vs e ws f → Keeps vs e xs g → (ws ≡ xs) × (f ≡ g)
keeps_unique = unique.keeps_unique

-- the new file does not depend on the memory that is lent
pub prunes_one : (file : List ℕ) (vs : List Value) (entry cap : ℕ) (out : List ℕ) (words cap' : ℕ) (out' : List ℕ) (words' : ℕ)
    → (p : Prunes file vs entry cap out words) (q : Prunes file vs entry cap' out' words')
    → (p.new ≡ q.new) × (p.values ≡ q.values) × (p.new_entry ≡ q.new_entry)
prunes_one = again.prunes_one

pub prune_again : (file : List ℕ) (vs : List Value) (entry cap : ℕ) (out : List ℕ) (words : ℕ) → WellFormed Strict file vs entry
    → (p : Prunes file vs entry cap out words) (out' : List ℕ) (cap' words' : ℕ)
    → length p.new ≤ length out' → length p.values ≤ cap' → length p.values ≤ words'
    → prune_of p.new out' cap' words'
    ≡ pruned (ok (length p.new, length p.values, p.new_entry)) (p.new ++ drop (length p.new) out')
    (filled cap' (starts 0 p.values)) (filled words' (starts 0 p.values))
prune_again = again.prune_again

-- ---- what prune refuses

pub prune_refused : (file out : List ℕ) (cap words : ℕ) (f : Fault) → (check_of Strict file cap).answer ≡ error f
    → prune_of file out cap words ≡ refused out cap words (bad_file f)
prune_refused = answers.prune_refused

pub prune_exactly : (file out : List ℕ) (cap words : ℕ) → Bytes file
    → ((f : Fault) × ((check_of Strict file cap).answer ≡ error f) × (prune_of file out cap words ≡ refused out cap words (bad_file f)))
    ⊎ ((vs : List Value) × (entry : ℕ) × WellFormed Strict file vs entry × (length vs ≤ cap) × Prunes file vs entry cap out words)
prune_exactly = answers.prune_exactly

pub prune_zero : (file out : List ℕ) (cap words : ℕ) (f : Refusal) → (prune_of file out cap words).answer ≡ error f
    → prune_of file out cap words ≡ refused out cap words f
prune_zero = answers.prune_zero

-- ---- samples

pub the_prunings : (map prune_sample samples ≡ map (λ (s : Sample). s.leaves) samples) × (map prune_sample refusals ≡ map (λ (s : Sample). s.leaves) refusals)
the_prunings = sampled.the_prunings
