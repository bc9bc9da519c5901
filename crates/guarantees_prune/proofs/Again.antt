-- The new file is settled (`prunes_one`), and pruning it changes nothing (`prune_again`).
--
-- In order: a well-formed file is settled by its values and its entry's number (`file_same`), and these by what is kept (`keeps_unique`, `keeps_again`).
use mathlib.Core.Path.{◌≡◌, sym, ap, ◌∙◌}
use mathlib.Core.List.{List, [], ◌∷◌, ◌++◌}
use Prim.Native.Nat.{ℕ, ◌≤◌}
use native.Mathlib.Omega.{arith}
use lib.ListN.{length, drop, get_or}
use Rattle.prelude.specs.Answer.{ok}
use Rattle.leb128.specs.declared.Mode.TheVariants.{Strict}
use Rattle.values.specs.Values.{Value, region, starts, WellFormed}
use Rattle.checker.specs.Check.{filled}
use Rattle.prune.specs.Prune.{pruned, prune_of}
use Rattle.guarantees_prune.specs.Pruned.{number, Prunes}
use Rattle.guarantees_prune.proofs.Unique.{keeps_unique, keeps_again}
use Rattle.guarantees_prune.proofs.Prunes.{entry_at, prunes}

-- the same file, values and entry
abbrev pub Same : List ℕ → List Value → ℕ → List ℕ → List Value → ℕ → Type 0
Same a vs s b ws t = (a ≡ b) × (vs ≡ ws) × (s ≡ t)

file_same : (a b : List ℕ) (vs ws : List Value) (s t : ℕ) → WellFormed Strict a vs s → WellFormed Strict b ws t
    → (vs ≡ ws) × (number vs s ≡ number ws t) → Same a vs s b ws t
file_same a b vs ws s t u w (values, entry) =
    let start : s ≡ t =
    sym (entry_at a vs s u).1 ∙ (λ i. get_or (starts 0 (values i)) (entry i) 0) ∙ (entry_at b ws t w).1 in
    let delta : u.delta ≡ w.delta = omega (arith, u.named, w.named, ap (λ l. length (region l)) values) in
    (u.same ∙ (λ i. region (values i) ++ (delta i ∷ [])) ∙ sym w.same, values, start)

pub prunes_one : (file : List ℕ) (vs : List Value) (entry cap : ℕ) (out : List ℕ) (words cap' : ℕ) (out' : List ℕ) (words' : ℕ)
    → (p : Prunes file vs entry cap out words) (q : Prunes file vs entry cap' out' words')
    → Same p.new p.values p.new_entry q.new q.values q.new_entry
prunes_one file vs entry cap out words cap' out' words' p q =
    file_same _ _ _ _ _ _ p.well_formed q.well_formed
    (keeps_unique vs (number vs entry) _ _ _ _ p.well_formed.values q.well_formed.values p.keeps q.keeps)

pub prune_again : (file : List ℕ) (vs : List Value) (entry cap : ℕ) (out : List ℕ) (words : ℕ) → WellFormed Strict file vs entry
    → (p : Prunes file vs entry cap out words) (out' : List ℕ) (cap' words' : ℕ)
    → length p.new ≤ length out' → length p.values ≤ cap' → length p.values ≤ words'
    → prune_of p.new out' cap' words'
    ≡ pruned (ok (length p.new, length p.values, p.new_entry)) (p.new ++ drop (length p.new) out')
    (filled cap' (starts 0 p.values)) (filled words' (starts 0 p.values))
prune_again file vs entry cap out words w p out' cap' words' long old many =
    let q = prunes p.new p.values p.new_entry cap' p.bytes p.well_formed old out' words' in
    let same = keeps_again vs (number vs entry) _ _ _ _ w.values p.well_formed.values q.well_formed.values (entry_at file vs entry w).0
    p.keeps q.keeps in
    let (new, values, start) = file_same _ _ _ _ _ _ p.well_formed q.well_formed same in
    q.accepted (rw (← new) long) (rw (← values) many) ∙ rw (← new, ← values, ← start)
