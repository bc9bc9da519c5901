-- All of prune's answers.
--
-- In order: what check refuses, prune refuses with the same fault and place (`prune_refused`); of any bytes, it is refused so, or is a well-formed file
-- of which prune leaves what `Prunes` says (`prune_exactly`); an error comes with zeros in all that was lent (`prune_zero`).
use mathlib.Core.Path.{◌≡◌, refl, ap}
use mathlib.Core.Logic.{◌⊎◌, inl, inr}
use mathlib.Core.List.{List}
use Prim.Native.Nat.{ℕ, ◌≤◌}
use native.Mathlib.Omega.{arith}
use lib.ListN.{length, take, replicate}
use Rattle.prelude.specs.Answer.{Answer, ok, error}
use Rattle.prelude.specs.Bytes.{Bytes}
use Rattle.prelude.specs.Search.{rank}
use Rattle.error.specs.Error.{Fault}
use Rattle.leb128.specs.declared.Mode.TheVariants.{Strict}
use Rattle.values.specs.Values.{Value, WellFormed}
use Rattle.checker.specs.Check.{check_in, check_of}
use Rattle.writer_refusal.specs.Refusal.{Verdict}
use Rattle.writer.specs.Step.{Result}
use Rattle.guarantees.proofs.Files.{answer_error}
use Rattle.guarantees.proofs.Accepted.{accepted}
use Rattle.prune_marks.specs.Marks.{kept}
use Rattle.prune_reach.specs.Reach.{reached}
use Rattle.prune.specs.Prune.{Refusal, bad_file, refused, new_file, pruned_by, prune_in, prune_of}
use Rattle.guarantees_prune.specs.Pruned.{Prunes}
use Rattle.guarantees_prune.proofs.Prunes.{prunes}

answer_by : {E A X : Type 0} (r : Answer E A) → ((e : E) → r ≡ error e → X) → ((a : A) → r ≡ ok a → X) → X
answer_by (ok a) f g = g a refl
answer_by (error e) f g = f e refl

module _ (file out : List ℕ) (cap words : ℕ) where
  pub prune_refused : (f : Fault) → (check_of Strict file cap).answer ≡ error f → prune_of file out cap words ≡ refused out cap words (bad_file f)
  unfolding check_of prune_of
  prune_refused f e = rw (← answer_error cap f (check_in Strict file cap) e)

  pub prune_exactly : Bytes file
      → ((f : Fault) × ((check_of Strict file cap).answer ≡ error f) × (prune_of file out cap words ≡ refused out cap words (bad_file f)))
      ⊎ ((vs : List Value) × (entry : ℕ) × WellFormed Strict file vs entry × (length vs ≤ cap) × Prunes file vs entry cap out words)
  prune_exactly b =
      answer_by (check_of Strict file cap).answer (λ f e. inl (f, e, prune_refused f e))
      (λ r e. let a = accepted file cap r.0 r.1 b e in
      inr (a.values, r.1, a.well_formed, a.room, prunes file a.values r.1 cap b a.well_formed a.room out words))

  by_verdict : (ss : List ℕ) (k : ℕ) (v : Verdict) (r : Result) (f : Refusal) → (pruned_by out cap words ss k v r).answer ≡ error f
      → pruned_by out cap words ss k v r ≡ refused out cap words f
  by_verdict ss k (ok u) r f e = let z : ◌≡◌ {A = ℕ} 0 1 = cc in absurd (omega arith)
  by_verdict ss k (error g) r f e = ap (refused out cap words) cc

  by_check : (s : List ℕ) (a : Answer Fault ((List ℕ) × ℕ)) (f : Refusal) → (prune_in out cap words s a).answer ≡ error f
      → prune_in out cap words s a ≡ refused out cap words f
  by_check s (ok c) f e =
      let i = rank c.1 c.0 in
      let r = new_file s c.0 i out (replicate words 0) in
      by_verdict c.0 (kept (take i (reached s c.0 i))) r.answer r f e
  by_check s (error g) f e = ap (refused out cap words) cc

  pub prune_zero : (f : Refusal) → (prune_of file out cap words).answer ≡ error f → prune_of file out cap words ≡ refused out cap words f
  unfolding prune_of
  prune_zero f e = by_check _ (check_in Strict file cap) f e
