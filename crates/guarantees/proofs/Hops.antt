-- In a well-formed file, following reaches a value that is not a pointer, in at most j hops from value number j
-- (document 01, "Questions at an offset").
--
-- In order: following stops at a token that is not a pointer (`hops_none`), and a pointer leads where its target leads,
-- by one hop more (`follows_pointer`); a pointer's target is a value before the one that it is or is in, so following
-- from it reaches such a value (`hops_pointer`), and so does following from a value (`hops`).
use mathlib.Core.Path.{◌≡◌, refl, sym, ap, ◌∙◌, subst}
use mathlib.Core.List.{List, ◌∷◌, ◌++◌}
use Prim.Native.Nat.{ℕ, zero, suc, ◌+◌, ◌-◌, ◌<◌}
use native.Mathlib.Decide.{ℕ_discrete}
use native.Mathlib.Nat.{le_refl}
use native.Mathlib.Omega.{arith}
use lib.ListN.{length, get_or, length-append, get_or-append}
use Rattle.prelude.specs.Answer.{ok}
use Rattle.prelude.proofs.Readers.{bind_ok}
use Rattle.prelude.proofs.Searches.{among_by}
use Rattle.leb128.specs.declared.Mode.{Mode}
use Rattle.token.specs.Token.{Token}
use Rattle.scan.proofs.Places.{head_at}
use Rattle.values.specs.Values.{Value, region, starts, WellFormed}
use Rattle.values.proofs.Laws.{value_number, start_of, length_starts, starts_append}
use Rattle.reader_follow.specs.Follow.{follow_in, follow_of}
use Rattle.reader_follow.proofs.Laws.{follow_from_end}
use Rattle.guarantees.specs.Places.{TokenAt, FollowsTo, further}
use Rattle.guarantees.proofs.Pointers.{follow_pointer}
use Rattle.guarantees.proofs.ReadsFile.{in_region_is, within, peeked, target_met, head_token_at}

pub starts_before : (vs a b : List Value) (i : ℕ) → vs ≡ a ++ b → i < length (starts 0 a) → get_or (starts 0 vs) i 0 ≡ get_or (starts 0 a) i 0
starts_before vs a b i e h = rw (e, starts_append 0 a b) (get_or-append (starts 0 a) _ 0 i h)

module _ {mode : Mode} (file : List ℕ) (vs : List Value) (entry : ℕ) (w : WellFormed mode file vs entry) where
  module _ (j q : ℕ) (t : Token) (st : TokenAt vs j q t) where
    follows : follow_of mode file q ≡ follow_in mode (region vs) q
    follows = in_region_is file vs entry w (λ s. follow_in mode s q) q (within file vs entry w j q t st)

    pub hops_none : (t.kind ≡ 15 → ⊥) → follow_of mode file q ≡ ok (q, 0)
    unfolding follow_in
    hops_none k = follows ∙ sym (bind_ok _ (follow_from_end mode (region vs) q 0 (head_at q t) (peeked file vs entry w j q t st) k) refl)

    module _ (k : t.kind ≡ 15) where
      pub follows_pointer : follow_of mode file q ≡ further (follow_of mode file (q - t.n - 1))
      follows_pointer =
          let p = q - t.n - 1 in
          let there = in_region_is file vs entry w (λ s. follow_in mode s p) p (omega (arith, within file vs entry w j q t st)) in
          follows ∙ follow_pointer mode (region vs) q (head_at q t) (peeked file vs entry w j q t st) k ∙ ap further (sym there)

      -- the number of the target
      pub target : (i : ℕ) × (i < j) × (get_or (starts 0 vs) i 0 ≡ q - t.n - 1)
      target =
          let (i, i<, e) = among_by (q - t.n - 1) (starts 0 st.before) (target_met file vs entry w j q t st (omega arith)).1 in
          (i, omega (arith, length_starts 0 st.before, st.numbered), starts_before vs st.before (st.value ∷ st.after) i st.values i< ∙ e)

      -- one hop more
      hop : (i : ℕ) → i < j → get_or (starts 0 vs) i 0 ≡ q - t.n - 1 → FollowsTo mode file vs i (get_or (starts 0 vs) i 0)
          → FollowsTo mode file vs j q
      hop i less e c = record {
        before = c.before;
        value = c.value;
        after = c.after;
        values = c.values;
        number = c.number;
        numbered = c.numbered;
        other = c.other;
        hops = c.hops + 1;
        follows = follows_pointer ∙ ap further (rw e at c.follows);
        falls = omega (arith, c.falls);
      }

      through : ((i : ℕ) → i < j → FollowsTo mode file vs i (get_or (starts 0 vs) i 0)) → FollowsTo mode file vs j q
      through more = let (i, less, e) = target in hop i less e (more i less)

  by_value : (a : List Value) (v : Value) (b : List Value) → vs ≡ a ++ (v ∷ b)
      → ((i : ℕ) → i < length a → FollowsTo mode file vs i (get_or (starts 0 vs) i 0)) → FollowsTo mode file vs (length a) (get_or (starts 0 vs) (length a) 0)
  by_value a v b e more =
      let st = head_token_at vs a v b e in
      let at : get_or (starts 0 vs) (length a) 0 ≡ length (region a) = rw e (start_of a v b) in
      elim (ℕ_discrete v.head.kind 15) [
        | yes k ↦ rw at (through (length a) (length (region a)) v.head st k more)
        | no k ↦ record {
          before = a;
          value = v;
          after = b;
          values = e;
          number = length a;
          numbered = refl;
          other = k;
          hops = 0;
          follows = rw at (hops_none (length a) (length (region a)) v.head st k);
          falls = omega arith;
        }
      ]

  come : (f j : ℕ) → j < f → j < length vs → FollowsTo mode file vs j (get_or (starts 0 vs) j 0)
  come zero j l h = absurd (omega arith)
  come (suc f) j l h =
      let p = value_number vs j h in
      subst (λ n. FollowsTo mode file vs n (get_or (starts 0 vs) n 0)) p.number
      (by_value p.before p.value p.after p.same (λ i less. come f i (omega (arith, p.number)) (omega (arith, p.number))))

  pub hops : (j : ℕ) → j < length vs → FollowsTo mode file vs j (get_or (starts 0 vs) j 0)
  hops j h = come (suc j) j (le_refl _) h

  -- from a pointer that is value number j, or an item of it
  pub hops_pointer : (j q : ℕ) (t : Token) (st : TokenAt vs j q t) → t.kind ≡ 15 → FollowsTo mode file vs j q
  hops_pointer j q t st k =
      let long = ap length st.values ∙ length-append st.before (st.value ∷ st.after) in
      through j q t st k (λ i less. hops i (omega (arith, st.numbered)))
