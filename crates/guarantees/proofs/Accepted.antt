-- Check accepts the well-formed files, and no others, with their values counted and listed.
--
-- In order: a region that was walked to its end is values (`walked_region`); a file that is accepted is well formed
-- (`accepted`); both ways (`accepts_exactly`).
use mathlib.Core.Path.{◌≡◌, refl, sym, ap, ◌∙◌, subst}
use mathlib.Core.Logic.{◌↔◌}
use Prim.Native.Nat.{ℕ, ◌≤◌}
use mathlib.Core.List.{List, [], ◌∷◌, ◌++◌, append-nil}
use native.Mathlib.Nat.{suc-ne-zero}
use native.Mathlib.Omega.{arith}
use lib.ListN.{length, length-append}
use Rattle.prelude.specs.Answer.{ok}
use Rattle.prelude.specs.Bytes.{Bytes}
use Rattle.leb128.specs.declared.Mode.{Mode}
use Rattle.values.specs.Values.{Value, region, starts, Values}
use Rattle.values.proofs.Laws.{length_starts}
use Rattle.checker_value.specs.Walk.{between, starts_from}
use Rattle.checker.specs.Check.{check_in, Checked, checked, filled, check_of}
use Rattle.guarantees.specs.Accepts.{Accepted}
use Rattle.guarantees.proofs.Files.{bytes_whole, found_ok, answer_ok}
use Rattle.guarantees.proofs.WalkTokens.{taken_next}
use Rattle.guarantees.proofs.Accepts.{accepts}
use Rattle.guarantees.proofs.WalkValues.{WalkedValues, idle, after_walked, walked_between}
use Rattle.guarantees.proofs.Ends.{Ends, walk_ends}

-- ---- a region that was walked to its end

-- s is values, with a word for each; `done` are their starts
pub record Listed (mode : Mode) (s : List ℕ) (cap : ℕ) (done : List ℕ) : Type 0 where
  pub values : List Value
  pub formed : Values mode values
  pub same : s ≡ region values
  pub starts : done ≡ starts 0 values
  pub room : length values ≤ cap

module _ (mode : Mode) (s : List ℕ) (cap : ℕ) (b : Bytes s) where
  pub walked_ends : Ends mode s cap (WalkedValues mode s) (starts_from mode s cap (between 0 []))
  unfolding region starts
  walked_ends =
      walk_ends mode s cap (WalkedValues mode s) (λ w h e i. after_walked s cap w h (taken_next mode s cap w h b e) i)
      (idle {vs = []} s (record { formed = tt; targets = tt }) refl)

  pub walked_region : (done : List ℕ) → ok done ≡ starts_from mode s cap (between 0 []) → Listed mode s cap done
  walked_region done e =
      let r = subst (Ends mode s cap (WalkedValues mode s)) (sym e) walked_ends in
      let p = walked_between s r.walk r.between r.holds in
      let long = length-append (region p.values) p.rest in
      let none : p.rest ≡ [] = length_nil p.rest (omega (arith, r.end, p.at, ap length p.same)) in
      record {
        values = p.values;
        formed = p.formed;
        same = p.same ∙ rw (none, append-nil);
        starts = sym r.same ∙ p.done;
        room = omega (arith, r.going.count, length_starts 0 p.values, ap length p.done);
      }
    where
      length_nil : (l : List ℕ) → length l ≡ 0 → l ≡ []
      length_nil [] h = refl
      length_nil (x ∷ l) h = absurd (suc-ne-zero _ h)

-- ---- the file that is accepted

pub accepted : {mode : Mode} (file : List ℕ) (cap count entry : ℕ) → Bytes file → (check_of mode file cap).answer ≡ ok (count, entry)
    → Accepted mode file cap count entry (check_of mode file cap).starts
unfolding check_of
accepted {mode} file cap count entry b e =
    answer_ok cap count entry (check_in mode file cap) e (λ done found n.
    found_ok mode file cap done entry found (λ w walked named start.
    let l = walked_region mode w.region cap (bytes_whole file w b) done walked in
    record {
      values = l.values;
      well_formed = record {
        short = w.short;
        values = l.formed;
        delta = w.delta;
        same = w.same ∙ ap (λ s. s ++ (w.delta ∷ [])) l.same;
        named = named ∙ ap length l.same;
        start = rw l.starts at start;
      };
      counted = n ∙ ap length l.starts ∙ length_starts 0 l.values;
      room = l.room;
      listed = rw (← found) (ap (filled cap) l.starts);
    }))

pub accepts_exactly : (mode : Mode) (file : List ℕ) (cap count entry : ℕ) (table : List ℕ) → Bytes file
    → (check_of mode file cap ≡ checked (ok (count, entry)) table) ↔ Accepted mode file cap count entry table
accepts_exactly mode file cap count entry table b = (
  λ e. subst (Accepted mode file cap count entry) (ap (λ (c : Checked). c.starts) e)
      (accepted file cap count entry b (ap (λ (c : Checked). c.answer) e)),
  λ a. accepts file a.values entry cap a.well_formed a.room ∙ rw (a.counted, a.listed),
)
