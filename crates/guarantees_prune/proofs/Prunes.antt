-- What prune leaves of a well-formed file (`prunes`).
--
-- In order: the entry's number (`entry_at`); the marks are exactly what the entry reaches (`marks_exactly`); the new file is well formed, keeps just that and
-- is bytes (`new_formed`, `new_keeps`, `new_bytes`); prune is the calls of the new file up to the first refused one (`prune_is`), with enough memory and with
-- too little (`new_written`, `new_refused`).
use mathlib.Core.Path.{◌≡◌, refl, ap, subst, ◌∙◌}
use mathlib.Core.Logic.{◌⊎◌, ◌↔◌}
use mathlib.Core.Bool.{Bool, true, false}
use mathlib.Core.List.{List, [], ◌∷◌, ◌++◌}
use Prim.Native.Nat.{ℕ, suc, ◌-◌, ◌≤◌, ◌<◌}
use native.Mathlib.Omega.{arith}
use lib.ListN.{length, take, drop, get_or, replicate, length-append, get_or-append}
use lib.Seq.{take_all}
use Rattle.prelude.specs.Answer.{ok}
use Rattle.prelude.specs.Bytes.{Bytes}
use Rattle.prelude.proofs.Searches.{among_at, rising_ge}
use Rattle.prelude.proofs.Parts.{bytes_after, bytes_front}
use Rattle.leb128.specs.declared.Mode.TheVariants.{Strict}
use Rattle.values.specs.Values.{Value, region, starts, Values, WellFormed}
use Rattle.values.specs.Paths.{Leads}
use Rattle.values.proofs.Laws.{length_starts}
use Rattle.values.proofs.Depths.{number_start}
use Rattle.checker.specs.Check.{filled}
use Rattle.writer.specs.Step.{fresh, Result}
use Rattle.writer.specs.Runs.{runs}
use Rattle.guarantees.specs.Rewrites.{rewriting}
use Rattle.guarantees.proofs.Files.{Whole, region_whole}
use Rattle.guarantees.proofs.Accepts.{finds, accepts}
use Rattle.prune_marks.specs.Marks.{kept}
use Rattle.prune_reach.specs.Reach.{aims_at, reached}
use Rattle.prune.specs.Prune.{pruned, refused, no_fit, pruned_by, prune_of}
use Rattle.guarantees_prune.specs.Pruned.{number, Reached, Keeps, FirstError, Prunes}
use Rattle.guarantees_prune.specs.Internal.{marks_of, pruned_values, pruned_start, pruned_file}
use Rattle.guarantees_prune.proofs.Sweep.{length_sweep, length_single}
use Rattle.guarantees_prune.proofs.Reached.{reached_here, reached_on, reached_le, sweep_reached}
use Rattle.guarantees_prune.proofs.Live.{number_lt, keeps_live}
use Rattle.guarantees_prune.proofs.Heads.{aims_leads}
use Rattle.guarantees_prune.proofs.Kept.{kept_allowed, kept_shorter, kept_entry, kept_keeps}
use Rattle.guarantees_prune.proofs.Runs.{run_until, until_ok, until_error}
use Rattle.guarantees_prune.proofs.Memory.{OfMemory, file_written, file_refused}
use Rattle.guarantees_prune.proofs.Calls.{new_file_is}
use Rattle.guarantees_prune.proofs.Bytes.{bytes_join, kept_bytes}

module _ (file : List ℕ) (vs : List Value) (entry : ℕ) (w : WellFormed Strict file vs entry) where
  abbrev ss : List ℕ
  ss = starts 0 vs

  -- the number of the entry
  abbrev e : ℕ
  e = number vs entry

  abbrev ms : List Bool
  ms = marks_of vs entry

  abbrev ws : List Value
  ws = pruned_values vs entry

  -- the new number of the entry
  abbrev f : ℕ
  f = kept (take e ms)

  abbrev start : ℕ
  start = pruned_start vs entry

  abbrev new : List ℕ
  new = pruned_file vs entry

  -- ---- the marks

  pub entry_at : (e < length vs) × (get_or ss e 0 ≡ entry)
  entry_at = number_lt vs (length vs) entry (rw (take_all (length vs) ss (omega (arith, length_starts 0 vs))) w.start)

  marks_exactly : (i : ℕ) → (get_or ms i false ≡ true) ↔ Reached vs e i
  unfolding reached
  marks_exactly i = rw (length_starts 0 vs) (sweep_reached vs w.values e entry_at.0 (aims_at (region vs) ss) (aims_leads vs w.values) i)

  length_marks : length ms ≡ length vs
  unfolding reached
  length_marks = length_sweep (aims_at (region vs) ss) (suc e) _ ∙ length_single (length ss) e ∙ length_starts 0 vs

  marks_closed : (i j : ℕ) → get_or ms i false ≡ true → Leads vs i j → get_or ms j false ≡ true
  marks_closed i j m l = (marks_exactly j).1 (reached_on vs ((marks_exactly i).0 m) l)

  entry_marked : get_or ms e false ≡ true
  entry_marked = (marks_exactly e).1 (reached_here vs e)

  -- ---- the new file

  values_of_new : Values Strict ws
  unfolding pruned_values
  values_of_new = kept_allowed vs w.values ms marks_closed

  keeps : Keeps vs e ws f
  unfolding pruned_values
  keeps = kept_keeps vs w.values ms marks_closed length_marks e entry_marked marks_exactly

  f< : f < length ws
  f< = omega (arith, keeps.many, keeps.entry.0)

  number_of_new : number ws start ≡ f
  unfolding pruned_start
  number_of_new = number_start ws values_of_new f f<

  new_keeps : Keeps vs e ws (number ws start)
  new_keeps = rw number_of_new keeps

  start_near : (start < length (region ws)) × (length (region ws) - start - 1 ≤ w.delta)
  unfolding pruned_values pruned_start
  start_near = kept_entry vs w.values ms marks_closed e entry w.delta entry_at.0 entry_marked entry_at.1 w.named

  new_shorter : length new ≤ length file
  unfolding pruned_values pruned_file
  new_shorter =
      let less = kept_shorter vs w.values ms marks_closed in
      let old = length-append (region vs) (w.delta ∷ []) in
      let long = length-append (region ws) ((length (region ws) - start - 1) ∷ []) in
      omega (arith, ap length w.same)

  new_fewer : length ws ≤ length vs
  new_fewer =
      let ks = keeps.kept in
      let last = length ks - 1 in
      let inside : last < length ks = omega (arith, keeps.entry.0) in
      let top = reached_le vs w.values e entry_at.0 (get_or ks last 0) ((keeps.exactly (get_or ks last 0)).0 (among_at _ ks last inside refl)) in
      omega (arith, keeps.many, rising_ge ks keeps.rising last inside, top, entry_at.0)

  new_formed : WellFormed Strict new ws start
  unfolding pruned_file pruned_start
  new_formed = record {
    short = omega (arith, new_shorter, w.short);
    values = values_of_new;
    delta = length (region ws) - start - 1;
    same = refl;
    named = omega (arith, start_near);
    start = among_at start (starts 0 ws) f (omega (arith, f<, length_starts 0 ws)) refl;
  }

  module _ (b : Bytes file) where
    region_bytes : Bytes (region ws)
    unfolding pruned_values
    region_bytes = kept_bytes ss ms vs (bytes_front (region vs) (w.delta ∷ []) (subst Bytes w.same b)) values_of_new

    new_bytes : Bytes new
    unfolding pruned_file
    new_bytes =
        let delta = (bytes_after (region vs) (w.delta ∷ []) (subst Bytes w.same b)).0 in
        bytes_join (region ws) ((length (region ws) - start - 1) ∷ []) region_bytes (omega (arith, start_near), tt)

    -- ---- what prune answers

    module _ (cap : ℕ) (room : length vs ≤ cap) (out : List ℕ) (words : ℕ) where
      abbrev until : Result
      until = run_until (rewriting ws start) fresh out (replicate words 0)

      prune_is : prune_of file out cap words ≡ pruned_by out cap words ss f until.answer until
      unfolding prune_of pruned_values pruned_start
      prune_is =
          let whole : Whole file = record { region = region vs; delta = w.delta; short = w.short; same = w.same } in
          let top : (j : ℕ) → get_or ms j false ≡ true → j ≤ e = λ j m. reached_le vs w.values e entry_at.0 j ((marks_exactly j).0 m) in
          let calls = new_file_is vs w.values e entry_at.0 out words top values_of_new region_bytes in
          rw (region_whole file whole, ← finds file vs entry cap w room, calls)

      new_written : length new ≤ length out → length ws ≤ words
          → prune_of file out cap words
          ≡ pruned (ok (length new, length ws, start)) (new ++ drop (length new) out) (filled cap ss) (filled words (starts 0 ws))
      unfolding pruned_start
      new_written long many =
          let r = file_written new ws start new_formed new_bytes out words long many in
          let word : get_or (filled words (starts 0 ws)) f 0 ≡ start = get_or-append (starts 0 ws) _ 0 f (omega (arith, f<, length_starts 0 ws)) in
          prune_is ∙ rw (until_ok (rewriting ws start) fresh out (replicate words 0) r.accepted, r.written, r.count, r.bytes, r.table, word)

      new_refused : (length out < length new) ⊎ (words < length ws) → (x : ℕ)
          × FirstError x (runs (rewriting ws start) fresh out (replicate words 0)).answers × OfMemory x
          × (prune_of file out cap words ≡ refused out cap words (no_fit x))
      new_refused short =
          let (x, first, memory) = file_refused new ws start new_formed new_bytes out words short in
          (x, first, memory, prune_is ∙ rw (until_error (rewriting ws start) fresh out (replicate words 0) x first))

pub prunes : (file : List ℕ) (vs : List Value) (entry cap : ℕ) → Bytes file → WellFormed Strict file vs entry → length vs ≤ cap → (out : List ℕ) (words : ℕ)
    → Prunes file vs entry cap out words
prunes file vs entry cap b w room out words = record {
  values = pruned_values vs entry;
  new = pruned_file vs entry;
  new_entry = pruned_start vs entry;
  bytes = new_bytes file vs entry w b;
  well_formed = new_formed file vs entry w;
  keeps = new_keeps file vs entry w;
  live = keeps_live vs w.values _ (values_of_new file vs entry w) _ _ (entry_at file vs entry w).0 (new_keeps file vs entry w);
  shorter = new_shorter file vs entry w;
  fewer = new_fewer file vs entry w;
  accepted = new_written file vs entry w b cap room out words;
  calls = λ long many. (file_written _ _ _ (new_formed file vs entry w) (new_bytes file vs entry w b) out words long many).accepted;
  old_table = accepts file vs entry cap w room;
  new_table = accepts _ _ _ words (new_formed file vs entry w);
  decided = new_refused file vs entry w b cap room out words;
}
