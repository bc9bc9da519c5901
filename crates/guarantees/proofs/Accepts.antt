-- Check accepts every well-formed file for which there are enough words.
--
-- In order: the walk over items of a value (`walks_items`), its head and items so far (`walks_open`), a value
-- (`walks_value`), values before any bytes (`walks_prefix`), for a property of the walk that goes backward; what it yields over values alone
-- (`walks_all`); the file (`finds`, `accepts`).
use mathlib.Core.Path.{◌≡◌, sym, ◌∙◌}
use Prim.Native.Nat.{ℕ, suc, ◌+◌, ◌≤◌, ◌<◌}
use mathlib.Core.Bool.{false}
use mathlib.Core.List.{List, [], ◌∷◌, ◌++◌, append_assoc, append-nil}
use native.Mathlib.Nat.{add-zero, zero-add}
use native.Mathlib.Omega.{arith}
use borrow.Author.Tests.{lt-ltb, le-leb}
use lib.ListN.{length, drop, length-append}
use lib.Seq.{append_snoc}
use Rattle.prelude.specs.Answer.{ok}
use Rattle.prelude.specs.Each.{Each}
use Rattle.prelude.proofs.Readers.{bind_ok}
use Rattle.prelude.proofs.Parts.{drop_past, length_past}
use Rattle.leb128.specs.declared.Mode.{Mode}
use Rattle.kind.specs.Kind.{rule, pending}
use Rattle.token.specs.Token.{Token, emit, Fits}
use Rattle.utf8.specs.Text.{Text}
use Rattle.values.specs.Values.{Value, tokens, bytes, region, starts, Item, Formed, HasTargets, TargetsEarlier, Values, WellFormed}
use Rattle.values.proofs.Laws.{length_starts, fits_item, fits_head}
use Rattle.checker_value.specs.Walk.{Walk, between, starts_from}
use Rattle.checker.specs.Check.{check_in, checked, filled, check_of}
use Rattle.checker_value.proofs.Walks.{walk_end}
use Rattle.guarantees.proofs.Files.{Whole, entered, check_in_whole, entered_named}
use Rattle.guarantees.proofs.WalkTokens.{TakenToken, settled, due_suc, Backward, starts_backward, walk_taken}

-- ---- values

module _ (mode : Mode) (s : List ℕ) (cap : ℕ) (P : Walk → Type 0) (back : Backward mode s cap P) where
  -- the items `is`, with k more pending after them
  walks_items : (done : List ℕ) (start at k : ℕ) (is : List Token) (rest : List ℕ) → drop at s ≡ bytes is ++ rest → Each (Item mode) is → HasTargets done at is
      → P (settled start done (at + length (bytes is)) k) → P (settled start done at (length is + k))
  unfolding bytes
  walks_items done start at k [] rest same f a p = rw zero-add (rw add-zero at p)
  walks_items done start at k (i ∷ is) rest same f a p =
      let here = same ∙ append_assoc (emit i) (bytes is) rest in
      let left : length (i ∷ is) + k ≡ suc (length is + k) = omega arith in
      let st : TakenToken mode s cap (settled start done at (suc (length is + k))) i (bytes is ++ rest) = record {
        same = here;
        fits = rw (lt-ltb 0 (suc (length is + k)) (omega arith)) (fits_item i f.0 (bytes is ++ rest));
        text = f.0.sound.text;
        target = a.0;
        word = λ e. absurd (omega arith);
      } in
      rw left (walk_taken s cap P back _ i (bytes is ++ rest) (length is + k) st (due_suc (length is + k) _)
      (walks_items done start (at + length (emit i)) k is rest (drop_past s at (emit i) _ here) f.1 a.1
      (rw (length_past at (emit i) (bytes is)) at p)))

  -- a head and the items `is`, with k more pending after them
  pub walks_open : (done : List ℕ) (at k : ℕ) (t : Token) (is : List Token) (rest : List ℕ) → drop at s ≡ bytes (t ∷ is) ++ rest
      → Fits mode false t (bytes is ++ rest) → (t.kind ≡ 4 → Text t.body) → Each (Item mode) is → length is + k ≡ pending (rule t.kind) t.n t.args
      → HasTargets done at (t ∷ is) → length done < cap → P (settled at done (at + length (bytes (t ∷ is))) k) → P (between at done)
  unfolding bytes
  walks_open done at k t is rest same fits text items count a room p =
      let here = same ∙ append_assoc (emit t) (bytes is) rest in
      let st : TakenToken mode s cap (between at done) t (bytes is ++ rest) = record {
        same = here;
        fits = fits;
        text = text;
        target = a.0;
        word = λ e. room;
      } in
      walk_taken s cap P back _ t (bytes is ++ rest) (length is + k) st (sym count)
      (walks_items done at (at + length (emit t)) k is rest (drop_past s at (emit t) _ here) items a.1
      (rw (length_past at (emit t) (bytes is)) at p))

  walks_value : (done : List ℕ) (at : ℕ) (v : Value) (rest : List ℕ) → drop at s ≡ bytes (tokens v) ++ rest → Formed mode v → HasTargets done at (tokens v)
      → length done < cap → P (between (at + length (bytes (tokens v))) (done ++ (at ∷ []))) → P (between at done)
  walks_value done at v rest same f a room p =
      walks_open done at 0 v.head v.items rest same (fits_head v f rest) f.head.text f.items (rw add-zero f.count) a room p

  -- values from `at` on, after those whose starts are `done`, and before any bytes
  pub walks_prefix : (done : List ℕ) (at : ℕ) (vs : List Value) (rest : List ℕ) → drop at s ≡ region vs ++ rest → Each (Formed mode) vs
      → TargetsEarlier done at vs → length done + length vs ≤ cap → P (between (at + length (region vs)) (done ++ starts at vs)) → P (between at done)
  unfolding region starts
  walks_prefix done at [] rest same f b room p = rw (add-zero, append-nil) at p
  walks_prefix done at (v ∷ vs) rest same f b room p =
      let own = bytes (tokens v) in
      let here = same ∙ append_assoc own (region vs) rest in
      walks_value done at v (region vs ++ rest) here f.0 b.0 (omega arith)
      (walks_prefix (done ++ (at ∷ [])) (at + length own) vs rest (drop_past s at own _ here) f.1 b.1 (omega (arith, length-append done (at ∷ [])))
      (rw append_snoc (rw (length_past at own (region vs)) at p)))

pub walks_all : {mode : Mode} (vs : List Value) (cap : ℕ) → Values mode vs → length vs ≤ cap → ok (starts 0 vs) ≡ starts_from mode (region vs) cap (between 0 [])
walks_all {mode} vs cap v room =
    let s = region vs in
    let end : ok (starts 0 vs) ≡ starts_from mode s cap (between (0 + length s) (starts 0 vs)) =
    walk_end mode s cap _ (le-leb (length s) (0 + length s) (omega arith)) in
    walks_prefix mode s cap _ (starts_backward mode s cap _) [] 0 vs [] (sym (append-nil s)) v.formed v.targets (omega arith) end

-- ---- the file

-- the starts and the entry that check finds
pub finds : {mode : Mode} (file : List ℕ) (vs : List Value) (entry cap : ℕ) → WellFormed mode file vs entry → length vs ≤ cap
    → ok (starts 0 vs, entry) ≡ check_in mode file cap
finds {mode} file vs entry cap wf room =
    let s = region vs in
    let done = starts 0 vs in
    let file_is : Whole file = record { region = s; delta = wf.delta; short = wf.short; same = wf.same } in
    bind_ok (entered (length s) wf.delta) (walks_all vs cap wf.values room) (entered_named (length s) wf.delta entry done wf.named wf.start)
    ∙ sym (check_in_whole file file_is mode cap)

pub accepts : {mode : Mode} (file : List ℕ) (vs : List Value) (entry cap : ℕ) → WellFormed mode file vs entry → length vs ≤ cap
    → check_of mode file cap ≡ checked (ok (length vs, entry)) (filled cap (starts 0 vs))
unfolding check_of
accepts file vs entry cap wf room = rw (← finds file vs entry cap wf room, length_starts 0 vs)
