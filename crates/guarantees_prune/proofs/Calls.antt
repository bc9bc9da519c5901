-- The marked values are written by the calls of the new values, up to the first refused one.
--
-- In order: the call of a token, and of one that is moved (`move_call`, `puts_moved`); what an accepted call leaves (`step_on`); the tokens of a value
-- (`copy_value`); the new values one after the other (`kept_new`), and that they are written (`copies_values`); the file (`new_file_is`).
use mathlib.Core.Path.{◌≡◌, refl, sym, ap, ◌∙◌, subst}
use mathlib.Core.Bool.{Bool, true, false}
use mathlib.Core.List.{List, [], ◌∷◌, ◌++◌, append_assoc, append-nil}
use Prim.Native.Nat.{ℕ, zero, suc, ◌+◌, ◌-◌, ◌≤◌, ◌<◌}
use native.Mathlib.Nat.{add-zero, le_refl}
use native.Mathlib.Omega.{arith}
use lib.Dec.{eqb, leb}
use lib.ListN.{length, take, drop, get_or, replicate, length-append, length-replicate, get_or-replicate, get_or-append, get_or-eq_default}
use lib.Seq.{get_or_at, drop_at, append_snoc}
use borrow.Author.Tests.{le-leb, lt-leb, ne_eqb, eqb-true, eqb-false}
use Rattle.prelude.specs.Pick.{pick}
use Rattle.prelude.specs.Answer.{ok}
use Rattle.prelude.specs.Bytes.{Bytes}
use Rattle.prelude.specs.Each.{Each}
use Rattle.prelude.specs.Search.{rank}
use Rattle.prelude.proofs.Tests.{pick_elim, split}
use Rattle.prelude.proofs.Parts.{bytes_after, bytes_front, drop_past}
use Rattle.prelude.proofs.Lists.{each_append}
use Rattle.leb128.specs.declared.Mode.TheVariants.{Strict}
use Rattle.token.specs.Token.{Token, emit}
use Rattle.scan.proofs.Places.{head_at}
use Rattle.values.specs.Values.{Value, tokens, bytes, region, starts, Sound, Item, Formed, HasTarget, HasTargets, TargetsEarlier, Values}
use Rattle.values.proofs.Members.{each_imp}
use Rattle.values.proofs.Laws.{region_at, starts_lt, length_starts}
use Rattle.writer_refusal.specs.declared.State.{State}
use Rattle.writer.specs.Call.{Call, close}
use Rattle.writer.specs.Step.{fresh, close_at, puts, move_of, moved_to, put_moved, pending_of, Result, start_of, step}
use Rattle.guarantees_writer.specs.Model.{Part, adds, request_of, form_of}
use Rattle.guarantees_writer.specs.RefusedCall.{items_after}
use Rattle.guarantees_writer.specs.OneCall.{Starts, new, begun, Writes, Finishing}
use Rattle.guarantees_writer.proofs.Models.{pending_form}
use Rattle.guarantees_writer.proofs.Calls.{accepted_only}
use Rattle.guarantees_writer.proofs.AcceptedCall.{accepted_writes, accepted_finishes}
use Rattle.guarantees_writer.proofs.History.{move_as, move_request}
use Rattle.guarantees.specs.Rewrites.{call_of, calls_at, calls_of, rewriting}
use Rattle.guarantees.proofs.Depths.{length_snoc, starts_snoc}
use Rattle.guarantees.proofs.Rewrites.{bytes_body}
use Rattle.guarantees.proofs.RewritesRead.{part_of, form_part, request_call}
use Rattle.prune_tokens.specs.Tokens.{PlacedHead, heads_of}
use Rattle.prune_marks.specs.Marks.{kept}
use Rattle.prune_reach.specs.Reach.{reached}
use Rattle.prune_copy.specs.Copy.{and_on, copy_tokens, copy_values}
use Rattle.prune.specs.Prune.{new_file}
use Rattle.guarantees_prune.specs.Internal.{moved_tokens, moved_value, new_start, kept_values}
use Rattle.guarantees_prune.proofs.Runs.{run_until, and_same, and_by, until_append, until_one}
use Rattle.guarantees_prune.proofs.Heads.{placed, heads_value, token_at}

-- ---- the call of a token

twice : (b : Bool) (x y : ℕ) → pick b (pick b x y) 0 ≡ pick b x 0
twice true x y = refl
twice false x y = refl

pub move_call : (r : ℕ) (u : Token) → Sound Strict u → Bytes u.body → (14 ≤ u.kind → u.n < r)
    → move_of (call_of r u) r ≡ puts u (pick (leb 14 u.kind) (r - u.n - 1) 0)
unfolding part_of
move_call r u s b aim =
    move_request (call_of r u) r ∙ ap (move_as r) (request_call r u s.allowed b)
    ∙ rw (form_part r u s.spelled aim, twice (leb 14 u.kind) (r - u.n - 1) u.n)

-- the token t, whose target is then at y, which is the word number k of the table
pub puts_moved : (t : Token) (k r y : ℕ) (w : State) (out table : List ℕ) → w.written ≡ r → get_or table k 0 ≡ y
    → let u = moved_to r y t in Sound Strict u → Bytes u.body → (14 ≤ t.kind → (u.n < r) × (y < r))
    → put_moved t k w out table ≡ step (call_of r u) w out table
unfolding put_moved moved_to
puts_moved t k r y w out table at word s b aim =
    split t.kind 14
    (λ l. rw (at, move_call r (moved_to r y t) s b (λ g. (aim g).0), lt-leb 14 t.kind l))
    (λ l. let back : r - (r - y - 1) - 1 ≡ y = omega (arith, aim l) in
    rw (at, move_call r (moved_to r y t) s b (λ g. (aim g).0), le-leb 14 t.kind l, word, back))

-- ---- what an accepted call leaves

-- the writer has written r bytes, with `left` items pending; the table has the words `listed`, and zeros after them
record Going (listed : List ℕ) (r left : ℕ) (w : State) (table : List ℕ) : Type 0 where
  written : w.written ≡ r
  pending : w.pending ≡ left
  count : w.count ≡ length listed
  words : (k : ℕ) → get_or table k 0 ≡ get_or listed k 0

start_by : {w : State} {x : ℕ} → Starts w x → x ≡ start_of w
start_by (new e) = rw e
start_by {w} (begun l) = rw (ne_eqb w.pending 0 (λ z. omega arith))

-- one word more
word_more : (listed : List ℕ) (e k y : ℕ) → (k ≡ length listed → y ≡ e) → ((k ≡ length listed → ⊥) → y ≡ get_or listed k 0) → y ≡ get_or (listed ++ (e ∷ [])) k 0
word_more listed e k y own other =
    split k (length listed)
    (λ l. other (λ z. omega arith) ∙ sym (get_or-append listed (e ∷ []) 0 k l))
    (λ l. split (length listed) k
    (λ g. other (λ z. omega arith) ∙ get_or-eq_default listed 0 l
    ∙ sym (get_or-eq_default (listed ++ (e ∷ [])) 0 (omega (arith, length-append listed (e ∷ [])))))
    (λ g. own (omega arith) ∙ sym (get_or_at listed e [] 0 k (omega arith))))

-- the call c adds the part p to the value that starts at e; if no items are pending then, that start is listed
module _ (c : Call) (p : Part) (request : request_of c ≡ adds p) (listed : List ℕ) (e r left : ℕ) (w : State) (out table : List ℕ)
    (g : Going listed r left w table) (start : start_of w ≡ e) (accepted : (step c w out table).answer ≡ ok tt) where
  abbrev x : Result
  x = step c w out table

  writes : Writes (adds p) w out x
  writes = rw request at (accepted_writes c w out table accepted)

  finishes : Finishing (adds p) w table x
  finishes = rw request at (accepted_finishes c w out table accepted)

  step_on : Going (pick (eqb (items_after p w) 0) (listed ++ (e ∷ [])) listed) (r + length (emit (form_of r p))) (items_after p w) x.writer x.table
  step_on =
      let written : x.writer.written ≡ r + length (emit (form_of r p)) = writes.written ∙ rw g.written in
      pick_elim (λ l. Going l (r + length (emit (form_of r p))) (items_after p w) x.writer x.table) (eqb (items_after p w) 0)
      (λ z.
      let f = finishes.1 (writes.pending ∙ eqb-true (items_after p w) 0 z) in
      record {
        written = written;
        pending = writes.pending;
        count = omega (arith, f.2.count, g.count, length-append listed (e ∷ []));
        words = λ k. word_more listed e k (get_or x.table k 0)
            (λ same. rw (same, ← g.count) (f.2.listed ∙ start_by f.1 ∙ start))
            (λ other. (accepted_only c w out table accepted).others k (λ same. other (same ∙ g.count)) ∙ g.words k);
      })
      (λ z.
      let some : items_after p w ≡ 0 → ⊥ = eqb-false (items_after p w) 0 z in
      let f = finishes.0 (omega (arith, writes.pending)) in
      record { written = written; pending = writes.pending; count = f.count ∙ g.count; words = λ k. rw f.words (g.words k) })

  start_on : 0 < items_after p w → x.writer.start ≡ e
  start_on some = start_by (writes.start (omega (arith, writes.pending))) ∙ start

-- ---- the tokens of a value

-- x is what the calls cs leave, up to the first refused one; if all are accepted, r bytes are then written, and the words `listed` are in the table
record Copies (x : Result) (cs : List Call) (w : State) (out table listed : List ℕ) (r : ℕ) : Type 0 where
  same : x ≡ run_until cs w out table
  after : let y = run_until cs w out table in y.answer ≡ ok tt → Going listed r 0 y.writer y.table

-- what the calls a leave, and then, if all are accepted, what cs do
copies_on : (x : Result) (f : State → List ℕ → List ℕ → Result) (a cs : List Call) (w : State) (out table listed : List ℕ) (r : ℕ)
    → x ≡ run_until a w out table → (x.answer ≡ ok tt → Copies (f x.writer x.out x.table) cs x.writer x.out x.table listed r)
    → Copies (and_on x f) (a ++ cs) w out table listed r
copies_on x f a cs w out table listed r first more =
    let joined : run_until (a ++ cs) w out table ≡ and_on x (run_until cs) = until_append a cs w out table ∙ rw first in
    record {
      same = and_same x f (run_until cs) (λ yes. (more yes).same) ∙ sym joined;
      after = rw joined (λ yes. and_by x (run_until cs) (λ y. Going listed r 0 y.writer y.table) yes (λ e. (more e).after));
    }

copies_after : {x : Result} {cs : List Call} {w : State} {out table listed : List ℕ} {r : ℕ} → Copies x cs w out table listed r → x.answer ≡ ok tt
    → Going listed r 0 x.writer x.table
copies_after {listed = listed} {r = r} c = subst (λ (y : Result). y.answer ≡ ok tt → Going listed r 0 y.writer y.table) (sym c.same) c.after

length_moved : (g : ℕ → ℕ) (q r : ℕ) (ts : List Token) → length (moved_tokens g q r ts) ≡ length ts
unfolding moved_tokens
length_moved g q r [] = refl
length_moved g q r (t ∷ ts) = ap suc (length_moved g (q + length (emit t)) (r + length (emit (moved_to r (g (q - t.n - 1)) t))) ts)

-- each token of a value is sound
pub sounds : (v : Value) → Formed Strict v → Each (Sound Strict) (tokens v)
sounds v f = (f.head, each_imp (Item Strict) (Sound Strict) (λ t i. i.sound) v.items f.items)

start_below : (done : List Value) (k r : ℕ) → length (region done) ≤ r → 0 < r → get_or (starts 0 done) k 0 < r
start_below done k r h pos =
    split k (length done) (λ l. omega (arith, starts_lt 0 done k l))
    (λ l. omega (arith, get_or-eq_default (starts 0 done) 0 {n = k} (omega (arith, length_starts 0 done))))

module _ (s ss : List ℕ) (ms : List Bool) (done : List Value) where
  abbrev e : ℕ
  e = length (region done)

  abbrev listed : List ℕ
  listed = starts 0 done

  -- the token t at q, as it is written at r
  abbrev moved : ℕ → ℕ → Token → Token
  moved q r t = moved_to r (new_start ss ms done (q - t.n - 1)) t

  -- r bytes are written, with `left` items of the value that starts at e pending; if there are none, it is listed
  abbrev Next : ℕ → ℕ → State → List ℕ → Type 0
  Next left r w table = Going (pick (eqb left 0) (listed ++ (e ∷ [])) listed) r left w table × (0 < left → w.start ≡ e)

  -- the tokens with the heads hs are written by the calls cs, as the last ones of the value, which then ends at `end`
  abbrev Ends : List PlacedHead → List Call → ℕ → State → List ℕ → List ℕ → Type 0
  Ends hs cs end w out table = Copies (copy_tokens s ss ms hs w out table) cs w out table (listed ++ (e ∷ [])) end

  -- one token, with `more` items pending before it and `left` after it, and what comes then
  copy_token : (q r : ℕ) (t : Token) (rest : List ℕ) (hs : List PlacedHead) (cs : List Call) (more left end : ℕ) (w : State) (out table : List ℕ)
      → drop q s ≡ emit t ++ rest → Sound Strict t → e ≤ r
      → let u = moved q r t in Sound Strict u → HasTarget listed r u → Bytes (emit u) → Going listed r more w table → start_of w ≡ e
      → items_after (part_of r u) w ≡ left
      → (let x = step (call_of r u) w out table in Next left (r + length (emit u)) x.writer x.table → Ends hs cs end x.writer x.out x.table)
      → Ends (record { place = q; head = head_at q t } ∷ hs) (call_of r u ∷ cs) end w out table
  unfolding copy_tokens moved_to
  copy_token q r t rest hs cs more left end w out table at old low s' aim b g start due then =
      let u = moved q r t in
      let k = kept (take (rank (q - t.n - 1) ss) ms) in
      let form : form_of r (part_of r u) ≡ u = form_part r u s'.spelled (λ l. (aim l).0) in
      let request = request_call r u s'.allowed (bytes_body u b) in
      let first = puts_moved t k r (get_or listed k 0) w out table g.written (g.words k) s' (bytes_body u b)
      (λ l. ((aim l).0, start_below done k r low (omega (arith, (aim l).0)))) in
      rw (token_at s rest q t old at, first)
      (copies_on (step (call_of r u) w out table) (copy_tokens s ss ms hs) (call_of r u ∷ []) cs w out table _ end (sym (until_one (call_of r u) w out table))
      (λ yes. then (
        rw (form, due) at (step_on (call_of r u) (part_of r u) request listed e r more w out table g start yes),
        rw due at (start_on (call_of r u) (part_of r u) request listed e r more w out table g start yes),
      )))

  -- the writer may go on with the tokens ts, the last ones of the value
  abbrev Ready : ℕ → ℕ → List Token → State → List ℕ → Type 0
  Ready q r [] w table = Next 0 r w table
  Ready q r (t ∷ ts) w table = (more : ℕ) × Going listed r more w table × (start_of w ≡ e) × (items_after (part_of r (moved q r t)) w ≡ length ts)

  ready_next : (q r : ℕ) (ts : List Token) (w : State) (table : List ℕ) → Next (length ts) r w table → Ready q r ts w table
  ready_next q r [] w table n = n
  ready_next q r (t ∷ ts) w table n =
      let some : eqb (suc (length ts)) 0 ≡ false = ne_eqb (suc (length ts)) 0 (λ z. omega arith) in
      let g = rw some at n.0 in
      (suc (length ts), g, rw (g.pending, some) (n.1 (omega arith)), rw (g.pending, some) (omega arith))

  copies_tokens : (q r : ℕ) (ts : List Token) (rest : List ℕ) (w : State) (out table : List ℕ) → drop q s ≡ bytes ts ++ rest → Each (Sound Strict) ts → e ≤ r
      → let us = moved_tokens (new_start ss ms done) q r ts in Each (Sound Strict) us → HasTargets listed r us → Bytes (bytes us)
      → Ready q r ts w table → Ends (placed q ts) (calls_at r us) (r + length (bytes us)) w out table
  unfolding copy_tokens moved_tokens placed calls_at bytes run_until
  copies_tokens q r [] rest w out table at old low f aims b n = record { same = refl; after = λ _. rw add-zero n.0 }
  copies_tokens q r (t ∷ ts) rest w out table at old low f aims b (more, g, start, due) =
      let u = moved q r t in
      let x = step (call_of r u) w out table in
      let us = moved_tokens (new_start ss ms done) (q + length (emit t)) (r + length (emit u)) ts in
      let past = at ∙ append_assoc (emit t) (bytes ts) rest in
      let end : r + length (emit u ++ bytes us) ≡ r + length (emit u) + length (bytes us) = omega (arith, length-append (emit u) (bytes us)) in
      rw end (copy_token q r t (bytes ts ++ rest) (placed (q + length (emit t)) ts) (calls_at (r + length (emit u)) us) more (length ts) _ w out table past
      old.0 low f.0 aims.0 (bytes_front (emit u) (bytes us) b) g start due
      (λ n. copies_tokens (q + length (emit t)) (r + length (emit u)) ts rest x.writer x.out x.table (drop_past s q (emit t) (bytes ts ++ rest) past)
      old.1 (omega arith) f.1 aims.1 (bytes_after (emit u) (bytes us) b) (ready_next _ _ ts x.writer x.table n)))

  copy_value : (q : ℕ) (v : Value) (rest : List ℕ) (w : State) (out table : List ℕ) → drop q s ≡ bytes (tokens v) ++ rest → Formed Strict v
      → let v' = moved_value (new_start ss ms done) q e v in Formed Strict v' → HasTargets listed e (tokens v') → Bytes (bytes (tokens v'))
      → Going listed e 0 w table → Ends (placed q (tokens v)) (calls_at e (tokens v')) (e + length (bytes (tokens v'))) w out table
  unfolding moved_value moved_tokens
  copy_value q v rest w out table at old f aims b g =
      let u = moved q e v.head in
      let form = form_part e u f.head.spelled (λ l. (aims.0 l).0) in
      let due : items_after (part_of e u) w ≡ length v.items =
      rw g.pending (sym (pending_form e (part_of e u)) ∙ ap pending_of form ∙ sym f.count
      ∙ length_moved (new_start ss ms done) (q + length (emit v.head)) (e + length (emit u)) v.items) in
      copies_tokens q e (tokens v) rest w out table at (sounds v old) (le_refl _) (sounds _ f) aims b (0, g, rw g.pending g.written, due)

-- ---- the values

by_mark : {X : Type 0} (m : Bool) → (m ≡ true → X) → (m ≡ false → X) → X
by_mark true set unset = set refl
by_mark false set unset = unset refl

module _ (ss : List ℕ) (ms : List Bool) where
  -- the new values of vs
  unfoldable pub new_values : ℕ → ℕ → List Value → List Value → List Value
  new_values i q done [] = []
  new_values i q done (v ∷ vs) =
      let v' = moved_value (new_start ss ms done) q (length (region done)) v in
      let end = q + length (bytes (tokens v)) in
      pick (get_or ms i false) (v' ∷ new_values (suc i) end (done ++ (v' ∷ [])) vs) (new_values (suc i) end done vs)

  pub kept_new : (i q : ℕ) (done vs : List Value) → kept_values ss ms i q done vs ≡ done ++ new_values i q done vs
  unfolding kept_values new_values
  kept_new i q done [] = sym (append-nil done)
  kept_new i q done (v ∷ vs) =
      let v' = moved_value (new_start ss ms done) q (length (region done)) v in
      let end = q + length (bytes (tokens v)) in
      by_mark (get_or ms i false) (λ m. rw m (kept_new (suc i) end (done ++ (v' ∷ [])) vs ∙ append_snoc done v' _)) (λ m. rw m (kept_new (suc i) end done vs))

  -- past the last mark
  new_none : (i q : ℕ) (done vs : List Value) → ((j : ℕ) → get_or ms j false ≡ true → j < i) → new_values i q done vs ≡ []
  unfolding new_values
  new_none i q done [] top = refl
  new_none i q done (v ∷ vs) top =
      pick_elim (λ l. l ≡ []) (get_or ms i false) (λ m. absurd (omega (arith, top i m)))
      (λ m. new_none (suc i) (q + length (bytes (tokens v))) done vs (λ j m. omega (arith, top j m)))

module _ (vs : List Value) (values : Values Strict vs) (ms : List Bool) where
  abbrev s : List ℕ
  s = region vs

  abbrev ss : List ℕ
  ss = starts 0 vs

  -- the value v, number i of them, at q
  copy_one : (a : List Value) (v : Value) (b : List Value) (i q : ℕ) (done : List Value) (w : State) (out table : List ℕ) → vs ≡ a ++ (v ∷ b)
      → length a ≡ i → length (region a) ≡ q → let r = length (region done) in let v' = moved_value (new_start ss ms done) q r v in
      Formed Strict v' → HasTargets (starts 0 done) r (tokens v') → Bytes (bytes (tokens v')) → Going (starts 0 done) r 0 w table
      → let more = done ++ (v' ∷ []) in
      Copies (copy_tokens s ss ms (heads_of s ss i) w out table) (calls_at r (tokens v')) w out table (starts 0 more) (length (region more))
  copy_one a v b i q done w out table same number at f aims bs g =
      let v' = moved_value (new_start ss ms done) q (length (region done)) v in
      let own : Formed Strict v = ((each_append (Formed Strict) a (v ∷ b)).0 (rw same at values.formed)).1.0 in
      let here : drop q s ≡ bytes (tokens v) ++ region b = rw (same, region_at a v b) (drop_at (region a) _ q at) in
      let heads : heads_of s ss i ≡ placed q (tokens v) = rw (number, at) at (heads_value vs a v b values same) in
      rw (heads, starts_snoc done v', length_snoc done v') (copy_value s ss ms done q v (region b) w out table here own f aims bs g)

  -- of the values b, which come after a, only the first k may be marked
  copies_values : (k : ℕ) (a b : List Value) (i q : ℕ) → vs ≡ a ++ b → length a ≡ i → length (region a) ≡ q → k ≤ length b
      → ((j : ℕ) → get_or ms j false ≡ true → j < i + k) → (done : List Value) (w : State) (out table : List ℕ)
      → let new = new_values ss ms i q done b in Each (Formed Strict) new → TargetsEarlier (starts 0 done) (length (region done)) new → Bytes (region new)
      → Going (starts 0 done) (length (region done)) 0 w table → let all = done ++ new in
      Copies (copy_values s ss ms k i w out table) (calls_of (length (region done)) new) w out table (starts 0 all) (length (region all))
  unfolding copy_values new_values calls_of run_until region
  copies_values zero a b i q same number at few top done w out table f aims bs g =
      rw (new_none ss ms i q done b (λ j m. omega (arith, top j m)), append-nil done) (record { same = refl; after = λ _. g })
  copies_values (suc k) a [] i q same number at few top done w out table f aims bs g = absurd (omega arith)
  copies_values (suc k) a (v ∷ b) i q same number at few top done w out table f aims bs g =
      let v' = moved_value (new_start ss ms done) q (length (region done)) v in
      let own = bytes (tokens v') in
      let end = q + length (bytes (tokens v)) in
      let new = new_values ss ms (suc i) end (done ++ (v' ∷ [])) b in
      let x = copy_tokens s ss ms (heads_of s ss i) w out table in
      let ih = copies_values k (a ++ (v ∷ [])) b (suc i) end (same ∙ sym (append_snoc a v b))
      (omega (arith, length-append a (v ∷ []))) (length_snoc a v ∙ rw at) (omega arith) (λ j m. omega (arith, top j m)) in
      by_mark (get_or ms i false)
      (λ m.
      let f' = rw m at f in
      let aims' = rw m at aims in
      let bs' = rw m at bs in
      let first = copy_one a v b i q done w out table same number at f'.0 aims'.0 (bytes_front own (region new) bs') g in
      rw m (copies_on x (copy_values s ss ms k (suc i)) (calls_at (length (region done)) (tokens v')) _ w out table _ _ first.same
      (λ yes. rw (length_snoc done v', append_snoc done v' new) at (ih (done ++ (v' ∷ [])) x.writer x.out x.table f'.1
      (rw (starts_snoc done v', length_snoc done v') aims'.1) (bytes_after own (region new) bs') (copies_after first yes)))))
      (λ m. rw m (ih done w out table (rw m at f) (rw m at aims) (rw m at bs) g))

-- ---- the file

zeros_fresh : (words : ℕ) → Going [] 0 0 fresh (replicate words 0)
zeros_fresh words = record {
  written = refl;
  pending = refl;
  count = refl;
  words = λ k. split k words (λ l. get_or-replicate words k 0 0 l)
      (λ l. get_or-eq_default (replicate words 0) 0 (omega (arith, length-replicate {A = ℕ} words 0)));
}

-- what value number e reaches, written from a new writer on, if nothing after e is marked
pub new_file_is : (vs : List Value) → Values Strict vs → (e : ℕ) → e < length vs → (out : List ℕ) (words : ℕ)
    → let ms = reached (region vs) (starts 0 vs) e in ((j : ℕ) → get_or ms j false ≡ true → j ≤ e)
    → let ws = kept_values (starts 0 vs) ms 0 0 [] vs in Values Strict ws → Bytes (region ws)
    → new_file (region vs) (starts 0 vs) e out (replicate words 0)
    ≡ run_until (rewriting ws (get_or (starts 0 ws) (kept (take e ms)) 0)) fresh out (replicate words 0)
unfolding new_file region starts
new_file_is vs values e e< out words top made b =
    let ss = starts 0 vs in
    let ms = reached (region vs) ss e in
    let zeros = replicate {A = ℕ} words 0 in
    let new = new_values ss ms 0 0 [] vs in
    let k = kept (take e ms) in
    let last = get_or (starts 0 new) k 0 in
    let is : kept_values ss ms 0 0 [] vs ≡ new = kept_new ss ms 0 0 [] vs in
    let made' = rw is at made in
    let x = copy_values (region vs) ss ms (suc e) 0 fresh out zeros in
    let c = copies_values vs values ms (suc e) [] vs 0 0 refl refl refl (omega arith) (λ j m. omega (arith, top j m)) [] fresh out zeros
    made'.formed made'.targets (rw is at b) (zeros_fresh words) in
    rw is (and_same x (λ w o t. close_at (get_or t k 0) w o t) (run_until (close last ∷ []))
    (λ yes. rw ((copies_after c yes).words k) (sym (until_one (close last) x.writer x.out x.table)))
    ∙ rw c.same (sym (until_append (calls_of 0 new) (close last ∷ []) fresh out zeros)))
