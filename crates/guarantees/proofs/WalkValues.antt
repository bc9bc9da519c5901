-- What the walk of check has gone through: values, and an open one as far as it got.
--
-- In order: tokens and one more; an open value (`Partly`): its head, and one item more; a walk between two values, or
-- in an open one (`WalkedValues`), with a value finished if none of its items is pending; a token that the walk takes
-- keeps it (`after_walked`); between two values the walk has gone through values alone (`walked_between`).
use mathlib.Core.Path.{◌≡◌, refl, sym, ap, ◌∙◌}
use Prim.Native.Nat.{ℕ, zero, suc, ◌+◌, ◌≤◌, ◌<◌}
use mathlib.Core.Bool.{true, not, ◌&&◌}
use mathlib.Core.List.{List, [], ◌∷◌, ◌++◌, append_assoc, append-nil}
use native.Mathlib.Nat.{add-zero, zero-add, suc-ne-zero}
use native.Mathlib.Omega.{arith}
use borrow.Author.Tests.{lt-ltb, not-true, not-false}
use lib.ListN.{length, drop, length-append}
use lib.Seq.{drop-append_seam}
use Rattle.prelude.specs.Each.{Each}
use Rattle.prelude.proofs.Parts.{length_past}
use Rattle.prelude.proofs.Lists.{each_append}
use Rattle.leb128.specs.declared.Mode.{Mode}
use Rattle.kind.specs.Kind.{rule, counted, pending, immediate}
use Rattle.token.specs.Token.{Token, emit}
use Rattle.scan.specs.declared.Head.{Head}
use Rattle.scan.proofs.Places.{head_at}
use Rattle.values.specs.Values.{Value, bytes, region, starts, Sound, Item, Formed, HasTarget, HasTargets, Values}
use Rattle.values.proofs.Laws.{bytes_append, region_append, starts_append, targets_earlier_append}
use Rattle.checker_value.specs.Walk.{Walk, between, walk_after}
use Rattle.guarantees.proofs.WalkTokens.{TakenToken, TakenHead, settled, after_settled, due_suc}

-- ---- one token more

has_targets_snoc : (done : List ℕ) (q : ℕ) (ts : List Token) (t : Token) → HasTargets done q ts → HasTarget done (q + length (bytes ts)) t
    → HasTargets done q (ts ++ (t ∷ []))
unfolding bytes
has_targets_snoc done q [] t a r = (rw add-zero at r, tt)
has_targets_snoc done q (u ∷ ts) t a r = (a.0, has_targets_snoc done (q + length (emit u)) ts t a.1 (rw (length_past q (emit u) (bytes ts)) at r))

bytes_one : (t : Token) → bytes (t ∷ []) ≡ emit t
unfolding bytes
bytes_one t = append-nil (emit t)

bytes_snoc : (ts : List Token) (t : Token) → bytes (ts ++ (t ∷ [])) ≡ bytes ts ++ emit t
bytes_snoc ts t = rw (bytes_append ts (t ∷ []), bytes_one t)

-- ---- an open value

-- s is the values vs, a head with the items so far, and `rest`; k items are pending
pub record Partly (mode : Mode) (s : List ℕ) (vs : List Value) (t : Token) (is : List Token) (rest : List ℕ) (k : ℕ) : Type 0 where
  pub values : Values mode vs
  pub same : s ≡ region vs ++ (bytes (t ∷ is) ++ rest)
  pub head : Sound mode t
  -- the items that the head counts have a byte each after it
  pub room : length (region vs) + length (emit t) + counted (rule t.kind) t.n t.args ≤ length s
  pub items : Each (Item mode) is
  pub count : length is + k ≡ pending (rule t.kind) t.n t.args
  pub targets : HasTargets (starts 0 vs) (length (region vs)) (t ∷ is)

-- what comes after the front p of s
same_after : (s p q r : List ℕ) → s ≡ p ++ q → drop (length p) s ≡ r → s ≡ p ++ r
same_after s p q r same d = same ∙ ap (λ x. p ++ x) (sym (drop-append_seam p q) ∙ ap (drop (length p)) (sym same) ∙ d)

module _ {mode : Mode} (s : List ℕ) (cap : ℕ) (w : Walk) (u : Token) (rest : List ℕ) (st : TakenToken mode s cap w u rest) where
  sound : Sound mode u
  sound = record { allowed = st.fits.allowed; spelled = st.fits.spelled; text = st.text }

  item : 0 < w.pending → Item mode u
  item h =
      let flat : not (true && not (immediate (rule u.kind))) ≡ true = rw (lt-ltb 0 w.pending h) at st.fits.flat in
      record { sound = sound; immediate = not-false _ (not-true _ flat) }

  partly_head : (vs : List Value) (q : List ℕ) → Values mode vs → s ≡ region vs ++ q → w.at ≡ length (region vs) → w.done ≡ starts 0 vs
      → Partly mode s vs u [] rest (pending (rule u.kind) u.n u.args)
  partly_head vs q v same here done =
      let all : s ≡ region vs ++ (emit u ++ rest) = same_after s (region vs) q _ same (rw here at st.same) in
      record {
        values = v;
        same = rw (bytes_one u) all;
        head = sound;
        room = omega (arith, st.fits.room, ap length all, length-append (region vs) (emit u ++ rest), length-append (emit u) rest);
        items = tt;
        count = zero-add _;
        targets = (rw (here, done) at st.target, tt);
      }

  partly_item : (vs : List Value) (t : Token) (is : List Token) (q : List ℕ) (k : ℕ) → Partly mode s vs t is q (suc k) → 0 < w.pending
      → w.at ≡ length (region vs) + length (bytes (t ∷ is)) → w.done ≡ starts 0 vs → Partly mode s vs t (is ++ (u ∷ [])) rest k
  partly_item vs t is q k p more here done =
      let front = region vs ++ bytes (t ∷ is) in
      let long : w.at ≡ length front = rw length-append here in
      let behind = same_after s front q _ (p.same ∙ sym (append_assoc (region vs) (bytes (t ∷ is)) q)) (rw long at st.same) in
      record {
        values = p.values;
        same = rw (bytes_snoc (t ∷ is) u) (behind ∙ simp append_assoc);
        head = p.head;
        room = p.room;
        items = (each_append (Item mode) is (u ∷ [])).1 (p.items, (item more, tt));
        count = omega (arith, p.count, length-append is (u ∷ []));
        targets = has_targets_snoc (starts 0 vs) (length (region vs)) (t ∷ is) u p.targets (rw (here, done) at st.target);
      }

-- ---- the walk

pub data WalkedValues (mode : Mode) (s : List ℕ) : Walk → Type 0 where
  -- between two values
  idle : {vs : List Value} (rest : List ℕ) → Values mode vs → s ≡ region vs ++ rest → WalkedValues mode s (between (length (region vs)) (starts 0 vs))
  -- in a value
  busy : {vs : List Value} {t : Token} {is : List Token} {rest : List ℕ} {k : ℕ} → Partly mode s vs t is rest (suc k)
      → WalkedValues mode s (settled (length (region vs)) (starts 0 vs) (length (region vs) + length (bytes (t ∷ is))) (suc k))

-- a value of which no item is pending is finished
walked_value : {mode : Mode} {s : List ℕ} {vs : List Value} {t : Token} {is : List Token} {rest : List ℕ} → Partly mode s vs t is rest 0
    → WalkedValues mode s (between (length (region vs) + length (bytes (t ∷ is))) (starts 0 vs ++ (length (region vs) ∷ [])))
unfolding region starts
walked_value {mode} {s} {vs} {t} {is} {rest} p =
    let v : Value = record { head = t; items = is } in
    let formed : Formed mode v = record { head = p.head; items = p.items; count = rw add-zero at p.count } in
    let values : Values mode (vs ++ (v ∷ [])) = record {
      formed = (each_append (Formed mode) vs (v ∷ [])).1 (p.values.formed, (formed, tt));
      targets = (targets_earlier_append [] 0 vs (v ∷ [])).1 (p.values.targets, rw zero-add (p.targets, tt));
    } in
    let all : region (vs ++ (v ∷ [])) ≡ region vs ++ bytes (t ∷ is) = rw (region_append vs (v ∷ []), append-nil) in
    let long : length (region (vs ++ (v ∷ []))) ≡ length (region vs) + length (bytes (t ∷ is)) = rw (all, length-append) in
    let done : starts 0 (vs ++ (v ∷ [])) ≡ starts 0 vs ++ (length (region vs) ∷ []) = rw (starts_append 0 vs (v ∷ []), zero-add) in
    rw (← done, ← long) (idle rest values (rw all (p.same ∙ sym (append_assoc (region vs) _ rest))))

walked_settled : {mode : Mode} {s : List ℕ} {vs : List Value} {t : Token} {is : List Token} {rest : List ℕ} (k : ℕ) → Partly mode s vs t is rest k
    → WalkedValues mode s (settled (length (region vs)) (starts 0 vs) (length (region vs) + length (bytes (t ∷ is))) k)
walked_settled zero p = walked_value p
walked_settled (suc k) p = busy p

pub after_walked : {mode : Mode} (s : List ℕ) (cap : ℕ) (w : Walk) (h : Head) → TakenHead mode s cap w h → WalkedValues mode s w
    → WalkedValues mode s (walk_after w h)
after_walked s cap w h st (idle {vs} q values same) =
    let u = st.token in
    let p = partly_head s cap w u st.rest st.taken vs q values same refl refl in
    rw (st.head, after_settled w (head_at w.at u) _ refl) (rw (bytes_one u) at (walked_settled _ p))
after_walked s cap w h st (busy {vs} {t} {is} {rest} {k} p) =
    let u = st.token in
    let more = partly_item s cap w u st.rest st.taken vs t is rest k p (omega arith) refl refl in
    rw (st.head, after_settled w (head_at w.at u) k (due_suc k _)) (rw (bytes_snoc (t ∷ is) u, length_past) at (walked_settled k more))

-- values at the front of s, up to the walk's offset
pub record WalkedBetween (mode : Mode) (s : List ℕ) (w : Walk) : Type 0 where
  pub values : List Value
  pub formed : Values mode values
  pub rest : List ℕ
  pub same : s ≡ region values ++ rest
  pub at : w.at ≡ length (region values)
  pub done : w.done ≡ starts 0 values

pub walked_between : {mode : Mode} (s : List ℕ) (w : Walk) → w.pending ≡ 0 → WalkedValues mode s w → WalkedBetween mode s w
walked_between s w e (idle {vs} rest values same) = record {
  values = vs;
  formed = values;
  rest = rest;
  same = same;
  at = refl;
  done = refl;
}
walked_between s w e (busy {k = k} p) = absurd (suc-ne-zero k e)
