-- A token as the walk of check takes it.
--
-- In order: what is emitted at an offset is read there; what holds for a token that the walk takes (`TakenToken`): the
-- walk takes it (`next_taken`), and what it takes is such a token (`taken_next`); the walk after a token, by the items
-- pending there (`settled`), for a property that goes backward (`Backward`, `walk_taken`).
use mathlib.Core.Path.{◌≡◌, refl, sym, ap, ◌∙◌, subst}
use Prim.Native.Nat.{ℕ, zero, suc, ◌+◌, ◌<◌}
use mathlib.Core.Bool.{Bool, true, false, ◌&&◌, and_comm}
use mathlib.Core.List.{List, [], ◌∷◌, ◌++◌}
use native.Mathlib.Nat.{suc-ne-zero}
use native.Mathlib.Omega.{arith}
use borrow.Author.Tests.{eqb-true, eq-eqb, ne_eqb, leb-true, le-leb, ltb-true, lt-ltb, lt-leb}
use lib.Dec.{eqb, ltb, leb}
use lib.ListN.{length, take, drop, length-drop, length-append, take-append-drop}
use lib.Seq.{length-take-le}
use Rattle.prelude.specs.Answer.{Answer, ok, bind}
use Rattle.prelude.specs.Bytes.{Bytes}
use Rattle.prelude.proofs.Tests.{and_l, and_r, unless, unless_by}
use Rattle.utf8.specs.Text.{Text, is_text}
use Rattle.utf8.proofs.Laws.{text_is_text, is_text_text}
use Rattle.error.specs.Error.{Fault}
use Rattle.leb128.specs.declared.Mode.{Mode}
use Rattle.kind.specs.Kind.{due}
use Rattle.token.specs.Token.{Token, emit, Fits}
use Rattle.token.proofs.Laws.{emit_pos}
use Rattle.scan.specs.Answers.{scan_at, body_on}
use Rattle.scan.specs.declared.Head.{Head}
use Rattle.scan.proofs.Places.{head_at, scan_at_emit, emit_scan_at, body_read}
use Rattle.values.specs.Values.{HasTarget}
use Rattle.checker_value.specs.Walk.{has_target, token_fault, Walk, between, next_token, walk_after, starts_from}
use Rattle.checker_value.proofs.Walks.{taken, walk_token}

-- ---- what is emitted at an offset

module _ (mode : Mode) (s : List ℕ) (at : ℕ) (t : Token) (rest : List ℕ) (same : drop at s ≡ emit t ++ rest) where
  length_at : length s ≡ at + length (emit t) + length rest
  length_at = omega (arith, emit_pos t, length-append (emit t) rest, length-drop at s, ap length same)

  scan_at_at : (inner : Bool) → Fits mode inner t rest → scan_at mode inner s at ≡ ok (head_at at t)
  scan_at_at inner f =
      let front : length (take at s) ≡ at = length-take-le at s (omega (arith, length_at)) in
      rw (front, ← same, take-append-drop) at (scan_at_emit mode inner (take at s) t rest f)

-- ---- a token that the walk takes

-- a token at the walk's offset, and `rest` after it: it fits there, its text is text, its target is a start, and a new
-- value has a word
pub record TakenToken (mode : Mode) (s : List ℕ) (cap : ℕ) (w : Walk) (t : Token) (rest : List ℕ) : Type 0 where
  pub same : drop w.at s ≡ emit t ++ rest
  pub fits : Fits mode (ltb 0 w.pending) t rest
  pub text : t.kind ≡ 4 → Text t.body
  pub target : HasTarget w.done w.at t
  pub word : w.pending ≡ 0 → length w.done < cap

module _ (mode : Mode) (s : List ℕ) (cap : ℕ) (w : Walk) where
  next_taken : (t : Token) (rest : List ℕ) → TakenToken mode s cap w t rest → ok (head_at w.at t) ≡ next_token mode s cap w.done w.pending w.at
  unfolding next_token token_fault bind has_target
  next_taken t rest st =
      let h = head_at w.at t in
      let free = unless_full (eqb w.pending 0) (leb cap (length w.done)) (λ e. lt-leb _ _ (st.word (eqb-true _ _ e))) in
      let text = unless (eqb t.kind 4) (is_text (body_on s h))
      (λ e. rw (body_read s rest w.at t st.same) (text_is_text (st.text (eqb-true _ _ e)))) in
      let target = unless (leb 14 t.kind) (has_target w.done w.at h)
      (λ e. let r = st.target (leb-true _ _ e) in rw (lt-ltb _ _ r.0, r.1)) in
      rw (free, scan_at_at mode s w.at t rest st.same _ st.fits, text, target)
    where
      unless_full : (a b : Bool) → (a ≡ true → b ≡ false) → a && b ≡ false
      unless_full true b f = f refl
      unless_full false b f = refl

  -- a head that the walk takes is that of a token at this offset
  pub record TakenHead (h : Head) : Type 0 where
    pub token : Token
    pub rest : List ℕ
    pub taken : TakenToken mode s cap w token rest
    pub head : h ≡ head_at w.at token

  pub taken_next : (h : Head) → Bytes s → ok h ≡ next_token mode s cap w.done w.pending w.at → TakenHead h
  unfolding has_target
  taken_next h b e =
      let k = taken mode s cap w.done w.pending w.at h e in
      let r = emit_scan_at mode _ s w.at h b k.scanned in
      let kind : h.kind ≡ r.token.kind = ap (λ (x : Head). x.kind) r.head in
      let n : h.n ≡ r.token.n = ap (λ (x : Head). x.n) r.head in
      let text : h.kind ≡ 4 → Text r.token.body =
      λ q. is_text_text _ (rw r.body at (unless_by (eqb h.kind 4) (is_text (body_on s h)) k.text (eq-eqb _ _ q))) in
      let target : HasTarget w.done w.at r.token = λ q.
      let a = unless_by (leb 14 h.kind) (has_target w.done w.at h) k.target (le-leb 14 h.kind (omega arith)) in
      rw (← n) (ltb-true _ _ (and_l (ltb h.n w.at) _ a), and_r (ltb h.n w.at) _ a) in
      record {
        token = r.token;
        rest = r.rest;
        taken = record { same = r.same; fits = r.fits; text = λ q. text (kind ∙ q); target = target; word = k.room };
        head = r.head;
      }

-- ---- the walk after a token

-- the walk at `at` in the value that started at `start`, with that many items pending; after that value if none is
abbrev pub settled : ℕ → List ℕ → ℕ → ℕ → Walk
settled start done at zero = between at (done ++ (start ∷ []))
settled start done at (suc k) = record { at = at; start = start; pending = suc k; done = done }

pub after_settled : (w : Walk) (h : Head) (k : ℕ) → due w.pending h.items ≡ k → walk_after w h ≡ settled w.start w.done h.end k
unfolding walk_after
after_settled w h zero e = rw e
after_settled w h (suc k) e = rw (e, ne_eqb (suc k) 0 (suc-ne-zero k))

pub due_suc : (k items : ℕ) → due (suc k) items ≡ k
due_suc k items = rw (ne_eqb (suc k) 0 (suc-ne-zero k)) (omega arith)

-- a property of the walk that goes backward: what holds after a token that the walk takes holds before it
abbrev pub Backward : Mode → List ℕ → ℕ → (Walk → Type 0) → Type 0
Backward mode s cap P = (w : Walk) → (eqb w.pending 0 && leb (length s) w.at) ≡ false → (h : Head)
    → ok h ≡ next_token mode s cap w.done w.pending w.at → P (walk_after w h) → P w

-- that the walk yields a is such a property
pub starts_backward : (mode : Mode) (s : List ℕ) (cap : ℕ) (a : Answer Fault (List ℕ)) → Backward mode s cap (λ w. a ≡ starts_from mode s cap w)
starts_backward mode s cap a w t h e yields = yields ∙ walk_token mode s cap w t h e

pub walk_taken : {mode : Mode} (s : List ℕ) (cap : ℕ) (P : Walk → Type 0) → Backward mode s cap P → (w : Walk) (t : Token) (rest : List ℕ) (k : ℕ)
    → TakenToken mode s cap w t rest → due w.pending (head_at w.at t).items ≡ k → P (settled w.start w.done (w.at + length (emit t)) k) → P w
walk_taken {mode} s cap P back w t rest k st left p =
    let more : leb (length s) w.at ≡ false = lt-leb (length s) w.at (omega (arith, emit_pos t, length_at mode s w.at t rest st.same)) in
    back w (rw (more, and_comm (eqb w.pending 0) false)) (head_at w.at t) (next_taken mode s cap w t rest st)
    (subst P (sym (after_settled w (head_at w.at t) k left)) p)
