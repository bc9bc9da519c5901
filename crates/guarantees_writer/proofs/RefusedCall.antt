-- A call of the writer is refused exactly for the first of the paper's reasons that applies, in any state, with any output and table.
--
-- In order: tests and the reasons that they decide (`Decides`); the order, for any flags (`refusal_rows`); the flags of a token and of a close; a call
-- (`refused_call_exactly`).
use mathlib.Core.Path.{◌≡◌, refl, sym, ◌∙◌, subst}
use mathlib.Core.Bool.{Bool, true, false, not, ◌&&◌, true≢false, false≢true}
use mathlib.Core.Logic.{◌↔◌}
use mathlib.Core.List.{List}
use Prim.Native.Nat.{ℕ, ◌+◌, ◌-◌, ◌≤◌, ◌<◌, min}
use native.Mathlib.Omega.{arith}
use lib.Dec.{eqb, ltb, leb}
use lib.ListN.{length, take, length-take}
use lib.Seq.{get_or-take}
use borrow.Author.Tests.{ltb-true, ltb-false, leb-true, leb-false, eqb-true, eqb-false, lt-ltb, le-ltb, not-true, not-false}
use Rattle.prelude.specs.Pick.{pick}
use Rattle.prelude.specs.Answer.{ok, error}
use Rattle.prelude.proofs.Tests.{split, pick_elim, and_l, and_r, or_true}
use Rattle.prelude.proofs.Searches.{among_by, among_at}
use Rattle.error.specs.Error.{LIMIT, BAD_STATE, CLOSED, OWED, BAD_TEXT, BAD_TARGET, FULL, NO_ROOM}
use Rattle.utf8.specs.Text.{is_text, Text}
use Rattle.utf8.proofs.Laws.{text_is_text, is_text_text}
use Rattle.kind.specs.Kind.{rule, pending, due, immediate}
use Rattle.token.specs.Token.{emit}
use Rattle.token.proofs.Laws.{emit_pos}
use Rattle.writer_refusal.specs.Refusal.{bad_state, is_listed, room, limit, Verdict, refusal_of}
use Rattle.writer_refusal.specs.declared.State.{State}
use Rattle.writer_refusal.specs.declared.CallFlags.{CallFlags}
use Rattle.writer_refusal.proofs.Refusals.{Sound, sound}
use Rattle.writer.specs.Call.{Call}
use Rattle.writer.specs.Step.{opens, pending_of, bytes_needed, token_flags, delta_flags, token_refusal, delta_refusal, Result, write, write_delta, write_pointer_delta}
use Rattle.writer.specs.Step.{settled, put_token, close_at, move, step}
use Rattle.guarantees_writer.specs.Model.{Part, form_of, Request, adds, ends, request_of}
use Rattle.guarantees_writer.specs.RefusedCall.{BadState, past_output, past_limit, past_table, no_free_word, start_not_below, Owed, BadText}
use Rattle.guarantees_writer.specs.RefusedCall.{Listed, BadTarget}
use Rattle.guarantees_writer.specs.RefusedCall.{Full, items_after, NoRoom, RefusedCall, in_bad_state, closed, owed, text, target, full, room as no_room}
use Rattle.writer.proofs.Refused.{pointer_to}
use Rattle.guarantees_writer.proofs.Models.{pending_form, room_test}
use Rattle.guarantees_writer.proofs.History.{move_as, move_request, settled_answer}

-- ---- tests

-- t decides P
record Decides (t : Bool) (P : Type 0) : Type 0 where
  yes : t ≡ true → P
  none : t ≡ false → P → ⊥

decides_and : (a b : Bool) (P Q : Type 0) → Decides a P → Decides b Q → Decides (a && b) (P × Q)
decides_and true b P Q p q = record { yes = λ e. (p.yes refl, q.yes e); none = λ e h. q.none e h.1 }
decides_and false b P Q p q = record { yes = λ e. absurd (false≢true e); none = λ e h. p.none refl h.0 }

decides_not : (a : Bool) (P : Type 0) → Decides a P → Decides (not a) (P → ⊥)
decides_not true P p = record { yes = λ e. absurd (false≢true e); none = λ e h. h (p.yes refl) }
decides_not false P p = record { yes = λ _. p.none refl; none = λ e h. absurd (true≢false e) }

decides_lt : (a b : ℕ) → Decides (ltb a b) (a < b)
decides_lt a b = record { yes = λ e. ltb-true a b e; none = λ e h. omega (arith, ltb-false a b e) }

decides_le : (a b : ℕ) → Decides (leb a b) (a ≤ b)
decides_le a b = record { yes = λ e. leb-true a b e; none = λ e h. omega (arith, leb-false a b e) }

decides_eq : (a b : ℕ) → Decides (eqb a b) (a ≡ b)
decides_eq a b = record { yes = λ e. eqb-true a b e; none = λ e h. eqb-false a b e h }

true_of : {P : Type 0} (t : Bool) → Decides t P → P → t ≡ true
true_of true d p = refl
true_of false d p = absurd (d.none refl p)

false_of : {P : Type 0} (t : Bool) → Decides t P → (P → ⊥) → t ≡ false
false_of true d n = absurd (n (d.yes refl))
false_of false d n = refl

-- ---- a state

bad_decides : (s : State) (n m : ℕ) → Decides (bad_state s n m) (BadState s n m)
bad_decides s n m = record { yes = bad; none = λ e b. good (sound s n m e) b }
  where
    bad : bad_state s n m ≡ true → BadState s n m
    bad e =
        or_true (ltb n s.written) _ e (λ a. past_output (ltb-true _ _ a)) (λ e₁.
        or_true (ltb LIMIT s.written) _ e₁ (λ a. past_limit (ltb-true _ _ a)) (λ e₂.
        or_true (ltb m s.count) _ e₂ (λ a. past_table (ltb-true _ _ a)) (λ e₃.
        let open_value = ltb-true 0 s.pending (and_l (ltb 0 s.pending) _ e₃) in
        or_true (leb m s.count) _ (and_r (ltb 0 s.pending) _ e₃) (λ a. no_free_word open_value (leb-true _ _ a))
        (λ a. start_not_below open_value (leb-true _ _ a)))))

    good : Sound s n m → BadState s n m → ⊥
    good h (past_output a) = omega (arith, h.inside)
    good h (past_limit a) = omega (arith, h.short)
    good h (past_table a) = omega (arith, h.listed)
    good h (no_free_word p a) = omega (arith, h.free p)
    good h (start_not_below p a) = omega (arith, h.begun p)

listed_decides : (s : State) (table : List ℕ) (x : ℕ) → Decides (is_listed s table x) (Listed s table x)
listed_decides s table x = record {
  yes = λ e.
      let (i, less, same) = among_by x (take s.count table) (and_r (ltb x s.written) _ e) in
      let long = length-take s.count table in
      record {
        below = ltb-true x s.written (and_l (ltb x s.written) _ e);
        word = i;
        listed = omega arith;
        inside = omega arith;
        same = sym (get_or-take s.count table i 0 (omega arith)) ∙ same;
      };
  none = λ e h. true≢false (sym (listed_is h) ∙ e);
}
  where
    listed_is : Listed s table x → is_listed s table x ≡ true
    listed_is h =
        rw (lt-ltb x s.written h.below)
        (among_at x (take s.count table) h.word (omega (arith, h.listed, h.inside, length-take s.count table))
        (get_or-take s.count table h.word 0 h.listed ∙ h.same))

-- ---- the order, for any flags

row : (R : ℕ → Type 0) (t : Bool) (g : ℕ) {v : Verdict} {f : ℕ} → pick t (error g) v ≡ error f → (t ≡ true → R g) → (t ≡ false → v ≡ error f → R f) → R f
row R true g {v} {f} e a b = let same : g ≡ f = cc in subst R same (a refl)
row R false g e a b = b refl e

module _ (l : Request) (s : State) (out table : List ℕ) (q : CallFlags) (short : Bool)
    (is-owed : Decides (q.alone && ltb 0 s.pending) (Owed l s))
    (is-text : Decides q.nontext (BadText l))
    (is-target : Decides q.unlisted (BadTarget l s table))
    (is-full : Decides (q.adds && eqb s.pending 0 && leb (length table) s.count) (Full l s (length table)))
    (is-short : (Owed l s → ⊥) → Decides short (NoRoom l s (length out))) where
  abbrev verdict : Verdict
  verdict = refusal_of q short s (length out) (length table)

  is_bad : Decides (bad_state s (length out) (length table)) (BadState s (length out) (length table))
  is_bad = bad_decides s (length out) (length table)

  to_row : (f : ℕ) → verdict ≡ error f → RefusedCall l s out table f
  unfolding refusal_of
  to_row f e =
      let R = RefusedCall l s out table in
      row R (bad_state s (length out) (length table)) BAD_STATE e (λ t. in_bad_state (is_bad.yes t)) (λ t e₁. let good = is_bad.none t in
      row R s.closed CLOSED e₁ (closed good) (λ open-yet e₂.
      row R (q.alone && ltb 0 s.pending) OWED e₂ (λ t. owed good open-yet (is-owed.yes t)) (λ t₁ e₃. let alike = is-owed.none t₁ in
      row R q.nontext BAD_TEXT e₃ (λ t. text good open-yet alike (is-text.yes t)) (λ t₂ e₄. let clear = is-text.none t₂ in
      row R q.unlisted BAD_TARGET e₄ (λ t. target good open-yet alike clear (is-target.yes t)) (λ t₃ e₅. let named = is-target.none t₃ in
      row R (q.adds && eqb s.pending 0 && leb (length table) s.count) FULL e₅ (λ t. full good open-yet alike clear named (is-full.yes t)) (λ t₄ e₆.
      row R short NO_ROOM e₆ (λ t. no_room good open-yet alike clear named (is-full.none t₄) ((is-short alike).yes t)) (λ _ none.
      let z : ◌≡◌ {A = ℕ} 0 1 = cc in absurd (omega arith))))))))

  from_row : (f : ℕ) → RefusedCall l s out table f → verdict ≡ error f
  unfolding refusal_of
  from_row f (in_bad_state b) = rw (true_of _ is_bad b)
  from_row f (closed g c) = rw (false_of _ is_bad g, c)
  from_row f (owed g c o) = rw (false_of _ is_bad g, c, true_of _ is-owed o)
  from_row f (text g c o t) = rw (false_of _ is_bad g, c, false_of _ is-owed o, true_of _ is-text t)
  from_row f (target g c o t n) = rw (false_of _ is_bad g, c, false_of _ is-owed o, false_of _ is-text t, true_of _ is-target n)
  from_row f (full g c o t n w) =
      rw (false_of _ is_bad g, c, false_of _ is-owed o, false_of _ is-text t, false_of _ is-target n, true_of _ is-full w)
  from_row f (no_room g c o t n w r) =
      rw (
        false_of _ is_bad g,
        c,
        false_of _ is-owed o,
        false_of _ is-text t,
        false_of _ is-target n,
        false_of _ is-full w,
        true_of _ (is-short o) r,
      )

  refusal_rows : (f : ℕ) → (verdict ≡ error f) ↔ RefusedCall l s out table f
  refusal_rows f = (to_row f, from_row f)

-- ---- a token

decides_off : (b : Bool) → Decides (not b) (b ≡ false)
decides_off b = record { yes = λ e. not-true b e; none = λ e h. true≢false (sym (not-false b e) ∙ h) }

text_decides : (b : List ℕ) → Decides (is_text b) (Text b)
text_decides b = record { yes = is_text_text b; none = λ e t. true≢false (sym (text_is_text t) ∙ e) }

target_decides : (far : Bool) (k x : ℕ) (s : State) (table : List ℕ) → Decides far (14 ≤ k)
    → Decides (far && not (is_listed s table (pick far x 0))) ((14 ≤ k) × (Listed s table x → ⊥))
target_decides true k x s table d = decides_and true _ _ _ d (decides_not _ _ (listed_decides s table x))
target_decides false k x s table d = record { yes = λ e. absurd (false≢true e); none = λ e h. d.none refl h.0 }

module _ (s : State) (out table : List ℕ) where
  -- the room, by the bytes needed in all
  room_decides : (w size k x : ℕ) → s.written ≡ w → 0 < size → x ≡ w + size + k + 1
      → Decides (ltb (room s (length out)) (size + k)) (min (length out) LIMIT < x)
  room_decides w size k x e pos sum =
      subst (λ t. Decides t (min (length out) LIMIT < x)) (rw (← e) at (room_test (min (length out) LIMIT) w size k x pos sum))
      (decides_lt (min (length out) LIMIT) x)

  part_rows : (p : Part) (f : ℕ) → let t = form_of s.written p in
      (token_refusal (opens t) t (pick (leb 14 p.kind) p.number 0) s out table ≡ error f) ↔ RefusedCall (adds p) s out table f
  unfolding token_refusal form_of
  part_rows p f =
      let t = form_of s.written p in
      let items : due s.pending (pending_of t) ≡ items_after p s = rw (pending_form s.written p) in
      refusal_rows (adds p) s out table (token_flags (opens t) t (pick (leb 14 p.kind) p.number 0) s table)
      (ltb (room s (length out)) (bytes_needed t s))
      (decides_and _ _ _ _ (decides_off (immediate (rule p.kind))) (decides_lt 0 s.pending))
      (decides_and _ _ _ _ (decides_eq p.kind 4) (decides_not _ _ (text_decides p.body)))
      (target_decides (leb 14 p.kind) p.kind p.number s table (decides_le 14 p.kind))
      (decides_and _ _ _ _ (decides_eq s.pending 0) (decides_le (length table) s.count))
      (λ _. room_decides s.written (length (emit t)) (due s.pending (pending_of t)) _ refl (emit_pos t) (omega (arith, items)))
      f

  -- a close by the delta byte, and by a pointer
  module _ (e : ℕ) where
    abbrev back : ℕ
    back = s.written - e - 1

    owed_decides : Decides (ltb 0 s.pending) (0 < s.pending)
    owed_decides = decides_lt 0 s.pending

    never : Decides false ⊥
    never = record { yes = λ e. absurd (false≢true e); none = λ _ h. h }

    near_rows : back ≤ 255 → (f : ℕ) → (delta_refusal e s out table ≡ error f) ↔ RefusedCall (ends e) s out table f
    unfolding delta_refusal
    near_rows near =
        refusal_rows (ends e) s out table (delta_flags e s table) (leb (limit (length out)) s.written) owed_decides never
        (decides_not _ _ (listed_decides s table e))
        (record { yes = λ e. absurd (false≢true e); none = λ _ h. omega (arith, h.0) })
        (λ _. rw (le-ltb 255 back near) (record {
          yes = λ t. omega (arith, leb-true (limit (length out)) s.written t);
          none = λ t h. omega (arith, leb-false (limit (length out)) s.written t);
        }))

    far_rows : 255 < back → (f : ℕ) → (token_refusal true (pointer_to e s) e s out table ≡ error f) ↔ RefusedCall (ends e) s out table f
    unfolding token_refusal form_of rule
    far_rows far =
        let t = pointer_to e s in
        refusal_rows (ends e) s out table (token_flags true t e s table) (ltb (room s (length out)) (bytes_needed t s)) owed_decides never
        (decides_not _ _ (listed_decides s table e))
        (record {
          yes = λ h. (far, eqb-true _ _ (and_l _ _ h), leb-true _ _ (and_r (eqb s.pending 0) _ h));
          none = λ h c. (decides_and _ _ _ _ (decides_eq s.pending 0) (decides_le (length table) s.count)).none h (c.1, c.2);
        })
        (λ none. rw (lt-ltb 255 back far)
        (let zero : s.pending ≡ 0 = split 0 s.pending (λ h. absurd (none h)) (λ h. omega arith) in
        let items : due s.pending (pending_of t) ≡ 0 = rw zero (omega arith) in
        room_decides s.written (length (emit t)) (due s.pending (pending_of t)) _ refl (emit_pos t) (omega (arith, items))))

-- ---- a call

module _ (s : State) (out table : List ℕ) (f : ℕ) where
  settled_rows : (l : Request) (v : Verdict) (r : Result) → r.answer ≡ ok tt → ((v ≡ error f) ↔ RefusedCall l s out table f)
      → (((settled v s out table r).answer ≡ error f) ↔ RefusedCall l s out table f)
  settled_rows l v r e = subst (λ u. (u ≡ error f) ↔ RefusedCall l s out table f) (sym (settled_answer v s out table r e))

  request_rows : (l : Request) → ((move (move_as s.written l) s out table).answer ≡ error f) ↔ RefusedCall l s out table f
  unfolding put_token close_at write write_delta write_pointer_delta
  request_rows (adds p) = settled_rows (adds p) _ _ refl (part_rows s out table p f)
  request_rows (ends e) =
      pick_elim (λ (r : Result). (r.answer ≡ error f) ↔ RefusedCall (ends e) s out table f) (leb (s.written - e - 1) 255)
      (λ near. settled_rows (ends e) _ _ refl (near_rows s out table e (leb-true _ 255 near) f))
      (λ far. settled_rows (ends e) _ _ refl (far_rows s out table e (leb-false _ 255 far) f))

-- in any state, with any output and table
pub refused_call_exactly : (c : Call) (s : State) (out table : List ℕ) (f : ℕ)
    → ((step c s out table).answer ≡ error f) ↔ RefusedCall (request_of c) s out table f
refused_call_exactly c s out table f = rw (move_request c s.written) (request_rows s out table f (request_of c))
