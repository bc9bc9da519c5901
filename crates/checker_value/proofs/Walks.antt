-- The walk of check over a region.
--
-- In order: a token that the walk takes; what holds for a walk, and for the walk after a token; turns; the starts that
-- it yields are rising and within the region; a value as the code checks it, by its token and its items.
use mathlib.Core.Path.{◌≡◌, refl, sym, ◌∙◌, subst}
use Prim.Native.Nat.{ℕ, ◌+◌, ◌-◌, ◌≤◌, ◌<◌}
use mathlib.Core.Bool.{Bool, true, false, not, ◌&&◌}
use mathlib.Core.List.{List, [], ◌∷◌, ◌++◌}
use native.Mathlib.Nat.{not-suc-le-zero}
use native.Mathlib.Omega.{arith}
use borrow.Author.Tests.{lt-ltb, le-leb, lt-leb, eq-eqb, ne_eqb, eqb-false}
use lib.Dec.{eqb, ltb, leb}
use lib.ListN.{length, get_or, length-append}
use Rattle.prelude.specs.Answer.{Answer, ok, error, bind}
use Rattle.prelude.specs.Loop.{Turn, go, stop}
use Rattle.prelude.specs.Search.{Rising}
use Rattle.prelude.proofs.Tests.{pick_elim, split, and_false, facts}
use Rattle.prelude.proofs.Lists.{below_snoc}
use Rattle.prelude.proofs.Readers.{bind_ok, bind_error}
use Rattle.prelude.proofs.Turns.{from_go, from_stop, from_all}
use Rattle.prelude.proofs.Searches.{rising_nil, rising_snoc}
use Rattle.error.specs.Error.{Fault, fault, BAD_TEXT, BAD_TARGET, FULL}
use Rattle.error.specs.declared.Error.{Error}
use Rattle.leb128.specs.declared.Mode.{Mode}
use Rattle.utf8.specs.Text.{is_text}
use Rattle.kind.specs.Kind.{due}
use Rattle.std.specs.Prelude.{Result, Ok, Err}
use Rattle.scan.specs.Answers.{scan_at, body_on}
use Rattle.scan.specs.declared.Head.{Head}
use Rattle.scan.proofs.Places.{Within, scan_within}
use Rattle.checker_value.specs.Walk.{has_target, token_fault, Walk, between, next_token, walk_after, walk_turned, walk_turn, starts_from}
use Rattle.checker_value.specs.Internal.{in_value, Ends}

-- ---- a token that the walk takes

-- a head that was taken was scanned, its text is text, and its target is a start; a new value has a word
pub record TokenTaken (mode : Mode) (s : List ℕ) (cap : ℕ) (done : List ℕ) (pending at : ℕ) (h : Head) : Type 0 where
  pub scanned : ok h ≡ scan_at mode (ltb 0 pending) s at
  pub text : (eqb h.kind 4 && not (is_text (body_on s h))) ≡ false
  pub target : (leb 14 h.kind && not (has_target done at h)) ≡ false
  pub room : pending ≡ 0 → length done < cap

module _ (mode : Mode) (s : List ℕ) (cap : ℕ) (done : List ℕ) (pending at : ℕ) where
  abbrev Takes : Answer Fault Head → Type 0
  Takes (ok h) = TokenTaken mode s cap done pending at h
  Takes (error e) = Unit {0}

  takes : Takes (next_token mode s cap done pending at)
  unfolding next_token token_fault bind
  takes =
      pick_elim Takes (eqb pending 0 && leb cap (length done)) (λ full. tt)
      (λ free. by_cases (λ z. and_false (eqb pending 0) _ free (λ f. absurd (eqb-false pending 0 f z)) (λ f. omega facts))
      (scan_at mode (ltb 0 pending) s at) refl)
    where
      by_cases : (pending ≡ 0 → length done < cap) → (a : Answer Fault Head) → scan_at mode (ltb 0 pending) s at ≡ a → Takes (bind a (token_fault s done at))
      by_cases room (ok h) e =
          pick_elim Takes (eqb h.kind 4 && not (is_text (body_on s h))) (λ t. tt)
          (λ text. pick_elim Takes (leb 14 h.kind && not (has_target done at h)) (λ t. tt)
          (λ target. record { scanned = sym e; text = text; target = target; room = room }))
      by_cases room (error f) e = tt

  pub taken : (h : Head) → ok h ≡ next_token mode s cap done pending at → TokenTaken mode s cap done pending at h
  taken h e = subst Takes (sym e) takes

-- ---- what holds for a walk

-- the starts rise up to the start of the value that the walk is in, which has a word; all is within the region
pub record WalkInvariant (s : List ℕ) (cap : ℕ) (w : Walk) : Type 0 where
  pub rising : Rising w.done
  pub below : (k : ℕ) → k < length w.done → get_or w.done k 0 < w.start
  pub start : w.start ≤ w.at
  pub inside : w.at ≤ length s
  pub count : length w.done ≤ cap
  pub room : 0 < w.pending → length w.done < cap

pub invariant_begun : (s : List ℕ) (cap : ℕ) → WalkInvariant s cap (between 0 [])
invariant_begun s cap = record {
  rising = rising_nil;
  below = λ k h. absurd (not-suc-le-zero h);
  start = omega arith;
  inside = omega arith;
  count = omega arith;
  room = λ h. omega arith;
}

-- after a finished value
pub invariant_finished : (s : List ℕ) (cap : ℕ) (w : Walk) → WalkInvariant s cap w → length w.done < cap → (end : ℕ) → w.start < end → end ≤ length s
    → WalkInvariant s cap (between end (w.done ++ (w.start ∷ [])))
invariant_finished s cap w g word end past inside = record {
  rising = rising_snoc w.done w.start g.rising g.below;
  below = below_snoc w.done w.start end (λ k b. omega (arith, g.below k b)) past;
  start = omega arith;
  inside = inside;
  count = omega (arith, length-append w.done (w.start ∷ []));
  room = λ p. omega arith;
}

module _ (mode : Mode) (s : List ℕ) (cap : ℕ) (w : Walk) (h : Head) (e : ok h ≡ next_token mode s cap w.done w.pending w.at) where
  pub ahead : Within s w.at h
  ahead = scan_within mode _ s w.at h (taken mode s cap w.done w.pending w.at h e).scanned

  pub after_invariant : WalkInvariant s cap w → WalkInvariant s cap (walk_after w h)
  unfolding walk_after
  after_invariant g =
      let a = ahead in
      let t = taken mode s cap w.done w.pending w.at h e in
      let word : length w.done < cap = split 0 w.pending g.room (λ z. t.room (omega arith)) in
      pick_elim (WalkInvariant s cap) (eqb (due w.pending h.items) 0)
      (λ z. invariant_finished s cap w g word h.end (omega (arith, g.start, a.numbers, a.body)) a.end)
      (λ z. record {
        rising = g.rising;
        below = g.below;
        start = omega (arith, g.start, a.numbers, a.body);
        inside = a.end;
        count = g.count;
        room = λ p. word;
      })

  pub after_less : length s - (walk_after w h).at < length s - w.at
  unfolding walk_after
  after_less =
      let a = ahead in
      pick_elim (λ (v : Walk). length s - v.at < length s - w.at) (eqb (due w.pending h.items) 0)
      (λ z. omega (arith, a.numbers, a.body, a.end)) (λ z. omega (arith, a.numbers, a.body, a.end))

-- ---- turns

-- a turn that goes on moves forward in the region
abbrev Falls : List ℕ → Walk → Turn Walk (Answer Fault (List ℕ)) → Type 0
Falls s w (go v) = length s - v.at < length s - w.at
Falls s w (stop a) = Unit {0}

module _ (mode : Mode) (s : List ℕ) (cap : ℕ) where
  turn_falls : (w : Walk) → Falls s w (walk_turn mode s cap w)
  unfolding walk_turn
  turn_falls w =
      pick_elim (Falls s w) (eqb w.pending 0 && leb (length s) w.at) (λ t. tt)
      (λ t. by_cases (next_token mode s cap w.done w.pending w.at) refl)
    where
      by_cases : (a : Answer Fault Head) → next_token mode s cap w.done w.pending w.at ≡ a → Falls s w (walk_turned w a)
      by_cases (ok h) e = after_less mode s cap w h (sym e)
      by_cases (error f) e = tt

  falls : (w v : Walk) → walk_turn mode s cap w ≡ go v → length s - v.at < length s - w.at
  falls w v e = subst (Falls s w) e (turn_falls w)

  module _ (w : Walk) where
    pub walk_end : (eqb w.pending 0 && leb (length s) w.at) ≡ true → ok w.done ≡ starts_from mode s cap w
    unfolding starts_from walk_turn
    walk_end t = sym (from_stop (walk_turn mode s cap) _ _ falls w _ (rw t))

    module _ (t : (eqb w.pending 0 && leb (length s) w.at) ≡ false) where
      pub walk_error : (f : Fault) → error f ≡ next_token mode s cap w.done w.pending w.at → error f ≡ starts_from mode s cap w
      unfolding starts_from walk_turn
      walk_error f e = sym (from_stop (walk_turn mode s cap) _ _ falls w _ (rw (t, ← e)))

      pub walk_token : (h : Head) → ok h ≡ next_token mode s cap w.done w.pending w.at → starts_from mode s cap (walk_after w h) ≡ starts_from mode s cap w
      unfolding starts_from walk_turn
      walk_token h e = sym (from_go (walk_turn mode s cap) _ _ falls w _ (rw (t, ← e)))

  -- ---- the starts that the walk yields

  abbrev Comes : Answer Fault (List ℕ) → Type 0
  Comes (ok done) = (Rising done) × (length done ≤ cap) × ((k : ℕ) → k < length done → get_or done k 0 < length s)
  Comes (error f) = Unit {0}

  abbrev Keeps : Turn Walk (Answer Fault (List ℕ)) → Type 0
  Keeps (go v) = WalkInvariant s cap v
  Keeps (stop a) = Comes a

  turn_keeps : (w : Walk) → WalkInvariant s cap w → Keeps (walk_turn mode s cap w)
  unfolding walk_turn
  turn_keeps w g =
      pick_elim Keeps (eqb w.pending 0 && leb (length s) w.at)
      (λ t. (g.rising, g.count, λ k h. omega (arith, g.below k h, g.start, g.inside)))
      (λ t. by_cases (next_token mode s cap w.done w.pending w.at) refl)
    where
      by_cases : (a : Answer Fault Head) → next_token mode s cap w.done w.pending w.at ≡ a → Keeps (walk_turned w a)
      by_cases (ok h) e = after_invariant mode s cap w h (sym e) g
      by_cases (error f) e = tt

  starts_come : Comes (starts_from mode s cap (between 0 []))
  unfolding starts_from
  starts_come =
      from_all (walk_turn mode s cap) _ (WalkInvariant s cap) Comes (λ w v g e. subst Keeps e (turn_keeps w g)) (λ w a g e. subst Keeps e (turn_keeps w g)) tt _
      (between 0 []) (invariant_begun s cap)

  pub come : (done : List ℕ) → ok done ≡ starts_from mode s cap (between 0 []) → Comes (ok done)
  come done e = subst Comes (sym e) starts_come

-- ---- a value as the code checks it

-- the token at `at`, as an item if `inner` is true: `next_token` without FULL
abbrev token : Mode → Bool → List ℕ → List ℕ → ℕ → Answer Fault Head
token mode inner s done at = bind (scan_at mode inner s at) (token_fault s done at)

-- what `scan` answered for it, and the tests of its text and its target
module _ (mode : Mode) (inner : Bool) (s done : List ℕ) (at : ℕ) where
  pub token_unscanned : (f : Fault) → error f ≡ scan_at mode inner s at → error f ≡ token mode inner s done at
  token_unscanned f scanned = bind_error _ scanned

  module _ (h : Head) (scanned : ok h ≡ scan_at mode inner s at) (x : Bool) (text : x ≡ (eqb h.kind 4 && not (is_text (body_on s h)))) where
    pub token_bad_text : x ≡ true → error (fault BAD_TEXT at) ≡ token mode inner s done at
    unfolding token_fault
    token_bad_text bad = bind_ok _ scanned (rw (sym text ∙ bad))

    module _ (good : x ≡ false) (y : Bool) (target : y ≡ (leb 14 h.kind && not (has_target done at h))) where
      pub token_bad_target : y ≡ true → error (fault BAD_TARGET at) ≡ token mode inner s done at
      unfolding token_fault
      token_bad_target bad = bind_ok _ scanned (rw (sym text ∙ good, sym target ∙ bad))

      pub token_taken : y ≡ false → ok h ≡ token mode inner s done at
      unfolding token_fault
      token_taken fine = bind_ok _ scanned (rw (sym text ∙ good, sym target ∙ fine))

next_item : (mode : Mode) (s : List ℕ) (cap : ℕ) (done : List ℕ) (pending at : ℕ) → 0 < pending
    → next_token mode s cap done pending at ≡ token mode true s done at
unfolding next_token
next_item mode s cap done pending at more = rw (ne_eqb pending 0 (λ z. omega arith), lt-ltb 0 pending more)

next_value : (mode : Mode) (s : List ℕ) (cap : ℕ) (done : List ℕ) (at : ℕ) → length done < cap → next_token mode s cap done 0 at ≡ token mode false s done at
unfolding next_token
next_value mode s cap done at word = rw (lt-leb cap (length done) word)

-- an item
module _ (mode : Mode) (s done : List ℕ) (at pending : ℕ) (more : 0 < pending) (cap start : ℕ) where
  abbrev open_value : Walk
  open_value = record { at = at; start = start; pending = pending; done = done }

  is_open : eqb pending 0 ≡ false
  is_open = ne_eqb pending 0 (λ z. omega arith)

  pub item_error : (f : Fault) → error f ≡ token mode true s done at → error f ≡ starts_from mode s cap (in_value at start pending done)
  item_error f e = rw is_open (walk_error mode s cap open_value (rw is_open) f (e ∙ sym (next_item mode s cap done pending at more)))

  after_item : (h : Head) → walk_after open_value h ≡ in_value h.end start (pending - 1) done
  unfolding walk_after
  after_item h = rw is_open

  pub item_further : (h : Head) → ok h ≡ token mode true s done at → (left : ℕ) → left ≡ pending - 1
      → starts_from mode s cap (in_value h.end start left done) ≡ starts_from mode s cap (in_value at start pending done)
  item_further h e left one =
      rw (one, is_open, ← after_item h) (walk_token mode s cap open_value (rw is_open) h (e ∙ sym (next_item mode s cap done pending at more)))

pub items_end : (mode : Mode) (s done : List ℕ) (at pending : ℕ) → pending ≤ 0 → (cap start : ℕ)
    → starts_from mode s cap (between at (done ++ (start ∷ []))) ≡ starts_from mode s cap (in_value at start pending done)
items_end mode s done at pending none cap start = rw (eq-eqb pending 0 (omega arith))

-- a value
module _ (mode : Mode) (s done : List ℕ) (at : ℕ) (more : at < length s) (cap : ℕ) where
  is_more : (eqb 0 0 && leb (length s) at) ≡ false
  is_more = rw (lt-leb (length s) at more)

  pub value_full : cap ≤ length done → error (fault FULL at) ≡ starts_from mode s cap (between at done)
  unfolding next_token
  value_full full = walk_error mode s cap (between at done) is_more (fault FULL at) (rw (le-leb cap (length done) full))

  module _ (word : length done < cap) where
    pub value_error : (f : Fault) → error f ≡ token mode false s done at → error f ≡ starts_from mode s cap (between at done)
    value_error f e = walk_error mode s cap (between at done) is_more f (e ∙ sym (next_value mode s cap done at word))

    pub value_further : (h : Head) → ok h ≡ token mode false s done at → {a : Answer Fault (List ℕ)}
        → a ≡ starts_from mode s cap (in_value h.end at h.items done)
        → a ≡ starts_from mode s cap (between at done)
    unfolding walk_after
    value_further h e items = items ∙ walk_token mode s cap (between at done) is_more h (e ∙ sym (next_value mode s cap done at word))

-- the items end after the token
pub ends_after : (r : Result ℕ Error) (s : List ℕ) (at : ℕ) (h : Head) → Within s at h → Ends r h.end (length s) → Ends r (at + 1) (length s)
ends_after (Ok end) s at h w e = (omega (arith, w.numbers, w.body, e.0), e.1)
ends_after (Err f) s at h w e = tt
