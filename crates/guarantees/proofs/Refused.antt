-- What a refusal of check says, for each error.
--
-- In order: a file that is refused at once (`empty_exactly`, `too_long_exactly`); one whose entry is not the start of a
-- value (`bad_entry_exactly`); every other refusal: all before some offset is well formed, and the token that is wanted there is refused (`faulty`); such
-- a fault is the answer (`fault_first`); all errors, both ways (`fault_exactly`); the place of a token's fault (`fault_place`); a file has one such fault,
-- at one offset (`fault_once`).
use mathlib.Core.Path.{◌≡◌, refl, sym, ap, ◌∙◌, subst}
use mathlib.Core.Logic.{◌↔◌}
use Prim.Native.Nat.{ℕ, zero, suc, ◌+◌, ◌-◌, ◌≤◌, ◌<◌}
use mathlib.Core.Bool.{true, false, ◌&&◌, false≢true}
use mathlib.Core.List.{List, [], ◌∷◌, ◌++◌, append_assoc, append-nil}
use native.Mathlib.Nat.{add-zero, zero-add, suc-ne-zero}
use native.Mathlib.Omega.{arith}
use borrow.Author.Tests.{lt-leb, ne_eqb}
use lib.Dec.{eqb, leb, ltb}
use lib.ListN.{length, take, drop, length-append, take-append-drop}
use lib.Seq.{take_at, take-append-le, drop-append_seam}
use Rattle.prelude.specs.Answer.{ok, error}
use Rattle.prelude.specs.Bytes.{Bytes}
use Rattle.prelude.specs.Search.{among}
use Rattle.prelude.proofs.Readers.{bind_ok, bind_error}
use Rattle.error.specs.Error.{Fault, fault, LIMIT, EMPTY, TOO_LONG, BAD_ENTRY}
use Rattle.leb128.specs.declared.Mode.{Mode}
use Rattle.leb128.specs.declared.Mode.TheVariants.{Strict}
use Rattle.token.specs.Token.{Token, emit, Fits}
use Rattle.values.specs.Values.{Value, bytes, region, starts, Values}
use Rattle.values.proofs.Laws.{length_starts}
use Rattle.scan.specs.declared.Head.{Head}
use Rattle.checker_value.specs.Walk.{Walk, between, next_token, walk_after, starts_from}
use Rattle.checker.specs.Check.{check_in, check_of}
use Rattle.checker_value.proofs.Walks.{WalkInvariant, walk_error}
use Rattle.guarantees_faults.specs.Faults.{HasPlace, RefusedToken}
use Rattle.guarantees_faults.proofs.Refused.{error_of_refused}
use Rattle.guarantees_faults.proofs.Places.{walk_errors, known_strict, refused_known, refused_place}
use Rattle.guarantees.specs.Refused as rows
use Rattle.guarantees.specs.Refused.{Unnamed, Begun, Open, Faulty, RefusedCheck}
use Rattle.guarantees.proofs.Files.{Whole, whole, length_whole, region_whole, bytes_whole, check_in_whole, entered, entered_none}
use Rattle.guarantees.proofs.Files.{empty, long, at_once, answer_error, Failed, early, walking, last, failed}
use Rattle.guarantees.proofs.WalkTokens.{settled, Backward, starts_backward}
use Rattle.guarantees.proofs.WalkValues.{WalkedValues, idle, busy}
use Rattle.guarantees.proofs.Ends.{Ends, walk_ends}
use Rattle.guarantees.proofs.Accepts.{walks_open, walks_prefix, walks_all}
use Rattle.guarantees.proofs.Accepted.{walked_ends, walked_region}

-- ---- where a file failed

pub numbers : {f g : Fault} → f ≡ g → f.number ≡ g.number
numbers e = ap (λ (x : Fault). x.number) e

pub places : {f g : Fault} → f ≡ g → f.place ≡ g.place
places e = ap (λ (x : Fault). x.place) e

pub walk_known : (mode : Mode) (s : List ℕ) (cap : ℕ) (f : Fault) → error f ≡ starts_from mode s cap (between 0 []) → among f.number (walk_errors mode) ≡ true
walk_known mode s cap f e =
    let r = subst (Ends mode s cap (λ v. Unit {0})) (sym e) (walk_ends mode s cap (λ v. Unit {0}) (λ v h t u. tt) tt) in
    refused_known r.refused

-- whatever the mode, it is one of the strict mode's
walk_any : (mode : Mode) (s : List ℕ) (cap : ℕ) (f : Fault) → error f ≡ starts_from mode s cap (between 0 []) → among f.number (walk_errors Strict) ≡ true
walk_any mode s cap f e = known_strict mode f.number (walk_known mode s cap f e)

module _ (mode : Mode) (file : List ℕ) (cap : ℕ) where
  pub fails : (f : Fault) → (check_of mode file cap).answer ≡ error f → Failed mode file cap f
  unfolding check_of
  fails f e = failed file cap f (answer_error cap f (check_in mode file cap) e)

  answers : (f : Fault) → error f ≡ check_in mode file cap → (check_of mode file cap).answer ≡ error f
  unfolding check_of
  answers f e = rw (← e)

  -- ---- at once

  pub empty_exactly : (p : ℕ) → ((check_of mode file cap).answer ≡ error (fault EMPTY p)) ↔ ((length file ≡ 0) × (p ≡ 0))
  unfolding among
  empty_exactly p = (
    λ e. by_failed (fails (fault EMPTY p) e),
    λ h. answers (fault EMPTY p) (at_once mode file (fault EMPTY p) cap (empty h.0 (ap (fault EMPTY) h.1))),
  )
    where
      by_failed : Failed mode file cap (fault EMPTY p) → (length file ≡ 0) × (p ≡ 0)
      by_failed (early (empty z q)) = (z, places q)
      by_failed (early (long l q)) = absurd (omega (arith, numbers q))
      by_failed (walking w q) = absurd (false≢true (walk_any mode w.region cap (fault EMPTY p) q))
      by_failed (last w done walked q none) = absurd (omega (arith, numbers q))

  pub too_long_exactly : (p : ℕ) → ((check_of mode file cap).answer ≡ error (fault TOO_LONG p)) ↔ ((LIMIT < length file) × (p ≡ 0))
  unfolding among
  too_long_exactly p = (
    λ e. by_failed (fails (fault TOO_LONG p) e),
    λ h. answers (fault TOO_LONG p) (at_once mode file (fault TOO_LONG p) cap (long h.0 (ap (fault TOO_LONG) h.1))),
  )
    where
      by_failed : Failed mode file cap (fault TOO_LONG p) → (LIMIT < length file) × (p ≡ 0)
      by_failed (early (empty z q)) = absurd (omega (arith, numbers q))
      by_failed (early (long l q)) = (l, places q)
      by_failed (walking w q) = absurd (false≢true (walk_any mode w.region cap (fault TOO_LONG p) q))
      by_failed (last w done walked q none) = absurd (omega (arith, numbers q))

  -- ---- the entry

  unnamed_fails : (p : ℕ) → Unnamed mode file cap p → error (fault BAD_ENTRY p) ≡ check_in mode file cap
  unnamed_fails p u =
      let s = region u.values in
      let w : Whole file = record { region = s; delta = u.delta; short = u.short; same = u.same } in
      rw u.place (bind_ok (entered (length s) u.delta) (walks_all u.values cap u.formed u.room)
      (entered_none (length s) u.delta (starts 0 u.values) u.unnamed)
      ∙ sym (check_in_whole file w mode cap))

  pub bad_entry_exactly : (p : ℕ) → Bytes file → ((check_of mode file cap).answer ≡ error (fault BAD_ENTRY p)) ↔ Unnamed mode file cap p
  unfolding among
  bad_entry_exactly p b = (λ e. by_failed (fails (fault BAD_ENTRY p) e), λ u. answers (fault BAD_ENTRY p) (unnamed_fails p u))
    where
      by_failed : Failed mode file cap (fault BAD_ENTRY p) → Unnamed mode file cap p
      by_failed (early (empty z q)) = absurd (omega (arith, numbers q))
      by_failed (early (long l q)) = absurd (omega (arith, numbers q))
      by_failed (walking w q) = absurd (false≢true (walk_any mode w.region cap (fault BAD_ENTRY p) q))
      by_failed (last w done walked q none) =
          let l = walked_region mode w.region cap (bytes_whole file w b) done walked in
          record {
            short = w.short;
            values = l.values;
            formed = l.formed;
            room = l.room;
            delta = w.delta;
            same = w.same ∙ ap (λ s. s ++ (w.delta ∷ [])) l.same;
            place = places q ∙ ap length l.same;
            unnamed = λ e named. rw l.starts at (none e (rw l.same named));
          }

-- ---- the first fault of the walk

module _ (mode : Mode) (file : List ℕ) (cap : ℕ) (f : Fault) (w : Whole file) where
  abbrev s : List ℕ
  s = w.region

  -- at the end of some bytes of the region: values, and the tokens of an open value
  faulty_at : (vs : List Value) (ts : List Token) (k : ℕ) (rest front : List ℕ) → front ≡ region vs ++ bytes ts → s ≡ front ++ rest → Values mode vs
      → length vs ≤ cap → Open mode cap (length s) vs ts k → (k ≡ 0 → length front < length s)
      → RefusedToken mode s cap (starts 0 vs) k (length front) f → Faulty mode file cap (length front) f
  faulty_at vs ts k rest front is same formed room begun more reported =
      let len : length file - 1 ≡ length s = omega (arith, length_whole file w) in
      let all : file ≡ front ++ (rest ++ (w.delta ∷ [])) = w.same ∙ rw (← append_assoc) (ap (λ x. x ++ (w.delta ∷ [])) same) in
      record {
        some = omega (arith, length_whole file w);
        short = w.short;
        values = vs;
        formed = formed;
        room = room;
        tokens = ts;
        missing = k;
        begun = rw len begun;
        same = ap (take (length front)) all ∙ take_at front _ (length front) refl ∙ is;
        place = ap length (sym is);
        inside = omega (arith, len, ap length same, length-append front rest);
        more = rw len more;
        refused = rw (region_whole file w) reported;
      }

  faulty_walk : (v : Walk) → WalkedValues mode s v → WalkInvariant s cap v → (v.pending ≡ 0 → v.at < length s)
      → RefusedToken mode s cap v.done v.pending v.at f → Faulty mode file cap v.at f
  unfolding bytes
  faulty_walk v (idle {vs} rest values same) g more reported =
      faulty_at vs [] 0 rest (region vs) (sym (append-nil (region vs))) same values (omega (arith, g.count, length_starts 0 vs)) refl more reported
  faulty_walk v (busy {vs} {t} {is} {rest} {k} p) g more reported =
      let front = region vs ++ bytes (t ∷ is) in
      let word : length vs < cap = omega (arith, g.room (omega arith), length_starts 0 vs) in
      let long : length front ≡ length (region vs) + length (bytes (t ∷ is)) = length-append (region vs) (bytes (t ∷ is)) in
      let begun : Begun mode cap (length s) vs t is (suc k) = record {
        word = word;
        head = p.head;
        room = p.room;
        items = p.items;
        count = p.count;
        targets = p.targets;
      } in
      rw (← long) (faulty_at vs (t ∷ is) (suc k) rest front refl (p.same ∙ sym (append_assoc (region vs) (bytes (t ∷ is)) rest)) p.values
      (omega arith) (omega arith, begun) (rw long more) (rw long reported))

  faulty : Bytes file → error f ≡ starts_from mode s cap (between 0 []) → (p : ℕ) × Faulty mode file cap p f
  faulty b e =
      let r = subst (Ends mode s cap (WalkedValues mode s)) (sym e) (walked_ends mode s cap (bytes_whole file w b)) in
      (r.walk.at, faulty_walk r.walk r.holds r.going r.inside r.refused)

-- ---- and such a fault is the answer

-- the walk is at p, and refuses the token there with f
record Stops (mode : Mode) (s : List ℕ) (cap p : ℕ) (f : Fault) (w : Walk) : Type 0 where
  here : w.at ≡ p
  going : (eqb w.pending 0 && leb (length s) w.at) ≡ false
  refuses : error f ≡ next_token mode s cap w.done w.pending w.at

module _ (mode : Mode) (s : List ℕ) (cap : ℕ) (f : Fault) (P : Walk → Type 0) (back : Backward mode s cap P) (vs : List Value) (rest : List ℕ) where
  abbrev at : ℕ
  at = length (region vs)

  -- the walk after the values reaches the fault
  open_fails : (ts : List Token) (k : ℕ) → Open mode cap (length s) vs ts k → s ≡ region vs ++ (bytes ts ++ rest)
      → (k ≡ 0 → at + length (bytes ts) < length s) → error f ≡ next_token mode s cap (starts 0 vs) k (at + length (bytes ts))
      → ((w : Walk) → Stops mode s cap (at + length (bytes ts)) f w → P w) → P (between at (starts 0 vs))
  unfolding bytes
  open_fails [] k z same more reported stops =
      let here : error f ≡ next_token mode s cap (starts 0 vs) 0 at = rw (z, add-zero) at reported in
      stops (between at (starts 0 vs)) (record { here = sym (add-zero at); going = lt-leb (length s) at (omega (arith, more z)); refuses = here })
  open_fails (t ∷ is) zero (pos, b) same more reported stops = absurd (omega arith)
  open_fails (t ∷ is) (suc k) (pos, b) same more reported stops =
      let behind : drop at s ≡ bytes (t ∷ is) ++ rest = rw same (drop-append_seam (region vs) (bytes (t ∷ is) ++ rest)) in
      let long : length s ≡ at + length (emit t) + length (bytes is ++ rest) = ap length same ∙ simp length-append (omega arith) in
      let fits : Fits mode false t (bytes is ++ rest) =
      record { allowed = b.head.allowed; spelled = b.head.spelled; flat = refl; room = omega (arith, b.room) } in
      let word : length (starts 0 vs) < cap = omega (arith, b.word, length_starts 0 vs) in
      walks_open mode s cap P back (starts 0 vs) at (suc k) t is rest behind fits b.head.text b.items b.count b.targets word
      (stops (settled at (starts 0 vs) (at + length (bytes (t ∷ is))) (suc k))
      (record { here = refl; going = rw (ne_eqb (suc k) 0 (suc-ne-zero k)); refuses = reported }))

-- the walk from the start reaches it: so what holds there, and goes backward, holds at the start
faulty_reached : {mode : Mode} (file : List ℕ) (cap p : ℕ) (f : Fault) → Faulty mode file cap p f → (w : Whole file) (P : Walk → Type 0)
    → Backward mode w.region cap P
    → ((v : Walk) → Stops mode w.region cap p f v → P v) → P (between 0 [])
faulty_reached {mode} file cap p f x w P back stops =
    let s = w.region in
    let vs = x.values in
    let ts = x.tokens in
    let len : length file - 1 ≡ length s = omega (arith, length_whole file w) in
    let front : take p s ≡ region vs ++ bytes ts =
    sym (take-append-le p s (w.delta ∷ []) (omega (arith, x.inside))) ∙ ap (take p) (sym w.same) ∙ x.same in
    let same : s ≡ region vs ++ (bytes ts ++ drop p s) =
    sym (take-append-drop p s) ∙ ap (λ y. y ++ drop p s) front ∙ append_assoc (region vs) (bytes ts) (drop p s) in
    let at : p ≡ length (region vs) + length (bytes ts) = sym x.place ∙ length-append (region vs) (bytes ts) in
    let reported : error f ≡ next_token mode s cap (starts 0 vs) x.missing p =
    rw (region_whole file w) at (sym (error_of_refused mode _ _ _ _ _ x.refused)) in
    walks_prefix mode s cap P back [] 0 vs (bytes ts ++ drop p s) same x.formed.formed x.formed.targets (omega (arith, x.room))
    (rw zero-add (open_fails mode s cap f P back vs (drop p s) ts x.missing (rw len at x.begun) same (rw (len, at) at x.more) (rw at at reported)
    (rw at at stops)))

faulty_fails : {mode : Mode} (file : List ℕ) (cap p : ℕ) (f : Fault) → Faulty mode file cap p f → (w : Whole file)
    → error f ≡ starts_from mode w.region cap (between 0 [])
faulty_fails {mode} file cap p f x w =
    let s = w.region in
    faulty_reached file cap p f x w (λ v. error f ≡ starts_from mode s cap v) (starts_backward mode s cap (error f))
    (λ v h. walk_error mode s cap v h.going f h.refuses)

pub fault_first : {mode : Mode} (file : List ℕ) (cap p : ℕ) (f : Fault) → Faulty mode file cap p f → (check_of mode file cap).answer ≡ error f
fault_first {mode} file cap p f x =
    let w = whole file x.some x.short in
    answers mode file cap f (bind_error _ (faulty_fails file cap p f x w) ∙ sym (check_in_whole file w mode cap))

-- ---- all of check's errors

refused_check : {mode : Mode} (file : List ℕ) (cap : ℕ) {f : Fault} → RefusedCheck mode file cap f → (check_of mode file cap).answer ≡ error f
refused_check {mode} file cap (rows.empty z) = (empty_exactly mode file cap 0).1 (z, refl)
refused_check {mode} file cap (rows.long l) = (too_long_exactly mode file cap 0).1 (l, refl)
refused_check {mode} file cap (rows.walk {p} {f} x) = fault_first file cap p f x
refused_check {mode} file cap (rows.entry {p} u) = answers mode file cap (fault BAD_ENTRY p) (unnamed_fails mode file cap p u)

pub fault_exactly : (mode : Mode) (file : List ℕ) (cap : ℕ) (f : Fault) → Bytes file → ((check_of mode file cap).answer ≡ error f) ↔ RefusedCheck mode file cap f
fault_exactly mode file cap f b = (λ e. by_failed (fails mode file cap f e) e, refused_check file cap)
  where
    by_failed : Failed mode file cap f → (check_of mode file cap).answer ≡ error f → RefusedCheck mode file cap f
    by_failed (early (empty z q)) e = rw q (rows.empty z)
    by_failed (early (long l q)) e = rw q (rows.long l)
    by_failed (walking w q) e = rows.walk (faulty mode file cap f w b q).1
    by_failed (last w done walked q unnamed) e = rw q (rows.entry ((bad_entry_exactly mode file cap (length w.region) b).0 (e ∙ ap error q)))

pub fault_place : {mode : Mode} {file : List ℕ} {cap p : ℕ} {f : Fault} (x : Faulty mode file cap p f)
    → HasPlace mode (take (length file - 1) file) (ltb 0 x.missing) p f
fault_place x = refused_place x.refused

-- ---- one offset, one fault

-- the walk from w stops at p, refusing with f
data Halts (mode : Mode) (s : List ℕ) (cap p : ℕ) (f : Fault) : Walk → Type 0 where
  stop : {w : Walk} → Stops mode s cap p f w → Halts mode s cap p f w
  on : {w : Walk} (h : Head) → ok h ≡ next_token mode s cap w.done w.pending w.at → Halts mode s cap p f (walk_after w h) → Halts mode s cap p f w

module _ {mode : Mode} {s : List ℕ} {cap p q : ℕ} {f g : Fault} where
  halts_once : {w : Walk} → Halts mode s cap p f w → Halts mode s cap q g w → (p ≡ q) × (f ≡ g)
  halts_once (stop x) (stop y) = let same : error f ≡ error g = x.refuses ∙ sym y.refuses in (sym x.here ∙ y.here, cc)
  halts_once (stop x) (on h e y) = let z : error f ≡ ok h = x.refuses ∙ sym e in let no : ◌≡◌ {A = ℕ} 0 1 = cc in absurd (omega arith)
  halts_once (on h e x) (stop y) = let z : error g ≡ ok h = y.refuses ∙ sym e in let no : ◌≡◌ {A = ℕ} 0 1 = cc in absurd (omega arith)
  halts_once (on h e x) (on k d y) = let same : ok h ≡ ok k = e ∙ sym d in let is : k ≡ h = cc in halts_once x (rw is at y)

faulty_halts : {mode : Mode} (file : List ℕ) (cap p : ℕ) (f : Fault) → Faulty mode file cap p f → (w : Whole file)
    → Halts mode w.region cap p f (between 0 [])
faulty_halts {mode} file cap p f x w = faulty_reached file cap p f x w (Halts mode w.region cap p f) (λ v t h e r. on h e r) (λ v r. stop r)

pub fault_once : {mode : Mode} (file : List ℕ) (cap p q : ℕ) (f g : Fault) → Faulty mode file cap p f → Faulty mode file cap q g → (p ≡ q) × (f ≡ g)
fault_once file cap p q f g x y =
    let w = whole file x.some x.short in
    halts_once (faulty_halts file cap p f x w) (faulty_halts file cap q g y w)
