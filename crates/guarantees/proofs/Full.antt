-- FULL, and the table that check leaves.
--
-- In order: when FULL is the answer (`full_exactly`); never if there are as many words as bytes in the region
-- (`never_full`); fewer words change nothing but that FULL is answered (`fewer_words`); a file that is refused leaves
-- zeros (`refused_zero`), and the table keeps its length (`length_table`).
use mathlib.Core.Path.{◌≡◌, refl, sym, ap, ◌∙◌, subst}
use mathlib.Core.Logic.{◌↔◌, ◌⊎◌, inl, inr}
use Prim.Native.Nat.{ℕ, suc, ◌+◌, ◌-◌, ◌≤◌, ◌<◌}
use mathlib.Core.Bool.{Bool, true, false, ◌&&◌}
use mathlib.Core.List.{List, [], ◌∷◌, ◌++◌, append_assoc}
use native.Mathlib.Omega.{arith}
use borrow.Author.Tests.{ne_eqb, eq-eqb, le-leb, lt-leb}
use lib.Dec.{eqb, leb}
use lib.ListN.{length, take, drop, replicate, length-append, length-replicate, take-append-drop}
use lib.Seq.{take_at, take-append-le}
use Rattle.prelude.specs.Pick.{pick}
use Rattle.prelude.specs.Answer.{Answer, ok, error, bind}
use Rattle.prelude.specs.Bytes.{Bytes}
use Rattle.prelude.specs.Search.{among}
use Rattle.prelude.specs.Loop.{Turn, stop}
use Rattle.prelude.proofs.Tests.{split}
use Rattle.prelude.proofs.Searches.{rising_ge}
use Rattle.prelude.proofs.Readers.{bind_error}
use Rattle.prelude.proofs.Turns.{Stops, from_or}
use Rattle.error.specs.Error.{Fault, fault, FULL}
use Rattle.leb128.specs.declared.Mode.{Mode}
use Rattle.values.specs.Values.{region, starts}
use Rattle.values.proofs.Laws.{length_starts}
use Rattle.checker_value.specs.Walk.{Walk, between, next_token, walk_turned, walk_turn, starts_from}
use Rattle.checker.specs.Check.{check_in, listed, check_of}
use Rattle.checker_value.proofs.Walks.{WalkInvariant, walk_error, come}
use Rattle.guarantees_faults.proofs.Places.{place_at, refused_place, refused_full}
use Rattle.guarantees.specs.Accepts.{Overfull}
use Rattle.guarantees.proofs.Files.{Whole, whole, length_whole, bytes_whole, check_in_whole, empty, long, at_once, Shape, refused, read, shape}
use Rattle.guarantees.proofs.Files.{answer_error, found_ok, Failed, early, walking, last, failed}
use Rattle.guarantees.proofs.Accepts.{walks_prefix}
use Rattle.guarantees.proofs.WalkTokens.{starts_backward}
use Rattle.guarantees.proofs.WalkValues.{WalkedValues, walked_between}
use Rattle.guarantees.proofs.Ends.{Ends, Stuck, walk_ends}
use Rattle.guarantees.proofs.Accepted.{walked_ends}

-- ---- when FULL is the answer

full_by : (mode : Mode) {X : Type 0} (file : List ℕ) (cap p : ℕ) → (check_of mode file cap).answer ≡ error (fault FULL p)
    → ((w : Whole file) → error (fault FULL p) ≡ starts_from mode w.region cap (between 0 []) → X) → X
unfolding check_of
full_by mode {X} file cap p e k = by_failed (failed file cap (fault FULL p) (answer_error cap (fault FULL p) (check_in mode file cap) e))
  where
    by_failed : Failed mode file cap (fault FULL p) → X
    by_failed (early (empty z q)) = absurd (omega (arith, ap (λ (x : Fault). x.number) q))
    by_failed (early (long l q)) = absurd (omega (arith, ap (λ (x : Fault). x.number) q))
    by_failed (walking w q) = k w q
    by_failed (last w done walked q none) = absurd (omega (arith, ap (λ (x : Fault). x.number) q))

overfull_at : {mode : Mode} (file : List ℕ) (cap p : ℕ) (w : Whole file) → Stuck mode w.region cap (WalkedValues mode w.region) (fault FULL p)
    → Overfull mode file cap p
unfolding among
overfull_at {mode} file cap p w r =
    let (between, none) = refused_full r.refused refl in
    let v = walked_between w.region r.walk between r.holds in
    let here : p ≡ r.walk.at = place_at (refused_place r.refused) refl in
    let place : length (region v.values) ≡ p = sym (here ∙ v.at) in
    let front : file ≡ region v.values ++ (v.rest ++ (w.delta ∷ [])) =
    w.same ∙ rw (← append_assoc) (ap (λ x. x ++ (w.delta ∷ [])) v.same) in
    record {
      short = w.short;
      values = v.values;
      formed = v.formed;
      count = omega (arith, ap length v.done, length_starts 0 v.values, r.going.count, none);
      same = ap (take p) front ∙ take_at (region v.values) _ p place;
      place = place;
      more = omega (arith, r.inside between, here, length_whole file w);
    }

overfull : {mode : Mode} (file : List ℕ) (cap p : ℕ) → Bytes file → (w : Whole file) → error (fault FULL p) ≡ starts_from mode w.region cap (between 0 [])
    → Overfull mode file cap p
overfull {mode} file cap p b w e =
    let s = w.region in
    overfull_at file cap p w (subst (Ends mode s cap (WalkedValues mode s)) (sym e) (walked_ends mode s cap (bytes_whole file w b)))

-- the walk goes through the values, and has no word for the next
overfull_full : {mode : Mode} (file : List ℕ) (cap p : ℕ) → Overfull mode file cap p → (w : Whole file)
    → error (fault FULL p) ≡ starts_from mode w.region cap (between 0 [])
unfolding next_token
overfull_full {mode} file cap p o w =
    let s = w.region in
    let vs = o.values in
    let inside : p < length s = omega (arith, o.more, length_whole file w) in
    let front : take p s ≡ region vs = sym (take-append-le p s (w.delta ∷ []) (omega arith)) ∙ ap (take p) (sym w.same) ∙ o.same in
    let same : s ≡ region vs ++ drop p s = sym (take-append-drop p s) ∙ ap (λ x. x ++ drop p s) front in
    let full = le-leb cap (length (starts 0 vs)) (omega (arith, o.count, length_starts 0 vs)) in
    let at : p ≡ 0 + length (region vs) = omega (arith, o.place) in
    walks_prefix mode s cap _ (starts_backward mode s cap _) [] 0 vs (drop p s) same o.formed.formed o.formed.targets (omega (arith, o.count))
    (rw (← at) (walk_error mode s cap (between p (starts 0 vs)) (lt-leb (length s) p inside) (fault FULL p) (rw full)))

pub full_exactly : (mode : Mode) (file : List ℕ) (cap p : ℕ) → Bytes file → ((check_of mode file cap).answer ≡ error (fault FULL p)) ↔ Overfull mode file cap p
unfolding check_of
full_exactly mode file cap p b = (
  λ e. full_by mode file cap p e (overfull file cap p b),
  λ o. let w = whole file (omega (arith, o.more)) o.short in
      let found : error (fault FULL p) ≡ check_in mode file cap = bind_error _ (overfull_full file cap p o w) ∙ sym (check_in_whole file w mode cap) in
      rw (← found),
)

-- ---- never with enough words

-- the values before the walk have a byte each
done_le : (s : List ℕ) (cap : ℕ) (w : Walk) → WalkInvariant s cap w → length w.done ≤ w.at
done_le s cap w g =
    let last : ℕ = length w.done - 1 in
    split 0 (length w.done)
    (λ some. omega (arith, rising_ge w.done g.rising last (omega arith), g.below last (omega arith), g.start)) (λ none. omega arith)

pub never_full : (mode : Mode) (file : List ℕ) (cap p : ℕ) → length file ≤ suc cap → (check_of mode file cap).answer ≡ error (fault FULL p) → ⊥
never_full mode file cap p enough e =
    full_by mode file cap p e (λ w q.
    let s = w.region in
    let r = subst (Ends mode s cap (λ v. Unit {0})) (sym q) (walk_ends mode s cap (λ v. Unit {0}) (λ v h t u. tt) tt) in
    let (between, none) = refused_full r.refused refl in
    omega (arith, done_le s cap r.walk r.going, none, r.inside between, length_whole file w))

-- ---- fewer words

abbrev IsFull : Answer Fault (List ℕ) → Type 0
IsFull a = (p : ℕ) × (a ≡ error (fault FULL p))

module _ (mode : Mode) (s : List ℕ) (cap more : ℕ) (le : cap ≤ more) where
  next_fewer : (done : List ℕ) (pending at : ℕ)
      → (next_token mode s cap done pending at ≡ error (fault FULL at)) ⊎ (next_token mode s cap done pending at ≡ next_token mode s more done pending at)
  unfolding next_token
  next_fewer done pending at =
      split 0 pending
      (λ busy. inr (rw (ne_eqb pending 0 (λ z. omega arith))))
      (λ idle. split (length done) cap
      (λ free. inr (rw (lt-leb cap (length done) free, lt-leb more (length done) (omega arith))))
      (λ full. inl (rw (eq-eqb pending 0 (omega arith), le-leb cap (length done) full))))

  turn_fewer : (w : Walk) → Stops IsFull (walk_turn mode s cap w) ⊎ (walk_turn mode s cap w ≡ walk_turn mode s more w)
  unfolding walk_turn
  turn_fewer w = by_test (eqb w.pending 0 && leb (length s) w.at)
    where
      turned_at : ℕ → Bool → Turn Walk (Answer Fault (List ℕ))
      turned_at c t = pick t (stop (ok w.done)) (walk_turned w (next_token mode s c w.done w.pending w.at))

      by_test : (t : Bool) → Stops IsFull (turned_at cap t) ⊎ (turned_at cap t ≡ turned_at more t)
      by_test true = inr refl
      by_test false =
          elim (next_fewer w.done w.pending w.at) [
            | inl e ↦ inl (error (fault FULL w.at), rw e, (w.at, refl))
            | inr e ↦ inr (rw e)
          ]

  starts_fewer : IsFull (starts_from mode s cap (between 0 [])) ⊎ (starts_from mode s cap (between 0 []) ≡ starts_from mode s more (between 0 []))
  unfolding starts_from
  starts_fewer = from_or IsFull turn_fewer _ _ (between 0 [])

check_in_fewer : (mode : Mode) (file : List ℕ) (cap more : ℕ) → cap ≤ more
    → ((p : ℕ) × (check_in mode file cap ≡ error (fault FULL p))) ⊎ (check_in mode file cap ≡ check_in mode file more)
unfolding bind
check_in_fewer mode file cap more le = by_shape (shape file)
  where
    by_shape : Shape file → ((p : ℕ) × (check_in mode file cap ≡ error (fault FULL p))) ⊎ (check_in mode file cap ≡ check_in mode file more)
    by_shape (refused f a) = inr (sym (at_once mode file f cap a) ∙ at_once mode file f more a)
    by_shape (read w) =
        elim (starts_fewer mode w.region cap more le) [
          | inl (p, e) ↦ inl (p, rw (check_in_whole file w mode cap, e))
          | inr e ↦ inr (rw (check_in_whole file w mode cap, check_in_whole file w mode more, e))
        ]

listed_answer : (cap more : ℕ) (a : Answer Fault ((List ℕ) × ℕ)) → (listed cap a).answer ≡ (listed more a).answer
listed_answer cap more (ok r) = refl
listed_answer cap more (error f) = refl

pub fewer_words : (mode : Mode) (file : List ℕ) (cap more : ℕ) → cap ≤ more
    → ((p : ℕ) × ((check_of mode file cap).answer ≡ error (fault FULL p))) ⊎ ((check_of mode file cap).answer ≡ (check_of mode file more).answer)
unfolding check_of
fewer_words mode file cap more le =
    elim (check_in_fewer mode file cap more le) [
      | inl (p, e) ↦ inl (p, rw e)
      | inr e ↦ inr (rw e (listed_answer cap more (check_in mode file more)))
    ]

-- ---- the table that is left

pub refused_zero : (mode : Mode) (file : List ℕ) (cap : ℕ) (f : Fault) → (check_of mode file cap).answer ≡ error f
    → (check_of mode file cap).starts ≡ replicate cap 0
unfolding check_of
refused_zero mode file cap f e = rw (← answer_error cap f (check_in mode file cap) e)

pub length_table : (mode : Mode) (file : List ℕ) (cap : ℕ) → length (check_of mode file cap).starts ≡ cap
unfolding check_of
length_table mode file cap = by_cases (check_in mode file cap) refl
  where
    by_cases : (a : Answer Fault ((List ℕ) × ℕ)) → a ≡ check_in mode file cap → length (listed cap a).starts ≡ cap
    by_cases (ok r) e =
        found_ok mode file cap r.0 r.1 e (λ w walked named start.
        let zeros : ℕ = cap - length r.0 in
        omega (arith, (come mode w.region cap r.0 walked).1, length-append r.0 (replicate zeros 0), length-replicate {A = ℕ} zeros 0))
    by_cases (error f) e = length-replicate cap 0
