-- A pointer leads where its target leads, by one hop more, in any region.
--
-- In order: following with one hop more before it (`follow_from_more`); so following from a pointer (`follow_pointer`),
-- and its body (`body_pointer`).
use mathlib.Core.Path.{◌≡◌, refl, sym, ◌∙◌}
use mathlib.Core.Bool.{false}
use mathlib.Core.List.{List}
use Prim.Native.Nat.{ℕ, zero, suc, ◌+◌, ◌-◌, ◌<◌}
use native.Mathlib.Decide.{ℕ_discrete}
use native.Mathlib.Nat.{le_refl}
use native.Mathlib.Omega.{arith}
use Rattle.prelude.specs.Answer.{Answer, ok, error, bind}
use Rattle.error.specs.Error.{Fault}
use Rattle.leb128.specs.declared.Mode.{Mode}
use Rattle.scan.specs.declared.Head.{Head}
use Rattle.reader_region.specs.Region.{peek_in}
use Rattle.reader_region.proofs.Laws.{pointer_lt}
use Rattle.reader_follow.specs.Follow.{Followed, followed, position, follow_from, follow_in}
use Rattle.reader_follow.proofs.Laws.{follow_from_pointer, follow_from_end, follow_from_error}
use Rattle.reader_body.specs.Body.{body_place_on, body_place_in}
use Rattle.guarantees.specs.Places.{further}

-- one hop more
abbrev more : Answer Fault Followed → Answer Fault Followed
more (ok m) = ok (followed m.place (m.hops + 1) m.head)
more (error e) = error e

abbrev place : Followed → Answer Fault (ℕ × ℕ)
place m = ok (m.place, m.hops)

module _ (mode : Mode) (s : List ℕ) where
  follow_from_more : (f q hops : ℕ) → q < f → follow_from mode s (position q (hops + 1)) ≡ more (follow_from mode s (position q hops))
  follow_from_more zero q hops l = absurd (omega arith)
  follow_from_more (suc f) q hops l = by_cases (peek_in mode false s q) refl (λ p h. follow_from_more f p (hops + 1) (omega arith))
    where
      by_cases : (a : Answer Fault Head) → a ≡ peek_in mode false s q
          → ((p : ℕ) → p < q → follow_from mode s (position p (hops + 1 + 1)) ≡ more (follow_from mode s (position p (hops + 1))))
          → follow_from mode s (position q (hops + 1)) ≡ more (follow_from mode s (position q hops))
      by_cases (ok h) e ih =
          elim (ℕ_discrete h.kind 15) [
            | yes k ↦
                let lt = pointer_lt mode false s q h e k in
                rw (← follow_from_pointer mode s q (hops + 1) h e k, ← follow_from_pointer mode s q hops h e k) (ih (q - h.n - 1) (omega arith))
            | no k ↦ rw (← follow_from_end mode s q (hops + 1) h e k, ← follow_from_end mode s q hops h e k)
          ]
      by_cases (error f) e ih = rw (← follow_from_error mode s q (hops + 1) f e, ← follow_from_error mode s q hops f e)

  module _ (q : ℕ) (h : Head) (e : ok h ≡ peek_in mode false s q) (k : h.kind ≡ 15) where
    follow_from_target : follow_from mode s (position q 0) ≡ more (follow_from mode s (position (q - h.n - 1) 0))
    follow_from_target = sym (follow_from_pointer mode s q 0 h e k) ∙ follow_from_more (suc (q - h.n - 1)) (q - h.n - 1) 0 (le_refl _)

    pub follow_pointer : follow_in mode s q ≡ further (follow_in mode s (q - h.n - 1))
    unfolding follow_in bind
    follow_pointer = rw follow_from_target (by_cases (follow_from mode s (position (q - h.n - 1) 0)))
      where
        by_cases : (a : Answer Fault Followed) → bind (more a) place ≡ further (bind a place)
        by_cases (ok m) = refl
        by_cases (error e) = refl

    pub body_pointer : body_place_in mode s q ≡ body_place_in mode s (q - h.n - 1)
    unfolding body_place_in bind
    body_pointer = rw follow_from_target (by_cases (follow_from mode s (position (q - h.n - 1) 0)))
      where
        by_cases : (a : Answer Fault Followed) → bind (more a) (λ m. body_place_on m.place m.head) ≡ bind a (λ m. body_place_on m.place m.head)
        by_cases (ok m) = refl
        by_cases (error e) = refl
