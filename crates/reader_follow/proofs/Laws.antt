-- Laws of following: a pointer leads where its target leads, another value ends it; what it reaches.
use mathlib.Core.Path.{◌≡◌, refl, sym, subst}
use Prim.Native.Nat.{ℕ, ◌+◌, ◌-◌, ◌≤◌, ◌<◌}
use mathlib.Core.Bool.{false}
use mathlib.Core.List.{List}
use native.Mathlib.Omega.{arith}
use lib.Dec.{eqb}
use borrow.Author.Tests.{eqb-true, eqb-false, eq-eqb, ne_eqb}
use Rattle.prelude.specs.Loop.{Turn, go, stop}
use Rattle.prelude.specs.Answer.{Answer, ok, error}
use Rattle.prelude.proofs.Tests.{pick_elim}
use Rattle.prelude.proofs.Turns.{from_go, from_stop, from_all}
use Rattle.error.specs.Error.{Fault, fault}
use Rattle.leb128.specs.declared.Mode.{Mode}
use Rattle.scan.specs.declared.Head.{Head}
use Rattle.scan.proofs.Places.{Within, scan_within}
use Rattle.reader_region.specs.Region.{peek_in}
use Rattle.reader_region.proofs.Laws.{TargetBelow, peek_target, peek_scan, pointer_lt}
use Rattle.reader_follow.specs.Follow.{Followed, followed, Position, position, follow_turned, follow_turn, follow_from}

-- a turn that goes on goes down
abbrev Falls : Position → Turn Position (Answer Fault Followed) → Type 0
Falls p (go q) = q.place < p.place
Falls p (stop a) = Unit {0}

falls : (p : Position) (a : Answer Fault Head) → TargetBelow p.place a → Falls p (follow_turned p a)
falls p (ok h) lt = pick_elim (Falls p) (eqb h.kind 15) (λ e. let k = eqb-true h.kind 15 e in let l = lt (omega arith) in omega arith) (λ e. tt)
falls p (error e) lt = tt

module _ (mode : Mode) (s : List ℕ) where
  turn_falls : (p q : Position) → follow_turn mode s p ≡ go q → q.place < p.place
  unfolding follow_turn
  turn_falls p q e = subst (Falls p) e (falls p (peek_in mode false s p.place) (peek_target mode false s p.place))

  module _ (q hops : ℕ) (h : Head) (e : ok h ≡ peek_in mode false s q) where
    pub follow_from_pointer : h.kind ≡ 15 → follow_from mode s (position (q - h.n - 1) (hops + 1)) ≡ follow_from mode s (position q hops)
    unfolding follow_from follow_turn
    follow_from_pointer k = sym (from_go (follow_turn mode s) (λ p. p.place) _ turn_falls (position q hops) _ (rw (← e, eq-eqb _ _ k)))

    pub follow_from_end : (h.kind ≡ 15 → ⊥) → ok (followed q hops h) ≡ follow_from mode s (position q hops)
    unfolding follow_from follow_turn
    follow_from_end k = sym (from_stop (follow_turn mode s) (λ p. p.place) _ turn_falls (position q hops) _ (rw (← e, ne_eqb _ _ k)))

  pub follow_from_error : (q hops : ℕ) (f : Fault) → error f ≡ peek_in mode false s q → error f ≡ follow_from mode s (position q hops)
  unfolding follow_from follow_turn
  follow_from_error q hops f e = sym (from_stop (follow_turn mode s) (λ p. p.place) _ turn_falls (position q hops) _ (rw (← e)))

-- for a loop from pointer to pointer
pub ruleset hops = (pointer_lt, follow_from_pointer, follow_from_end, follow_from_error)

-- ---- what following reaches

-- a value that following from p reached was looked at, is not a pointer, and each hop went down
pub record FollowedHead (mode : Mode) (s : List ℕ) (p : Position) (m : Followed) : Type 0 where
  pub peeked : ok m.head ≡ peek_in mode false s m.place
  pub other : m.head.kind ≡ 15 → ⊥
  pub down : m.place + m.hops ≤ p.place + p.hops

abbrev pub FollowsTo : Mode → List ℕ → Position → Answer Fault Followed → Type 0
FollowsTo mode s p (ok m) = FollowedHead mode s p m
FollowsTo mode s p (error e) = Unit {0}

module _ (mode : Mode) (s : List ℕ) (p : Position) where
  abbrev Down : Position → Type 0
  Down q = q.place + q.hops ≤ p.place + p.hops

  -- a turn that goes on stays down, and one that stops has reached such a value
  abbrev Turns : Turn Position (Answer Fault Followed) → Type 0
  Turns (go q) = Down q
  Turns (stop a) = FollowsTo mode s p a

  turns : (q : Position) (a : Answer Fault Head) → peek_in mode false s q.place ≡ a → Down q → TargetBelow q.place a → Turns (follow_turned q a)
  turns q (ok h) e d lt =
      pick_elim Turns (eqb h.kind 15)
      (λ k. let f = eqb-true h.kind 15 k in let l = lt (omega arith) in omega arith)
      (λ k. record { peeked = sym e; other = eqb-false h.kind 15 k; down = d })
  turns q (error f) e d lt = tt

  turn_turns : (q : Position) → Down q → Turns (follow_turn mode s q)
  unfolding follow_turn
  turn_turns q d = turns q (peek_in mode false s q.place) refl d (peek_target mode false s q.place)

  pub follow_leads : FollowsTo mode s p (follow_from mode s p)
  unfolding follow_from
  follow_leads =
      from_all (follow_turn mode s) (error (fault 0 0)) Down (FollowsTo mode s p) (λ q q' d e. subst Turns e (turn_turns q d))
      (λ q a d e. subst Turns e (turn_turns q d)) tt
      (λ q. q.place) p (omega arith)

pub follow_head_inv : (mode : Mode) (s : List ℕ) (p : Position) (m : Followed) → ok m ≡ follow_from mode s p → FollowedHead mode s p m
follow_head_inv mode s p m e = subst (FollowsTo mode s p) (sym e) (follow_leads mode s p)

-- its head is in the region
pub followed_within : (mode : Mode) (s : List ℕ) (p : Position) (m : Followed) → ok m ≡ follow_from mode s p → Within s m.place m.head
followed_within mode s p m e =
    scan_within mode false s m.place m.head (peek_scan mode false s m.place m.head (follow_head_inv mode s p m e).peeked)
