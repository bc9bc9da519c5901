-- Laws of a file's region and of the tokens that queries look at.
--
-- In order: the region, as the code takes it; an answer in the region, and one made from it in turn; a head that a
-- query looked at was scanned, and its target is not below 0.
use mathlib.Core.Path.{◌≡◌, refl, sym, subst}
use Prim.Native.Nat.{ℕ, ◌-◌, ◌≤◌, ◌<◌}
use mathlib.Core.Bool.{Bool, false}
use mathlib.Core.List.{List}
use native.Mathlib.Omega.{arith}
use lib.Dec.{eqb, ltb, leb}
use lib.ListN.{length, take, length-take}
use lib.Seq.{length-take-le}
use Rattle.prelude.specs.Pick.{pick}
use Rattle.prelude.specs.Answer.{Answer, ok, error, bind}
use Rattle.prelude.proofs.Tests.{pick_elim, and_false, facts}
use Rattle.prelude.proofs.Readers.{bind_ok, bind_error, bind_ok_by, bind_error_by}
use Rattle.error.specs.Error.{Fault, fault, LIMIT, BAD_TARGET}
use Rattle.leb128.specs.declared.Mode.{Mode}
use Rattle.scan.specs.Answers.{scan_at}
use Rattle.scan.specs.declared.Head.{Head}
use Rattle.scan.proofs.Places.{scan_within}
use Rattle.reader_region.specs.Region.{region_len, in_region, below, peek_in, peek_of}
use Rattle.reader_region.specs.Internal.{Peeked}

-- ---- the region

abbrev InRegion : ℕ → Answer Fault ℕ → Type 0
InRegion len (ok n) = n ≡ len - 1
InRegion len (error e) = Unit {0}

in_region_len : (len at : ℕ) → InRegion len (region_len len at)
unfolding region_len
in_region_len len at =
    pick_elim (InRegion len) (eqb len 0) (λ e. tt)
    (λ e. pick_elim (InRegion len) (ltb LIMIT len) (λ f. tt) (λ f. pick_elim (InRegion len) (ltb at (len - 1)) (λ g. refl) (λ g. tt)))

region_length : (len at n : ℕ) → ok n ≡ region_len len at → n ≡ len - 1
region_length len at n e = subst (InRegion len) (sym e) (in_region_len len at)

module _ (file : List ℕ) (at : ℕ) where
  -- the region, as the code takes it
  pub length_region : (n : ℕ) → ok n ≡ region_len (length file) at → n ≡ length (take n file)
  length_region n e = sym (length-take-le n file (omega (arith, region_length (length file) at n e)))

  module _ {A : Type 0} (k : List ℕ → Answer Fault A) where
    pub in_region_ok : (n : ℕ) {r : Answer Fault A} → ok n ≡ region_len (length file) at → r ≡ k (take n file) → r ≡ in_region file at k
    unfolding in_region
    in_region_ok n e q = bind_ok _ e q

    pub in_region_error : (e : Fault) → error e ≡ region_len (length file) at → error e ≡ in_region file at k
    unfolding in_region
    in_region_error e q = bind_error _ q

    -- an answer in the region
    pub in_region_same : {a : A} → ok a ≡ in_region file at k → ok a ≡ k (take (length file - 1) file)
    unfolding in_region
    in_region_same e = bind_ok_by _ _ e (λ n g q. rw (region_length (length file) at n g) at q)

    -- an answer made from it in turn
    module _ {B : Type 0} (f : List ℕ → A → Answer Fault B) where
      pub in_region_then : {s : List ℕ} {a : A} {r : Answer Fault B} → ok a ≡ in_region file at k → s ≡ take (length file - 1) file → r ≡ f s a
          → r ≡ in_region file at (λ s. bind (k s) (f s))
      unfolding in_region
      in_region_then {s} {a} {r} e i q =
          bind_ok_by _ _ e (λ n g o. bind_ok _ g (bind_ok _ o (rw (region_length (length file) at n g, ← i) q)))

      pub in_region_failed : {e : Fault} {r : Answer Fault B} → error e ≡ in_region file at k → r ≡ error e → r ≡ in_region file at (λ s. bind (k s) (f s))
      unfolding in_region
      in_region_failed q i = rw i (bind_error_by _ _ q (λ g. bind_error _ g) (λ n g o. bind_ok _ g (bind_error _ o)))

-- for a function that takes the region first
pub ruleset regions = (length_region, in_region_ok, in_region_error)

-- ---- heads

-- a head that was looked at was scanned
abbrev Scans : Answer Fault Head → Answer Fault Head → Type 0
Scans a (ok h) = ok h ≡ a
Scans a (error e) = Unit {0}

scans : (q : ℕ) (a : Answer Fault Head) → Scans a (bind a (λ h. pick (below q h) (error (fault BAD_TARGET q)) (ok h)))
unfolding bind
scans q (ok h) = pick_elim (Scans (ok h)) (below q h) (λ e. tt) (λ e. refl)
scans q (error e) = tt

pub peek_scan : (mode : Mode) (inner : Bool) (s : List ℕ) (q : ℕ) (h : Head) → ok h ≡ peek_in mode inner s q → ok h ≡ scan_at mode inner s q
unfolding peek_in
peek_scan mode inner s q h e = subst (Scans (scan_at mode inner s q)) (sym e) (scans q (scan_at mode inner s q))

-- the target of a reference or pointer that was looked at is not below 0
abbrev pub TargetBelow : ℕ → Answer Fault Head → Type 0
TargetBelow q (ok h) = 14 ≤ h.kind → h.n < q
TargetBelow q (error e) = Unit {0}

target_below : (q : ℕ) (a : Answer Fault Head) → TargetBelow q (bind a (λ h. pick (below q h) (error (fault BAD_TARGET q)) (ok h)))
unfolding bind
target_below q (ok h) =
    pick_elim (TargetBelow q) (below q h) (λ e. tt)
    (λ e k. and_false (leb 14 h.kind) (leb q h.n) e (λ f. absurd (omega facts)) (λ f. omega facts))
target_below q (error e) = tt

pub peek_target : (mode : Mode) (inner : Bool) (s : List ℕ) (q : ℕ) → TargetBelow q (peek_in mode inner s q)
unfolding peek_in
peek_target mode inner s q = target_below q (scan_at mode inner s q)

pub pointer_lt : (mode : Mode) (inner : Bool) (s : List ℕ) (q : ℕ) (h : Head) → ok h ≡ peek_in mode inner s q → h.kind ≡ 15 → h.n < q
pointer_lt mode inner s q h e k = subst (TargetBelow q) (sym e) (peek_target mode inner s q) (omega arith)

pub peek_peeked : (mode : Mode) (inner : Bool) (s : List ℕ) (q : ℕ) (h : Head) → ok h ≡ peek_in mode inner s q → Peeked s q h
peek_peeked mode inner s q h e =
    let w = scan_within mode inner s q h (peek_scan mode inner s q h e) in
    record { body = w.body; end = w.end; used = w.used; most = w.most; target = subst (TargetBelow q) (sym e) (peek_target mode inner s q) }

-- the same for a whole file
pub peek_of_peeked : (mode : Mode) (file : List ℕ) (at : ℕ) (h : Head) → ok h ≡ peek_of mode file at → Peeked file at h
peek_of_peeked mode file at h e =
    let l = peek_peeked mode false (take (length file - 1) file) at h (in_region_same file at _ e) in
    record { body = l.body; end = omega (arith, l.end, length-take (length file - 1) file); used = l.used; most = l.most; target = l.target }
