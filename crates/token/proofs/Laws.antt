-- `scan` and `emit`, one after the other: each law is one proof over all kinds.
--
-- In order: a number that may be there; a token in shortest form, which either mode reads (`spelled_token`) and the strict
-- one alone (`strict_token`); the body; the bytes of a token; what is emitted is scanned back, whatever follows (`scan_emit`);
-- what is scanned is what would be emitted (`emit_scan`).
use mathlib.Core.Path.{◌≡◌, refl, sym, ap, ◌∙◌}
use Prim.Native.Nat.{ℕ, ◌+◌, ◌-◌, ◌*◌, ◌/◌, ◌%◌, ◌^◌, ◌≤◌, ◌<◌, min}
use mathlib.Core.Bool.{Bool, true, false, true≢false}
use mathlib.Core.List.{List, [], ◌∷◌, ◌++◌, append_assoc}
use native.Mathlib.Nat.{sub_self}
use native.Mathlib.Omega.{arith}
use lib.ListN.{length, take, drop, length-append, take-append-drop, length-drop}
use lib.Seq.{take_at, drop_at, length-take-le}
use lib.Dec.{leb}
use borrow.Author.Tests.{lt-ltb, le-leb, lt-leb}
use Rattle.prelude.specs.Answer.{got, guard, then, or_error, ◌>>◌, ◌>>=◌}
use Rattle.prelude.specs.Bytes.{Bytes}
use Rattle.prelude.proofs.Tests.{split, facts}
use Rattle.prelude.proofs.Readers.{guard_by, then_by, or_error_by, need_by, bind_by, bad_got}
use Rattle.prelude.proofs.Parts.{bytes_after}
use Rattle.leb128.specs.declared.Mode.{Mode}
use Rattle.leb128.specs.declared.Mode.TheVariants.{Strict}
use Rattle.leb128.proofs.Spellings.{spells_put, spells_of_strict, get_spells, spells_get}
use Rattle.kind.specs.Kind.{rule, size, counted}
use Rattle.kind.specs.declared.Rule.{Rule}
use Rattle.kind.proofs.Laws.{most_fits}
use Rattle.token.specs.Token.{Token, token, put_if, emit, Allowed, SpellsIf, Spelled, Fits}
use Rattle.token.specs.Scan.{get_if, Spelling, spelling, number, made, body, scan_kind, scan}

-- ---- a number that may be there

-- the bytes that were read of p and s, if s is left
front_read : (p s : List ℕ) → take (length (p ++ s) - length s) (p ++ s) ≡ p
front_read p s = let own : length p ≡ length (p ++ s) - length s = omega (arith, length-append p s) in take_at p s _ own

number_spelled : (mode : Mode) (at : ℕ) (w : Bool) (n : ℕ) (p s : List ℕ) → (w ≡ false → n ≡ 0) → SpellsIf mode w n p
    → number mode at w (p ++ s) ≡ got (spelling n p) s
unfolding number get_if or_error then
number_spelled mode at true n p s z h = rw (get_spells mode n p s h, front_read p s)
number_spelled mode at false n p s z h = rw (h, z refl, sub_self)

-- what a number that was read says
record Numbered (mode : Mode) (w : Bool) (v : Spelling) (s rest : List ℕ) : Type 0 where
  same : s ≡ v.bytes ++ rest
  spells : SpellsIf mode w v.value v.bytes
  none : w ≡ false → v.value ≡ 0
  below : v.value < 2 ^ 64

number_inv : (mode : Mode) (at : ℕ) (w : Bool) (v : Spelling) (s rest : List ℕ) → Bytes s → number mode at w s ≡ got v rest → Numbered mode w v s rest
unfolding number get_if
number_inv mode at true v s rest b e =
    then_by _ _ e (λ n mid e₁ e₂.
    or_error_by _ _ e₁ (λ e₃.
    let g = spells_get mode n s mid b e₃ in
    let own : take (length s - length mid) s ≡ g.bytes = ap (λ x. take (length x - length mid) x) g.all ∙ front_read g.bytes mid in
    let last : mid ≡ rest = cc in
    let is : v ≡ spelling n (take (length s - length mid) s) = cc in
    rw (is, own, ← last) (record { same = g.all; spells = g.spells; none = λ f. absurd (true≢false f); below = g.spells.below })))
number_inv mode at false v s rest b e =
    then_by _ _ e (λ n mid e₁ e₂.
    or_error_by _ _ e₁ (λ e₃.
    let last : s ≡ rest = cc in
    let is : v ≡ spelling 0 (take (length s - length s) s) = cc in
    rw (is, sub_self, ← last) (record { same = refl; spells = refl; none = λ f. refl; below = omega arith })))

-- ---- a token in shortest form

spells_put_if : (mode : Mode) (w : Bool) (n : ℕ) → n < 2 ^ 64 → SpellsIf mode w n (put_if w n)
unfolding put_if
spells_put_if mode true n h = spells_put mode n h
spells_put_if mode false n h = refl

pub spelled_token : (mode : Mode) (k n a : ℕ) (b : List ℕ) → Allowed (token k n a b) → Spelled mode (token k n a b)
spelled_token mode k n a b f = record {
  number = spells_put_if mode (leb 15 n) (n - 15) (omega (arith, f.most, most_fits k));
  second = spells_put_if mode (rule k).args a f.count;
}

strict_put : (w : Bool) (n : ℕ) (s : List ℕ) → SpellsIf Strict w n s → put_if w n ≡ s
unfolding put_if
strict_put true n s h = sym (h.shortest refl)
strict_put false n s h = sym h

spells_if_of_strict : (mode : Mode) (w : Bool) (n : ℕ) (s : List ℕ) → SpellsIf Strict w n s → SpellsIf mode w n s
spells_if_of_strict mode true n s h = spells_of_strict mode n s h
spells_if_of_strict mode false n s h = h

pub spelled_of_strict : (mode : Mode) (t : Token) → Spelled Strict t → Spelled mode t
spelled_of_strict mode t h = record {
  number = spells_if_of_strict mode (leb 15 t.n) (t.n - 15) t.n_bytes h.number;
  second = spells_if_of_strict mode (rule t.kind).args t.args t.args_bytes h.second;
}

-- the strict mode has no other form
pub strict_token : (t : Token) → Spelled Strict t → token t.kind t.n t.args t.body ≡ t
strict_token t h = λ i. record {
  kind = t.kind;
  n = t.n;
  args = t.args;
  body = t.body;
  n_bytes = strict_put (leb 15 t.n) (t.n - 15) t.n_bytes h.number i;
  args_bytes = strict_put (rule t.kind).args t.args t.args_bytes h.second i;
}

-- ---- the body

body_append : (at end k : ℕ) (r : Rule) (n : ℕ) (v a : Spelling) (b s : List ℕ) → length b ≡ size r n → counted r n a.value ≤ length s
    → body at end k r n v a (b ++ s) ≡ got (made k n v a b) s
unfolding body guard
body_append at end k r n v a b s e h =
    let room : size r n + counted r n a.value ≤ length (b ++ s) = rw length-append (omega arith) in
    rw (le-leb, take_at b s (size r n) e, drop_at b s (size r n) e)

pub body_by : {X : Type 0} (at end k : ℕ) (r : Rule) (n : ℕ) (v a : Spelling) (s : List ℕ) (t : Token) (rest : List ℕ)
    → body at end k r n v a s ≡ got t rest
    → ((b : List ℕ) → t ≡ made k n v a b → s ≡ b ++ rest → length b ≡ size r n → counted r n a.value ≤ length rest → X) → X
unfolding body
body_by at end k r n v a s t rest e c =
    guard_by _ _ _ e (λ room e₁.
    let all : size r n + counted r n a.value ≤ length s = omega facts in
    let own : size r n ≤ length s = omega arith in
    let d : drop (size r n) s ≡ rest = cc in
    c (take (size r n) s) (cc) (rw (← d) (sym (take-append-drop (size r n) s))) (length-take-le (size r n) s own)
    (omega (arith, length-drop (size r n) s, ap length d)))

-- ---- the low nibble of n, and what follows of it

low_number : (n : ℕ) → leb 15 (min n 15) ≡ leb 15 n
low_number n =
    split n 15
    (λ small. let e : min n 15 ≡ n = omega arith in rw e)
    (λ large. let e : min n 15 ≡ 15 = omega arith in rw (e, le-leb 15 n large))

-- n is a low nibble plus the number v after it: if the nibble is not 15, no number follows, and v is 0
record Nibble (low v : ℕ) : Type 0 where
  nibble : min (low + v) 15 ≡ low
  wanted : leb 15 (low + v) ≡ leb 15 low
  after : low + v - 15 ≡ v

nibble_number : (low v : ℕ) → low < 16 → (leb 15 low ≡ false → v ≡ 0) → Nibble low v
nibble_number low v h none =
    split low 15
    (λ small. let z : v ≡ 0 = none (lt-leb 15 low small) in
    let e : low + v ≡ low = omega arith in
    record { nibble = omega arith; wanted = rw e; after = omega arith })
    (λ large. let l : 15 ≤ low + v = omega arith in
    record { nibble = omega arith; wanted = rw (le-leb 15 (low + v) l, le-leb 15 low large); after = omega arith })

-- ---- the bytes of a token

pub length_emit : (k n a : ℕ) (b : List ℕ)
    → length (emit (token k n a b)) ≡ 1 + length (put_if (leb 15 n) (n - 15)) + length (put_if (rule k).args a) + length b
unfolding emit
length_emit k n a b = simp length-append (omega arith)

-- of a token in any form
pub length_token : (t : Token) → length (emit t) ≡ 1 + length t.n_bytes + length t.args_bytes + length t.body
unfolding emit
length_token t = simp length-append (omega arith)

pub emit_pos : (t : Token) → 1 ≤ length (emit t)
unfolding emit
emit_pos t = omega arith

-- the header with its numbers
abbrev front : Token → List ℕ
front t = (t.kind * 16 + min t.n 15) ∷ (t.n_bytes ++ t.args_bytes)

emit_body : (t : Token) → emit t ≡ front t ++ t.body
unfolding emit
emit_body t = simp append_assoc

drop_end : (e p b s : List ℕ) → e ≡ p ++ b → drop (length e - length b) (e ++ s) ≡ b ++ s
drop_end e p b s same =
    let long : length p ≡ length e - length b = omega (arith, ap length same, length-append p b) in
    ap (λ x. drop (length e - length b) (x ++ s)) same ∙ rw append_assoc (drop_at p (b ++ s) _ long)

-- the body is the end of a token's bytes
pub drop_emit : (t : Token) (s : List ℕ) → drop (length (emit t) - length t.body) (emit t ++ s) ≡ t.body ++ s
drop_emit t s = drop_end (emit t) (front t) t.body s (emit_body t)

-- ---- what is emitted is scanned back

pub scan_emit : (mode : Mode) (inner : Bool) (at : ℕ) (t : Token) (s : List ℕ) → Fits mode inner t s → scan mode inner at (emit t ++ s) ≡ got t s
unfolding scan scan_kind emit ◌>>◌ ◌>>=◌
scan_emit mode inner at t s f =
    let kind : (t.kind * 16 + min t.n 15) / 16 ≡ t.kind = omega arith in
    let low : (t.kind * 16 + min t.n 15) % 16 ≡ min t.n 15 = omega arith in
    let whole : min t.n 15 + (t.n - 15) ≡ t.n = omega arith in
    let none : leb 15 t.n ≡ false → t.n - 15 ≡ 0 = λ e. omega facts in
    let first = number_spelled mode at (leb 15 t.n) (t.n - 15) t.n_bytes (t.args_bytes ++ (t.body ++ s)) none f.spelled.number in
    let second = number_spelled mode at (rule t.kind).args t.args t.args_bytes (t.body ++ s) f.allowed.alone f.spelled.second in
    rw (kind, low) (simp (
      append_assoc,
      low_number,
      lt-ltb,
      le-leb,
      first,
      second,
      body_append,
      whole,
      f.flat,
      f.room,
      f.allowed.low,
      f.allowed.most,
      f.allowed.sized,
    ))

-- ---- what is scanned would be emitted

-- what a token that was scanned says about the bytes s and the rest
pub record Scanned (mode : Mode) (inner : Bool) (s : List ℕ) (t : Token) (rest : List ℕ) : Type 0 where
  pub same : s ≡ emit t ++ rest
  pub fits : Fits mode inner t rest

pub emit_scan : (mode : Mode) (inner : Bool) (at : ℕ) (s : List ℕ) (t : Token) (rest : List ℕ) → Bytes s → scan mode inner at s ≡ got t rest
    → Scanned mode inner s t rest
unfolding scan scan_kind emit
emit_scan mode inner at [] t rest b e = bad_got e
emit_scan mode inner at (h ∷ s) t rest b e =
    need_by _ _ _ e (λ low e₁.
    need_by _ _ _ e₁ (λ flat e₂.
    bind_by _ _ _ e₂ (λ v s₁ ev e₃.
    need_by _ _ _ e₃ (λ most e₄.
    bind_by _ _ _ e₄ (λ a s₂ ea e₅.
    body_by _ _ _ _ _ v a s₂ t rest e₅ (λ c et sc sized room.
    let one = number_inv mode _ _ v s s₁ b.1 ev in
    let two = number_inv mode _ _ a s₁ s₂ (bytes_after v.bytes s₁ (rw one.same at b.1)) ea in
    let i = nibble_number (h % 16) v.value (omega arith) one.none in
    let header : h ≡ h / 16 * 16 + min (h % 16 + v.value) 15 = omega (arith, i.nibble) in
    rw et (record {
      same = simp append_assoc (cc (one.same, two.same));
      fits = record {
        allowed = record { low = omega (facts, i.nibble); most = omega facts; alone = two.none; count = two.below; sized = sized };
        spelled = record { number = rw (i.wanted, i.after) one.spells; second = two.spells };
        flat = flat;
        room = room;
      };
    })))))))
