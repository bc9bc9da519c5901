-- Tokens and values that are written elsewhere: each is allowed there, holds what it held, and is no longer than it was, since no distance grows.
--
-- In order: a smaller number has no more bytes, nor has a token with it (`emit_mono`); what is known of each target (`Aim`), and what then holds of the
-- tokens (`Moved`): of one token, of the items of a value, and of a value (`moves_value`).
use mathlib.Core.Path.{◌≡◌, refl, sym, ap, ◌∙◌}
use mathlib.Core.Bool.{true}
use mathlib.Core.List.{List, [], ◌∷◌}
use Prim.Native.Nat.{ℕ, zero, suc, ◌+◌, ◌-◌, ◌/◌, ◌≤◌, ◌<◌}
use native.Mathlib.Omega.{arith}
use lib.Dec.{leb}
use lib.ListN.{length, get_or, length-append}
use borrow.Author.Tests.{le-leb, lt-leb}
use Rattle.prelude.specs.Each.{Each}
use Rattle.prelude.specs.Search.{among}
use Rattle.prelude.proofs.Tests.{split}
use Rattle.leb128.specs.Leb.{put}
use Rattle.leb128.specs.declared.Mode.TheVariants.{Strict}
use Rattle.leb128.proofs.Sizes.{put_last, put_suc}
use Rattle.kind.specs.Kind.{rule, pending}
use Rattle.token.specs.Token.{Token, token, put_if, emit, Allowed}
use Rattle.token.proofs.Laws.{spelled_token, strict_token, length_emit}
use Rattle.values.specs.Values.{Value, tokens, bytes, Sound, Item, Formed, HasTarget, HasTargets}
use Rattle.values.specs.Paths.{targets}
use Rattle.values.proofs.Laws.{targets_own, targets_none}
use Rattle.writer.specs.Step.{moved_to}
use Rattle.guarantees.proofs.Allowed.{rule_far}
use Rattle.guarantees_prune.specs.Pruned.{number, SameToken, SameTokens}
use Rattle.guarantees_prune.specs.Internal.{moved_tokens, moved_value}

-- ---- a smaller number

put_mono : (k m n : ℕ) → m ≤ n → length (put k m) ≤ length (put k n)
unfolding put
put_mono zero m n h = omega arith
put_mono (suc k) m n h =
    split n 128
    (λ small. let less : m < 128 = omega arith in rw (put_last (suc k) m less, put_last (suc k) n small) (omega arith))
    (λ large. split m 128 (λ small. rw (put_last (suc k) m small, put_suc k n large) (omega arith))
    (λ both. rw (put_suc k m both, put_suc k n large) (omega (arith, put_mono k (m / 128) (n / 128) (omega arith)))))

put_if_mono : (m n : ℕ) → m ≤ n → length (put_if (leb 15 m) (m - 15)) ≤ length (put_if (leb 15 n) (n - 15))
unfolding put_if
put_if_mono m n h =
    split m 15 (λ small. rw (lt-leb 15 m small) (omega arith))
    (λ large. let both : 15 ≤ n = omega arith in rw (le-leb 15 m large, le-leb 15 n both) (put_mono 9 (m - 15) (n - 15) (omega arith)))

pub emit_mono : (k m n a : ℕ) (b : List ℕ) → m ≤ n → length (emit (token k m a b)) ≤ length (emit (token k n a b))
emit_mono k m n a b h = omega (arith, length_emit k m a b, length_emit k n a b, put_if_mono m n h)

-- ---- tokens that started at q₀ or after it, and are written from r₀ on

-- value number k of ws is value number `get_or ks k 0` of vs; the target x is at g x then
module _ (vs ws : List Value) (ks listed : List ℕ) (g : ℕ → ℕ) (q₀ r₀ : ℕ) where
  -- it is one of the starts `listed`, no further from r₀ than x is from q₀, and the same value
  pub record Aim (x : ℕ) : Type 0 where
    pub below : g x < r₀
    pub near : r₀ + x ≤ q₀ + g x
    pub start : among (g x) listed ≡ true
    pub same : get_or ks (number ws (g x)) 0 ≡ number vs x

  -- the tokens ts at q, written as us at r
  pub record Moved (q r : ℕ) (ts us : List Token) : Type 0 where
    pub has : HasTargets listed r us
    pub same : SameTokens vs q ts ks ws r us
    pub short : length (bytes us) ≤ length (bytes ts)

  record MovedToken (q r : ℕ) (t u : Token) : Type 0 where
    sound : Sound Strict u
    has : HasTarget listed r u
    same : SameToken vs q t ks ws r u
    short : length (emit u) ≤ length (emit t)
    items : pending (rule u.kind) u.n u.args ≡ pending (rule t.kind) t.n t.args

  record MovedItems (q r : ℕ) (ts us : List Token) : Type 0 where
    moved : Moved q r ts us
    items : Each (Item Strict) us
    many : length us ≡ length ts

  moved_cons : (q r : ℕ) (t u : Token) (ts us : List Token) → MovedToken q r t u → Moved (q + length (emit t)) (r + length (emit u)) ts us
      → Moved q r (t ∷ ts) (u ∷ us)
  unfolding bytes
  moved_cons q r t u ts us m more = record {
    has = (m.has, more.has);
    same = (m.same, more.same);
    short = omega (arith, m.short, more.short, length-append (emit u) (bytes us), length-append (emit t) (bytes ts));
  }

  -- a token that is no reference or pointer stays
  moved_plain : (q r : ℕ) (t : Token) → t.kind < 14 → Sound Strict t → MovedToken q r t t
  moved_plain q r t low f = record {
    sound = f;
    has = λ k. absurd (omega arith);
    same = record { kind = refl; args = refl; body = refl; n = λ k. refl; target = λ k. absurd (omega arith) };
    short = omega arith;
    items = refl;
  }

  allowed_less : (t : Token) (m : ℕ) → 14 ≤ t.kind → m ≤ t.n → Sound Strict t → Sound Strict (token t.kind m t.args t.body)
  unfolding rule
  allowed_less t m far less f =
      let e = rule_far t.kind far (omega (arith, f.allowed.low)) in
      let none = rw e at f.allowed.sized in
      let allowed : Allowed (token t.kind m t.args t.body) = record {
        low = omega (arith, f.allowed.low);
        most = omega (arith, f.allowed.most);
        alone = f.allowed.alone;
        count = f.allowed.count;
        sized = rw e (omega arith);
      } in
      record { allowed = allowed; spelled = spelled_token Strict _ _ _ _ allowed; text = f.text }

  moved_far : (q r : ℕ) (t : Token) → r₀ ≤ r → r + q₀ ≤ q + r₀ → 14 ≤ t.kind → Sound Strict t → t.n < q → Aim (q - t.n - 1)
      → MovedToken q r t (token t.kind (r - g (q - t.n - 1) - 1) t.args t.body)
  unfolding rule
  moved_far q r t h d far f n< a =
      let m : ℕ = r - g (q - t.n - 1) - 1 in
      let less : m ≤ t.n = omega (arith, a.near, a.below) in
      let back : r - m - 1 ≡ g (q - t.n - 1) = omega (arith, a.below) in
      record {
        sound = allowed_less t m far less f;
        has = λ k. (omega (arith, a.below), rw back a.start);
        same = record { kind = refl; args = refl; body = refl; n = λ k. absurd (omega arith); target = λ k. rw back a.same };
        short = omega (arith, emit_mono t.kind m t.n t.args t.body less, ap (λ y. length (emit y)) (strict_token t f.spelled));
        items = rw (rule_far t.kind far (omega (arith, f.allowed.low))) (omega arith);
      }

  aims_by : (q : ℕ) (t : Token) (ts : List Token) → Each Aim (targets q (t ∷ ts))
      → (14 ≤ t.kind → Aim (q - t.n - 1)) × Each Aim (targets (q + length (emit t)) ts)
  aims_by q t ts a = (
    λ k. (rw (targets_own q t ts k) at a).0,
    split t.kind 14 (λ low. rw (targets_none q t ts low) at a) (λ far. (rw (targets_own q t ts far) at a).1),
  )

  module _ (done : List ℕ) where
    moved_token : (q r : ℕ) (t : Token) → r₀ ≤ r → r + q₀ ≤ q + r₀ → Sound Strict t → HasTarget done q t → (14 ≤ t.kind → Aim (q - t.n - 1))
        → MovedToken q r t (moved_to r (g (q - t.n - 1)) t)
    unfolding moved_to
    moved_token q r t h d f has aim =
        split t.kind 14
        (λ low. rw (lt-leb 14 t.kind low, strict_token t f.spelled) (moved_plain q r t low f))
        (λ far. rw (le-leb 14 t.kind far) (moved_far q r t h d far f (has far).0 (aim far)))

    moved_items : (q r : ℕ) (ts : List Token) → r₀ ≤ r → r + q₀ ≤ q + r₀ → Each (Item Strict) ts → HasTargets done q ts → Each Aim (targets q ts)
        → MovedItems q r ts (moved_tokens g q r ts)
    unfolding moved_tokens bytes
    moved_items q r [] h d is has a = record { moved = record { has = tt; same = tt; short = omega arith }; items = tt; many = refl }
    moved_items q r (t ∷ ts) h d is has a =
        let (own, rest) = aims_by q t ts a in
        let u = moved_to r (g (q - t.n - 1)) t in
        let m = moved_token q r t h d is.0.sound has.0 own in
        let ih = moved_items (q + length (emit t)) (r + length (emit u)) ts (omega arith) (omega (arith, m.short)) is.1 has.1 rest in
        record {
          moved = moved_cons q r t u ts _ m ih.moved;
          items = (record { sound = m.sound; immediate = rw m.same.kind is.0.immediate }, ih.items);
          many = ap suc ih.many;
        }

    pub moves_value : (v : Value) → Formed Strict v → HasTargets done q₀ (tokens v) → Each Aim (targets q₀ (tokens v))
        → Formed Strict (moved_value g q₀ r₀ v) × Moved q₀ r₀ (tokens v) (tokens (moved_value g q₀ r₀ v))
    unfolding moved_value
    moves_value v f has a =
        let t = v.head in
        let (own, rest) = aims_by q₀ t v.items a in
        let u = moved_to r₀ (g (q₀ - t.n - 1)) t in
        let m = moved_token q₀ r₀ t (omega arith) (omega arith) f.head has.0 own in
        let is = moved_items (q₀ + length (emit t)) (r₀ + length (emit u)) v.items (omega arith) (omega (arith, m.short)) f.items has.1 rest in
        (record { head = m.sound; items = is.items; count = is.many ∙ f.count ∙ sym m.items }, moved_cons q₀ r₀ t u v.items _ m is.moved)
