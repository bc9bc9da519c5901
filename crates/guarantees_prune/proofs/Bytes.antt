-- The marked values, written again, are bytes if the values were (`kept_bytes`).
--
-- In order: the shortest bytes of a number (`bytes_put`); a token, if its body is bytes (`bytes_emit`); values, if the bodies of their tokens are bytes
-- (`bytes_region`), and back (`region_bodies`); no body changes (`kept_bodies`).
use mathlib.Core.Path.{refl}
use mathlib.Core.Bool.{Bool, true, false}
use mathlib.Core.List.{List, [], ◌∷◌, ◌++◌}
use Prim.Native.Nat.{ℕ, zero, suc, ◌+◌, ◌-◌, ◌/◌, ◌<◌}
use native.Mathlib.Omega.{arith}
use borrow.Author.Tests.{lt-ltb, le-ltb}
use lib.Dec.{leb}
use lib.ListN.{length, get_or}
use Rattle.prelude.specs.Bytes.{Bytes}
use Rattle.prelude.specs.Each.{Each}
use Rattle.prelude.proofs.Tests.{pick_elim, split}
use Rattle.prelude.proofs.Parts.{bytes_after, bytes_front}
use Rattle.prelude.proofs.Lists.{each_append}
use Rattle.leb128.specs.Leb.{top, put}
use Rattle.leb128.specs.declared.Mode.TheVariants.{Strict}
use Rattle.kind.specs.Kind.{rule}
use Rattle.kind.proofs.Laws.{used_lt}
use Rattle.token.specs.Token.{Token, emit, SpellsIf}
use Rattle.values.specs.Values.{Value, tokens, bytes, region, Sound, Formed, Values}
use Rattle.writer.specs.Step.{moved_to}
use Rattle.guarantees.proofs.Rewrites.{bytes_body}
use Rattle.guarantees_prune.specs.Internal.{moved_tokens, moved_value, new_start, kept_values}
use Rattle.guarantees_prune.proofs.Calls.{sounds}

-- ---- a token

pub bytes_join : (p s : List ℕ) → Bytes p → Bytes s → Bytes (p ++ s)
bytes_join [] s b c = c
bytes_join (x ∷ p) s b c = (b.0, bytes_join p s b.1 c)

bytes_put : (k n : ℕ) → n < top k → Bytes (put k n)
unfolding put
bytes_put zero n h = (omega arith, tt)
bytes_put (suc k) n h =
    split n 128 (λ small. rw (lt-ltb n 128 small) (omega arith, tt))
    (λ large. rw (le-ltb n 128 large) (omega arith, bytes_put k (n / 128) (omega arith)))

bytes_spelled : (w : Bool) (n : ℕ) (s : List ℕ) → SpellsIf Strict w n s → Bytes s
bytes_spelled true n s h = rw (h.shortest refl) (bytes_put 9 n h.below)
bytes_spelled false n s h = rw h tt

bytes_emit : (t : Token) → Sound Strict t → Bytes t.body → Bytes (emit t)
unfolding emit
bytes_emit t s b = (
  omega (arith, used_lt t.kind (omega (arith, s.allowed.low))),
  bytes_join t.n_bytes _ (bytes_spelled (leb 15 t.n) _ t.n_bytes s.spelled.number)
      (bytes_join t.args_bytes t.body (bytes_spelled (rule t.kind).args _ t.args_bytes s.spelled.second) b),
)

-- ---- values

-- the bodies of tokens, and of the tokens of a value, are bytes
abbrev Bodies : List Token → Type 0
Bodies ts = Each (λ (t : Token). Bytes t.body) ts

abbrev ValueBodies : Value → Type 0
ValueBodies v = Bodies (tokens v)

bytes_tokens : (ts : List Token) → Each (Sound Strict) ts → Bodies ts → Bytes (bytes ts)
unfolding bytes
bytes_tokens [] s b = tt
bytes_tokens (t ∷ ts) s b = bytes_join (emit t) (bytes ts) (bytes_emit t s.0 b.0) (bytes_tokens ts s.1 b.1)

bytes_region : (vs : List Value) → Each (Formed Strict) vs → Each ValueBodies vs → Bytes (region vs)
unfolding region
bytes_region [] f b = tt
bytes_region (v ∷ vs) f b = bytes_join (bytes (tokens v)) (region vs) (bytes_tokens (tokens v) (sounds v f.0) b.0) (bytes_region vs f.1 b.1)

tokens_bodies : (ts : List Token) → Bytes (bytes ts) → Bodies ts
unfolding bytes
tokens_bodies [] b = tt
tokens_bodies (t ∷ ts) b = (bytes_body t (bytes_front (emit t) (bytes ts) b), tokens_bodies ts (bytes_after (emit t) (bytes ts) b))

region_bodies : (vs : List Value) → Bytes (region vs) → Each ValueBodies vs
unfolding region
region_bodies [] b = tt
region_bodies (v ∷ vs) b = (
  tokens_bodies (tokens v) (bytes_front (bytes (tokens v)) (region vs) b),
  region_bodies vs (bytes_after (bytes (tokens v)) (region vs) b),
)

-- ---- written again

moved_bodies : (g : ℕ → ℕ) (q r : ℕ) (ts : List Token) → Bodies ts → Bodies (moved_tokens g q r ts)
unfolding moved_tokens moved_to
moved_bodies g q r [] b = tt
moved_bodies g q r (t ∷ ts) b = (b.0, moved_bodies g (q + length (emit t)) (r + length (emit (moved_to r (g (q - t.n - 1)) t))) ts b.1)

kept_bodies : (ss : List ℕ) (ms : List Bool) (i q : ℕ) (done vs : List Value) → Each ValueBodies done → Each ValueBodies vs
    → Each ValueBodies (kept_values ss ms i q done vs)
unfolding kept_values moved_value moved_tokens
kept_bodies ss ms i q done [] d b = d
kept_bodies ss ms i q done (v ∷ vs) d b =
    let r = length (region done) in
    let moved = moved_bodies (new_start ss ms done) q r (tokens v) b.0 in
    let more = (each_append ValueBodies done (moved_value (new_start ss ms done) q r v ∷ [])).1 (d, (moved, tt)) in
    kept_bodies ss ms (suc i) (q + length (bytes (tokens v))) _ vs (pick_elim (Each ValueBodies) (get_or ms i false) (λ _. more) (λ _. d)) b.1

pub kept_bytes : (ss : List ℕ) (ms : List Bool) (vs : List Value) → Bytes (region vs) → let ws = kept_values ss ms 0 0 [] vs in Values Strict ws
    → Bytes (region ws)
kept_bytes ss ms vs b ok = bytes_region (kept_values ss ms 0 0 [] vs) ok.formed (kept_bodies ss ms 0 0 [] vs tt (region_bodies vs b))
