-- `emit::put` meets its contract: it asks for the kind and the room first.
use mathlib.Core.Path.{◌≡◌}
use mathlib.Core.List.{List}
use Prim.Native.Nat.{ℕ, ◌≤◌, ◌<◌}
use native.Mathlib.Omega.{arith}
use lib.ListN.{length}
use borrow.Author.Tests.{lt-ltb, le-ltb}
use Rattle.prelude.specs.Bytes.{stored, Put}
use Rattle.prelude.proofs.Parts.{store_none, store_put}
use Rattle.token.specs.Token.{Token, emit, emit_into}
use Rattle.emit.proofs.Numbers.{is_some_then, emit_second}
use Rattle.emit.proofs.put.Goals as goal

-- a token of a kind, whose bytes are k
module _ (t : Token) (d : List ℕ) (k : ℕ) (kind : t.kind < 16) (sized : k ≡ length (emit t)) where
  emit_into_none : length d < k → stored 0 d ≡ emit_into t d
  unfolding emit_into
  emit_into_none h = rw (lt-ltb t.kind 16 kind) (store_none (emit t) d (omega arith))

  emit_into_put : (e : List ℕ) (r : ℕ) → k ≤ length d → Put (emit t) d e r → stored r e ≡ emit_into t d
  unfolding emit_into
  emit_into_put e r h put = rw (lt-ltb t.kind 16 kind) (store_put (emit t) d e r (omega arith) put)

pub returns-then-kind-ge16-clause-stores : goal.returns-then-kind-ge16-clause-stores
unfolding emit_into
returns-then-kind-ge16-clause-stores c = rw (le-ltb _ _ c.if-kind-ge16.true)

pub returns-then-rest-size-clause-stores : goal.returns-then-rest-size-clause-stores
returns-then-rest-size-clause-stores c = search emit_into_none

pub put_within-requires : goal.put_within-requires
put_within-requires c = rw (c.then_some.ensures, c.rule_of-rule.ensures, emit_second) (omega arith, is_some_then _ _, omega arith)

pub returns-clause-stores : goal.returns-clause-stores
returns-clause-stores c = emit_into_put _ _ _ (omega arith) c.size.ensures _ _ c.if-rest-size.false (rw (c.then_some.ensures, c.rule_of-rule.ensures, emit_second) at c.put_within.ensures)
