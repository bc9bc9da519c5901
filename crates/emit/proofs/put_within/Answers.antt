-- `emit::put_within` meets its contract: the body after the header and its numbers.
use mathlib.Core.Path.{◌≡◌}
use mathlib.Core.List.{List, [], ◌++◌, append_assoc, append-nil}
use Prim.Native.Nat.{ℕ, ◌+◌, ◌≤◌}
use native.Mathlib.Omega.{arith}
use lib.ListN.{length, length-append}
use Rattle.prelude.proofs.Parts.{put_same, put_append}
use Rattle.token.specs.Token.{token, emit}
use Rattle.emit.proofs.put_within.Goals as goal

emit_append : (k n a : ℕ) (b : List ℕ) → emit (token k n a b) ≡ emit (token k n a []) ++ b
unfolding emit
emit_append k n a b = simp (append_assoc, append-nil)

room : (k n a : ℕ) (b d : List ℕ) → length (emit (token k n a b)) ≤ length d → length (emit (token k n a [])) + length b ≤ length d
room k n a b d h = rw (emit_append, length-append) at h

pub put_head-head-requires : goal.put_head-head-requires
put_head-head-requires c = (c.requires.0, c.requires.1, omega (arith, room _ _ _ _ _ c.requires.2))

pub put_body-requires : goal.put_body-requires
put_body-requires c =
    omega (arith, c.put_head-head.ensures.size, room _ _ _ _ _ c.requires.2, put_same _ c.args.out.now _ _ c.put_head-head.ensures)

pub returns : goal.returns
returns c = rw emit_append (search put_append)
