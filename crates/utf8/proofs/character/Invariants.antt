-- `utf8::character` meets its contract. The invariant: the bytes from i on, if they fill what is due and then are a text, give the answer.
use mathlib.Core.Path.{◌≡◌}
use Prim.Native.Nat.{◌+◌, ◌≤◌}
use lib.ListN.{length, drop}
use Rattle.std.specs.Prelude.{Some}
use Rattle.utf8.specs.Text.{text_from, is_text}
use Rattle.utf8.specs.Internal.{due_of}
use Rattle.utf8.proofs.character.Given as goal

abbrev pub invariant-loop-i : goal.invariant-loop-i
invariant-loop-i l = (l.i + l.due.left ≡ l.size) × (l.i ≤ length l.s) × (text_from (due_of (Some l.due)) (drop l.i l.s) ≡ is_text l.s)
