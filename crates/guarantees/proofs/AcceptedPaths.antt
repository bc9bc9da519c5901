-- Demand 3, last sentence, of every file that check accepts: no path meets a value twice, depths accepts the file and reports each value's depth, and
-- following takes at most j hops from value number j.
use mathlib.Core.Path.{◌≡◌, sym, ap, ◌∙◌}
use mathlib.Core.List.{List}
use Prim.Native.Nat.{ℕ}
use native.Mathlib.Omega.{arith}
use Rattle.prelude.specs.Answer.{ok}
use Rattle.prelude.specs.Bytes.{Bytes}
use Rattle.leb128.specs.declared.Mode.{Mode}
use Rattle.values.specs.Values.{starts}
use Rattle.values.specs.Paths.{depths_of_values}
use Rattle.values.proofs.Depths.{acyclic, length_depths, depth_is}
use Rattle.checker.specs.Check.{filled, check_of}
use Rattle.depths.specs.Depths.{deepened}
use Rattle.guarantees.specs.AcceptedPaths.{AcceptedPaths}
use Rattle.guarantees.proofs.Accepted.{accepted}
use Rattle.guarantees.proofs.Hops.{hops}
use Rattle.guarantees.proofs.Depths.{depths_accept}

pub accepted_paths : {mode : Mode} (file : List ℕ) (cap count entry : ℕ) → Bytes file → (check_of mode file cap).answer ≡ ok (count, entry)
    → AcceptedPaths mode file count entry
accepted_paths file cap count entry b e =
    let a = accepted file cap count entry b e in
    let vs = a.values in
    let w = a.well_formed in
    record {
      values = vs;
      well_formed = w;
      counted = a.counted;
      acyclic = λ i l h p. acyclic vs w.values (omega (arith, a.counted)) p;
      depths = depths_of_values vs;
      each = length_depths vs ∙ sym a.counted;
      accepted = λ words room enough more.
          depths_accept file vs entry words room w (omega (arith, a.counted)) (omega (arith, a.counted))
          ∙ ap (λ n. deepened (ok (n, entry)) (filled words (starts 0 vs)) (filled room (depths_of_values vs))) (sym a.counted);
      exact = λ i h. depth_is vs w.values i (omega (arith, a.counted));
      hops = λ j h. hops file vs entry w j (omega (arith, a.counted));
    }
