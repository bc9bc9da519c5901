-- `kind::rule_of` meets its contract: unpacked, the code's table is the table of rules.
use mathlib.Core.Path.{◌≡◌, refl}
use mathlib.Core.List.{List, [], ◌∷◌}
use Prim.Native.Nat.{ℕ}
use native.Mathlib.Omega.{arith}
use lib.ListN.{get_or, get_or-eq_default}
use borrow.Author.Rules.{rules}
use Rattle.prelude.proofs.Tests.{split}
use Rattle.prelude.proofs.Tables.{get_d_coded}
use Rattle.kind.specs.Kind.{rule, table, reserved}
use Rattle.kind.specs.Internal.{unpack, bound}
use Rattle.kind.proofs.Laws.{rule_past}
use Rattle.kind.proofs.rule_of.Goals as goal

-- the code's table
abbrev packed : List ℕ
packed =
    32835 ∷ 32912 ∷ 32912 ∷ 33826 ∷ 33200 ∷ 33200 ∷ 4272 ∷ 8368 ∷ 2224 ∷ 0 ∷ 32880 ∷ 2160 ∷ 16496 ∷ 0 ∷ 32944 ∷ 32944 ∷ []

pub returns : goal.returns
unfolding rule unpack bound
returns c =
    let is : c.unwrap_or.result ≡ get_or packed c.args.kind 0 = search rules in
    rw (c.unpacked.ensures, is)
    (split c.args.kind 16
    (λ below. get_d_coded unpack packed table c.args.kind 0 reserved refl below)
    (λ past. rw (get_or-eq_default packed 0 {n = c.args.kind} past, rule_past c.args.kind (omega arith))))
