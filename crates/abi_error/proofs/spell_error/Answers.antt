-- `abi_error::spell_error` meets its contract.
use mathlib.Core.Path.{◌≡◌, ap, ◌∙◌}
use lib.ListN.{length}
use native.Mathlib.Omega.{arith}
use Rattle.error.proofs.Laws.{length_name}
use Rattle.abi_error.specs.Reply.{reply}
use Rattle.abi_error.proofs.Names.{spelled}
use Rattle.abi_error.proofs.spell_error.Goals as goal

pub copy-requires : goal.copy-requires
copy-requires c =
    let zeros : length c.fill.new.self ≡ 11 = c.fill.ensures.len ∙ omega arith in
    omega (arith, ap length (c.as_bytes.ensures.value ∙ c.name_of.ensures), length_name c.args.number)

pub returns : goal.returns
returns c =
    let long : length c.args.name.now ≡ 11 = omega arith in
    ap (λ ws. reply 0 ws)
    (spelled c.args.number _ _ _ _ _ long (c.as_bytes.ensures.value ∙ c.name_of.ensures) (c.fill.ensures.after (λ y e. e)) c.copy.ensures)
