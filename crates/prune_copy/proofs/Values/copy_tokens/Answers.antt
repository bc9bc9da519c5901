-- `prune_copy::Values::copy_tokens` meets its contract. The invariant: the tokens that remain give the result of all.
use native.Mathlib.Omega.{arith}
use borrow.Author.Rules.{rules}
use Rattle.scan.proofs.Places.{token_less, token_inside}
use Rattle.prune_copy.proofs.Laws.{head_in, head_before, copy_end, copy_error, copy_refused, copy_on}
use Rattle.prune_copy.proofs.Values.copy_tokens.Goals as goal

pub loop-at-smaller : goal.loop-at-smaller
loop-at-smaller c = search (token_less, arith)

pub loop-at-preserved : goal.loop-at-preserved
loop-at-preserved c = (search (token_inside, arith), search rules, search rules, search (copy_on, c.in_ok-copy_token.was))

pub copy_token-requires : goal.copy_token-requires
copy_token-requires c = (search head_before, search head_in)

pub returns-in_err-copy_token : goal.returns-in_err-copy_token
returns-in_err-copy_token c =
    let l = c.loop-at in
    search (
      rules,
      copy_refused _ _ _ _ _ _ _ _ _ l.invariant.3 c.loop-at-test.true _ c.scan.ensures _ c.in-Ok.is _ _ _ _ c.copy_token.ensures _
          c.in_err-copy_token.was,
    )

pub returns-in_default : goal.returns-in_default
returns-in_default c = search copy_error

pub returns : goal.returns
returns c = search copy_end
