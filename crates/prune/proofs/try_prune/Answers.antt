-- `prune::try_prune` meets its contract.
use mathlib.Core.Path.{ap, ◌∙◌}
use lib.ListN.{length, replicate}
use borrow.Author.Rules.{rules}
use Rattle.prune.proofs.Laws.{file_some, file_fits, file_row, file_refused, file_left}
use Rattle.prune.proofs.try_prune.Goals as goal

pub rebuild_file-requires : goal.rebuild_file-requires
rebuild_file-requires c =
    let e = c.in_ok-found.ensures in
    (file_some _ _ _ _ _ e, file_fits _ _ _ _ _ e, file_row _ _ _ _ _ e)

pub returns-in_err-found : goal.returns-in_err-found
returns-in_err-found c = search (rules, file_refused _ _ _ _ c.in_err-found.ensures c.args.out.now c.args.new.now)

pub returns-in-Ok : goal.returns-in-Ok
returns-in-Ok c =
    let e = c.in-Ok.ensures in
    let made = c.rebuild_file.auto in
    file_left _ _ _ _ _ c.in_ok-found.ensures c.args.out.now _ _ _ _ _ _ e.0 made.out made.new e.1

pub returns-in-Err : goal.returns-in-Err
returns-in-Err c =
    let e = c.in-Err.ensures in
    let made = c.rebuild_file.auto in
    let zeros = c.fill.ensures.after (λ y e. e) ∙ ap (λ t. replicate (length t) 0) e.0 in
    rw c.from.ensures (file_left _ _ _ _ _ c.in_ok-found.ensures c.args.out.now _ _ _ _ _ _ zeros made.out made.new e.1)
