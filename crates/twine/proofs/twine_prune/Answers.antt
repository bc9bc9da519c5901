-- `twine::twine_prune` meets its contract: what `prune` answers, as C gets it.
use mathlib.Core.Path.{◌≡◌, ap, ◌∙◌}
use mathlib.Core.List.{List}
use Prim.Native.Nat.{ℕ}
use Rattle.prune.specs.Prune.{Pruned, pruned, prune_of}
use Rattle.prune.specs.Answers.{prune_answer}
use Rattle.std.specs.Prelude.{Result}
use Rattle.prune.specs.declared.NewFile.{NewFile}
use Rattle.prune.specs.declared.PruneError.{PruneError}
use Rattle.abi_error.specs.Reply.{Reply}
use Rattle.abi_prune.specs.Prune.{pruned_c, prune_reply, prune_c}
use Rattle.twine.proofs.twine_prune.Goals as goal

prune_replied : (file out : List ℕ) (cap words : ℕ) (x : Result NewFile PruneError) {o t u : List ℕ} {r : Reply} → pruned (prune_answer x) o t u ≡ prune_of file out cap words
    → r ≡ pruned_c (prune_answer x) → prune_reply r o t u ≡ prune_c file out cap words
prune_replied file out cap words x {o} {t} {u} e k =
    ap (λ (r : Reply). prune_reply r o t u) k ∙ ap (λ (p : Pruned). prune_reply (pruned_c p.answer) p.out p.old p.new) e

pub returns : goal.returns
returns c = search prune_replied
