-- `twine::twine_depths` meets its contract: what `depths` answers, as C gets it.
use mathlib.Core.Path.{◌≡◌, ap, ◌∙◌}
use mathlib.Core.List.{List}
use Prim.Native.Nat.{ℕ}
use Rattle.checker.specs.Answers.{check_answer}
use Rattle.std.specs.Prelude.{Result}
use Rattle.error.specs.declared.Error.{Error}
use Rattle.checker.specs.declared.Summary.{Summary}
use Rattle.depths.specs.Depths.{Deepened, deepened, depths_of}
use Rattle.abi_error.specs.Reply.{Reply}
use Rattle.abi_answer.specs.Answers.{pair_c}
use Rattle.twine.specs.Tables.{depths_reply, depths_c}
use Rattle.leb128.specs.declared.Mode.{Mode}
use Rattle.twine.proofs.twine_depths.Goals as goal

depths_replied : {m mode : Mode} (file : List ℕ) (cap room : ℕ) (x : Result Summary Error) {starts depths : List ℕ} {r : Reply} → m ≡ mode
    → deepened (check_answer x) starts depths ≡ depths_of m file cap room → r ≡ pair_c (check_answer x)
    → depths_reply r starts depths ≡ depths_c mode file cap room
depths_replied file cap room x {starts} {depths} is e k =
    ap (λ (r : Reply). depths_reply r starts depths) k ∙ ap (λ (x : Deepened). depths_reply (pair_c x.answer) x.starts x.depths) e
    ∙ ap (λ (m : Mode). depths_c m file cap room) is

pub returns : goal.returns
returns c = search depths_replied
