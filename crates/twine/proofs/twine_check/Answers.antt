-- `twine::twine_check` meets its contract: what `check` answers, as C gets it.
use mathlib.Core.Path.{◌≡◌, ap, ◌∙◌}
use mathlib.Core.List.{List}
use Prim.Native.Nat.{ℕ}
use Rattle.checker.specs.Answers.{check_answer}
use Rattle.std.specs.Prelude.{Result}
use Rattle.error.specs.declared.Error.{Error}
use Rattle.checker.specs.declared.Summary.{Summary}
use Rattle.checker.specs.Check.{Checked, checked, check_of}
use Rattle.abi_error.specs.Reply.{Reply}
use Rattle.abi_answer.specs.Answers.{pair_c}
use Rattle.twine.specs.Tables.{check_reply, check_c}
use Rattle.leb128.specs.declared.Mode.{Mode}
use Rattle.twine.proofs.twine_check.Goals as goal

check_replied : {m mode : Mode} (file : List ℕ) (cap : ℕ) (x : Result Summary Error) {starts : List ℕ} {r : Reply} → m ≡ mode
    → checked (check_answer x) starts ≡ check_of m file cap → r ≡ pair_c (check_answer x) → check_reply r starts ≡ check_c mode file cap
check_replied file cap x {starts} is e k =
    ap (λ (r : Reply). check_reply r starts) k ∙ ap (λ (x : Checked). check_reply (pair_c x.answer) x.starts) e ∙ ap (λ (m : Mode). check_c m file cap) is

pub returns : goal.returns
returns c = search check_replied
