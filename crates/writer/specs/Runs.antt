-- Lists of the writer's calls: each call gets state, output and table as the one before left them (demand 3).
--
--   Ran, ran vs s out table
--                      the answers of a list of calls, and the state, output and table that the last one left
--   runs cs s out table
--                      the calls cs one after the other, the first with this state, output and table
use Rattle.std.specs.Prelude.{ℕ, List, [], ◌∷◌}
use Rattle.writer_refusal.specs.Refusal.{Verdict}
use Rattle.writer_refusal.specs.declared.State.{State}
use Rattle.writer.specs.Call.{Call}
use Rattle.writer.specs.Step.{step}

pub record Ran : Type 0 where
  pub answers : List Verdict
  pub writer : State
  pub out : List ℕ
  pub table : List ℕ

abbrev pub ran : List Verdict → State → List ℕ → List ℕ → Ran
ran vs s out table = record { answers = vs; writer = s; out = out; table = table }

unfoldable pub runs : List Call → State → List ℕ → List ℕ → Ran
runs [] s out table = ran [] s out table
runs (c ∷ cs) s out table =
    let r = step c s out table in
    let more = runs cs r.writer r.out r.table in
    ran (r.answer ∷ more.answers) more.writer more.out more.table
