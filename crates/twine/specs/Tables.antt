-- What check and depths answer in C, and leave in the tables.
--
--   CheckReply, check_reply r t
--                    a reply, and the table of starts that it comes with
--   check_c mode file cap
--                    what `twine_check` answers, and leaves in a table of cap words
--   DepthsReply, depths_reply r t d
--                    a reply, and the tables of starts and depths that it comes with
--   depths_c mode file cap room
--                    what `twine_depths` answers, and leaves in tables of cap and room words
use Rattle.std.specs.Prelude.{ℕ, List}
use Rattle.checker.specs.Check.{check_of}
use Rattle.depths.specs.Depths.{depths_of}
use Rattle.abi_error.specs.Reply.{Reply}
use Rattle.abi_answer.specs.Answers.{pair_c}
use Rattle.leb128.specs.declared.Mode.{Mode}

pub record CheckReply : Type 0 where
  pub reply : Reply
  pub starts : List ℕ

abbrev pub check_reply : Reply → List ℕ → CheckReply
check_reply r t = record { reply = r; starts = t }

abbrev pub check_c : Mode → List ℕ → ℕ → CheckReply
check_c mode file cap = let c = check_of mode file cap in check_reply (pair_c c.answer) c.starts

pub record DepthsReply : Type 0 where
  pub reply : Reply
  pub starts : List ℕ
  pub depths : List ℕ

abbrev pub depths_reply : Reply → List ℕ → List ℕ → DepthsReply
depths_reply r t d = record { reply = r; starts = t; depths = d }

abbrev pub depths_c : Mode → List ℕ → ℕ → ℕ → DepthsReply
depths_c mode file cap room = let d = depths_of mode file cap room in depths_reply (pair_c d.answer) d.starts d.depths
