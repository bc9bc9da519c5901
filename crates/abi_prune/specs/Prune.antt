-- What prune answers in C, and leaves in memory.
--
--   pruned_c a          length, count and entry of the new file; or the error, with its place, or 0 if it has none, and zeros
--   PruneReply, prune_reply r out old new
--                      a reply, and the output and the two tables that it comes with
--   prune_c file out cap words
--                      what `twine_prune` answers, and leaves in the output, an old table of cap words and a new one of `words`
use Rattle.std.specs.Prelude.{ℕ, List, [], ◌∷◌}
use Rattle.prelude.specs.Answer.{Answer, ok, error}
use Rattle.prune.specs.Prune.{Refusal, bad_file, no_fit, prune_of}
use Rattle.abi_error.specs.Reply.{Reply, reply}

abbrev pub pruned_c : Answer Refusal (ℕ × ℕ × ℕ) → Reply
pruned_c (ok a) = reply 0 (a.0 ∷ a.1 ∷ a.2 ∷ [])
pruned_c (error (bad_file e)) = reply e.number (e.place ∷ 0 ∷ 0 ∷ [])
pruned_c (error (no_fit f)) = reply f (0 ∷ 0 ∷ 0 ∷ [])

pub record PruneReply : Type 0 where
  pub reply : Reply
  pub out : List ℕ
  pub old : List ℕ
  pub new : List ℕ

abbrev pub prune_reply : Reply → List ℕ → List ℕ → List ℕ → PruneReply
prune_reply r out old new = record { reply = r; out = out; old = old; new = new }

abbrev pub prune_c : List ℕ → List ℕ → ℕ → ℕ → PruneReply
prune_c file out cap words = let p = prune_of file out cap words in prune_reply (pruned_c p.answer) p.out p.old p.new
