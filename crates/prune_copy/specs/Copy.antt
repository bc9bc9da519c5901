-- The values that are marked, written again by the writer (W-204: "each once, in their old order, distances worked out anew").
--
--   token_of s h        the token with head h in the region s
--   new_number ss ms t  the number that the target of t gets: how many values before it are marked
--   if_accepted v r next
--                      `next` if the verdict v is ok, else r
--   and_on r f          f of what the call r left, if it was accepted, and else r: the first refused call decides
--   copy_tokens s ss ms ts w out table
--                      what the writer w leaves when it writes the tokens ts of the region s, whose values start at ss; ms are the marks
--   copy_values s ss ms k i w out table
--                      the same for k values from number i on: the tokens of each that is marked are written
use Rattle.std.specs.Prelude.{ℕ, zero, suc, Bool, false, List, [], ◌∷◌, take, get_or}
use Rattle.prelude.specs.Pick.{pick}
use Rattle.prelude.specs.Answer.{ok, error}
use Rattle.prelude.specs.Search.{rank}
use Rattle.kind.specs.Kind.{rule}
use Rattle.token.specs.Token.{Token, token}
use Rattle.scan.specs.Answers.{body_on}
use Rattle.scan.specs.declared.Head.{Head}
use Rattle.writer_refusal.specs.Refusal.{Verdict}
use Rattle.writer_refusal.specs.declared.State.{State}
use Rattle.writer.specs.Step.{Result, result, put_moved}
use Rattle.prune_tokens.specs.Tokens.{PlacedHead, heads_of, target_of}
use Rattle.prune_marks.specs.Marks.{kept}

abbrev pub token_of : List ℕ → Head → Token
token_of s h = token h.kind h.n (pick (rule h.kind).args h.items 0) (body_on s h)

abbrev pub new_number : List ℕ → List Bool → PlacedHead → ℕ
new_number ss ms t = kept (take (rank (target_of t) ss) ms)

abbrev pub if_accepted : Verdict → Result → Result → Result
if_accepted (ok u) r next = next
if_accepted (error f) r next = r

abbrev pub and_on : Result → (State → List ℕ → List ℕ → Result) → Result
and_on r f = if_accepted r.answer r (f r.writer r.out r.table)

module _ (s ss : List ℕ) (ms : List Bool) where
  unfoldable pub copy_tokens : List PlacedHead → State → List ℕ → List ℕ → Result
  copy_tokens [] w out table = result (ok tt) w out table
  copy_tokens (t ∷ ts) w out table = and_on (put_moved (token_of s t.head) (new_number ss ms t) w out table) (copy_tokens ts)

  unfoldable pub copy_values : ℕ → ℕ → State → List ℕ → List ℕ → Result
  copy_values zero i w out table = result (ok tt) w out table
  copy_values (suc k) i w out table =
      let rest = copy_values k (suc i) in
      pick (get_or ms i false) (and_on (copy_tokens (heads_of s ss i) w out table) rest) (rest w out table)
