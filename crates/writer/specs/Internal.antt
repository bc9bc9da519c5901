-- What the steps inside a call need and leave. No public contract cites this file.
--
--   ListedTest g x s table
--                         g is whether x is listed; nothing is said if s has written more than LIMIT bytes, or lists more
--                         starts than the table has words
--   IfElse b A B          A if b is true, else B
--   ArgumentTest g k b x s table
--                         for a kind k that names a target, g is whether the target x is listed; for a text, whether the
--                         body b is text; for all others it is true
--   token_flags_by row k g  the flags of a token of kind k with the rule `row`; g is false if its text or target is wrong
--   Fits t x s out table f
--                         the token t with the target x is accepted, and the `Fit` f is right for it
--   FitOf t x s out table r
--                         r is a right `Fit` for the token t with the target x, or why it is refused
--   Advanced r s table next words
--                         a token with the `Fit` r, once written, leaves the state `next` and the table `words`
--   WroteDelta d s out r o
--                         writing the delta byte d leaves the state r and the output o, and any table as it was
--   close_near e d s out table
--                         a close at e by the delta byte d alone, written or refused
--   close_far e back s out table
--                         a close at e by a pointer of that distance and its delta byte, written or refused
use Rattle.std.specs.Prelude.{◌≡◌, Bool, true, false, not, ◌&&◌, List, [], ℕ, ◌+◌, ◌≤◌, ◌<◌, eqb, leb, length, set}
use Rattle.std.specs.Prelude as code
use Rattle.std.specs.Bool.{then_some}
use Rattle.prelude.specs.Pick.{pick}
use Rattle.prelude.specs.Answer.{ok, error}
use Rattle.error.specs.Error.{LIMIT, number_of}
use Rattle.error.specs.declared.ErrorKind.{ErrorKind}
use Rattle.utf8.specs.Text.{is_text}
use Rattle.kind.specs.Kind.{rule, due, immediate}
use Rattle.kind.specs.declared.Rule.{Rule}
use Rattle.token.specs.Token.{Token, token, emit}
use Rattle.writer_refusal.specs.Refusal.{limit, is_listed}
use Rattle.writer_refusal.specs.declared.State.{State}
use Rattle.writer_refusal.specs.declared.CallFlags.{CallFlags}
use Rattle.writer.specs.Step.{opens, pending_of, token_refusal, delta_refusal, start_of, Result, result, write_delta, write_pointer_delta, settled}
use Rattle.writer.specs.declared.Fit.{Fit}

abbrev pub ListedTest : Bool → ℕ → State → List ℕ → Type 0
ListedTest g x s table = s.written ≤ LIMIT → s.count ≤ length table → g ≡ is_listed s table x

abbrev pub IfElse : Bool → Type 0 → Type 0 → Type 0
IfElse true A B = A
IfElse false A B = B

abbrev pub ArgumentTest : Bool → ℕ → List ℕ → ℕ → State → List ℕ → Type 0
ArgumentTest g k b x s table = IfElse (leb 14 k) (ListedTest g x s table) (IfElse (eqb k 4) (g ≡ is_text b) (g ≡ true))

abbrev pub token_flags_by : Rule → ℕ → Bool → CallFlags
token_flags_by row k g = record { alone = not (immediate row); nontext = eqb k 4 && not g; unlisted = leb 14 k && not g; adds = true }

pub record Fits (t : Token) (x : ℕ) (s : State) (out table : List ℕ) (f : Fit) : Type 0 where
  pub kind : t.kind < 16
  pub accepted : token_refusal (opens t) t x s out table ≡ ok tt
  pub second : f.second ≡ then_some (rule t.kind).args t.args
  pub size : f.size ≡ length (emit t)
  pub left : f.left ≡ due s.pending (limit (pending_of t))

abbrev pub FitOf : Token → ℕ → State → List ℕ → List ℕ → code.Result Fit ErrorKind → Type 0
FitOf t x s out table (code.Ok f) = Fits t x s out table f
FitOf t x s out table (code.Err e) = token_refusal (opens t) t x s out table ≡ error (number_of e)

pub record Advanced (r : Fit) (s : State) (table : List ℕ) (next : State) (words : List ℕ) : Type 0 where
  pub state : next ≡ record {
    written = s.written + r.size;
    count = pick (eqb r.left 0) (s.count + 1) s.count;
    pending = r.left;
    start = start_of s;
    closed = false;
  }
  pub listed : words ≡ pick (eqb r.left 0) (set table s.count (start_of s)) table

pub record WroteDelta (d : ℕ) (s : State) (out : List ℕ) (r : State) (o : List ℕ) : Type 0 where
  pub same : (table : List ℕ) → result (ok tt) r o table ≡ write_delta d s out table

abbrev pub close_near : ℕ → ℕ → State → List ℕ → List ℕ → Result
close_near e d s out table = settled (delta_refusal e s out table) s out table (write_delta d s out table)

abbrev pub close_far : ℕ → ℕ → State → List ℕ → List ℕ → Result
close_far e back s out table = let t = token 15 back 0 [] in settled (token_refusal true t e s out table) s out table (write_pointer_delta t s out table)
