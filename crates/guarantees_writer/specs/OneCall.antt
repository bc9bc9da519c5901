-- What one call of the writer may change and leaves, in any state, with any output and table (document 01, "Writer"), as the theorems on single calls
-- have it.
--
--   Only s out table r        an accepted call that leaves r changes no more than the paper allows
--   request_bytes l w          the bytes that an accepted request adds after w bytes: its token; or the delta byte, perhaps after a pointer
--   pending_after l s          the items that are pending after it
--   closed_after l             whether the writer is then closed
--   Starts s x                the value that the next token belongs to starts at x
--   Writes l s out r          an accepted request l leaves r: these bytes after those written, the items then pending, the start of the value that they
--                             belong to, and closed if it is a close
--   FinishesNone, Finishes x  it finishes no value; it finishes the one that starts at x
--   Finishing l s table r     which value it finishes
--   Pending k s out table     k items are pending, with room for them
--   Closed x s table r        a close at x leaves r
--   NextItem k t target s out table
--                             the token t may be the next item, with k more to come
--   TookItem k n s table r    an item of n bytes was taken, and left r
--   OneByte c                 the call c writes an immediate of one byte
--   left cs r                 what the calls cs leave after r
--   FinishedBy cs x w s table r
--                             the calls cs finish the open value
use Rattle.std.specs.Prelude.{◌≡◌, Bool, true, false, List, [], ◌∷◌, ◌++◌, ℕ, ◌+◌, ◌-◌, ◌≤◌, ◌<◌, ltb, length, take, drop, set, get_or}
use Rattle.prelude.specs.Pick.{pick}
use Rattle.prelude.specs.Answer.{ok, error}
use Rattle.error.specs.Error.{CLOSED}
use Rattle.utf8.specs.Text.{is_text}
use Rattle.token.specs.Token.{Token, emit}
use Rattle.writer_refusal.specs.Refusal.{bad_state, is_listed, limit, room}
use Rattle.writer_refusal.specs.declared.State.{State}
use Rattle.writer.specs.Call.{Call}
use Rattle.writer.specs.Step.{puts, move_of, opens, Result, result, step}
use Rattle.writer.specs.Runs.{runs}
use Rattle.guarantees_writer.specs.Model.{part, form_of, Request, adds, ends}
use Rattle.guarantees_writer.specs.RefusedCall.{items_after}
use Rattle.guarantees_writer.specs.History.{AllOk}

-- ---- what an accepted call may change

-- a call that leaves r: more bytes are written, within the output and LIMIT; lengths stay; in the output only the bytes
-- from the old to the new `written` change, in the table only the word at the old count
pub record Only (s : State) (out table : List ℕ) (r : Result) : Type 0 where
  pub grows : s.written < r.writer.written
  pub within : r.writer.written ≤ limit (length out)
  pub bytes : length r.out ≡ length out
  pub words : length r.table ≡ length table
  pub before : take s.written r.out ≡ take s.written out
  pub after : drop r.writer.written r.out ≡ drop r.writer.written out
  pub others : (i : ℕ) → (i ≡ s.count → ⊥) → get_or r.table i 0 ≡ get_or table i 0

abbrev pub request_bytes : Request → ℕ → List ℕ
request_bytes (adds p) w = emit (form_of w p)
request_bytes (ends e) w =
    let back = w - e - 1 in
    let pointer = emit (form_of w (part 15 e 0 [])) in
    pick (ltb 255 back) (pointer ++ ((length pointer - 1) ∷ [])) (back ∷ [])

abbrev pub pending_after : Request → State → ℕ
pending_after (adds p) s = items_after p s
pending_after (ends e) s = 0

abbrev pub closed_after : Request → Bool
closed_after (adds p) = false
closed_after (ends e) = true

-- a new value starts after the bytes written; an open one has its start
pub data Starts (s : State) : ℕ → Type 0 where
  new : s.pending ≡ 0 → Starts s s.written
  begun : 0 < s.pending → Starts s s.start

pub record Writes (l : Request) (s : State) (out : List ℕ) (r : Result) : Type 0 where
  pub written : r.writer.written ≡ s.written + length (request_bytes l s.written)
  pub bytes : take r.writer.written r.out ≡ take s.written out ++ request_bytes l s.written
  pub pending : r.writer.pending ≡ pending_after l s
  pub start : 0 < r.writer.pending → Starts s r.writer.start
  pub closed : r.writer.closed ≡ closed_after l

-- ---- the value that it finishes

-- none: count and table are as before
pub record FinishesNone (s : State) (table : List ℕ) (r : Result) : Type 0 where
  pub count : r.writer.count ≡ s.count
  pub words : r.table ≡ table

-- the value that starts at x: no items are pending, and x is listed, in the word at the old count
pub record Finishes (x : ℕ) (s : State) (table : List ℕ) (r : Result) : Type 0 where
  pub none : r.writer.pending ≡ 0
  pub count : r.writer.count ≡ s.count + 1
  pub words : r.table ≡ set table s.count x
  pub listed : get_or r.table s.count 0 ≡ x

-- what a request that leaves r finishes: a token with items pending after it, none; the last token of a value, that value;
-- a close, none if the delta byte reaches the value closed at, else the pointer that it adds
abbrev pub Finishing : Request → State → List ℕ → Result → Type 0
Finishing (adds p) s table r =
    (0 < r.writer.pending → FinishesNone s table r) × (r.writer.pending ≡ 0 → (x : ℕ) × Starts s x × Finishes x s table r)
Finishing (ends e) s table r = (s.written - e - 1 ≤ 255 → FinishesNone s table r) × (255 < s.written - e - 1 → Finishes s.written s table r)

-- ---- the state that it leaves

-- an open value, or none if k is 0: k items are pending, with room for them and for the delta after them
pub record Pending (k : ℕ) (s : State) (out table : List ℕ) : Type 0 where
  pub good : bad_state s (length out) (length table) ≡ false
  pub unclosed : s.closed ≡ false
  pub items : s.pending ≡ k
  pub room : s.written + k + 1 ≤ limit (length out)

-- a close at x that leaves r: by the delta byte if it reaches x, else by a pointer, which is one more value; each later
-- call is refused with CLOSED, and changes nothing
pub record Closed (x : ℕ) (s : State) (table : List ℕ) (r : Result) : Type 0 where
  pub closed : r.writer.closed ≡ true
  pub none : r.writer.pending ≡ 0
  pub near : s.written - x - 1 ≤ 255 → FinishesNone s table r
  pub far : 255 < s.written - x - 1 → Finishes s.written s table r
  pub good : bad_state r.writer (length r.out) (length r.table) ≡ false
  pub later : (c : Call) → step c r.writer r.out r.table ≡ result (error CLOSED) r.writer r.out r.table

-- ---- an open value finished

-- t may be the next item, with k more to come: an immediate, whose text is text, whose target is listed, and which has
-- room with a byte for each of the k
pub record NextItem (k : ℕ) (t : Token) (target : ℕ) (s : State) (out table : List ℕ) : Type 0 where
  pub immediate : opens t ≡ false
  pub text : t.kind ≡ 4 → is_text t.body ≡ true
  pub aim : 14 ≤ t.kind → is_listed s table target ≡ true
  pub fits : length (emit t) + k ≤ room s (length out)

-- an item of n bytes was taken, and k are left: the value stays open, with its start, or is finished, and its start is listed
pub record TookItem (k n : ℕ) (s : State) (table : List ℕ) (r : Result) : Type 0 where
  pub answer : r.answer ≡ ok tt
  pub written : r.writer.written ≡ s.written + n
  pub start : r.writer.start ≡ s.start
  pub after : Pending k r.writer r.out r.table
  pub more : 0 < k → FinishesNone s table r
  pub last : k ≡ 0 → Finishes s.start s table r

-- at whatever offset it is written, the call puts an immediate of one byte, which has no target and is not a bad text
pub record OneByte (c : Call) : Type 0 where
  pub item : Token
  pub always : (w : ℕ) → move_of c w ≡ puts item 0
  pub immediate : opens item ≡ false
  pub text : item.kind ≡ 4 → is_text item.body ≡ true
  pub aim : item.kind < 14
  pub byte : length (emit item) ≡ 1

-- what the calls cs leave after r
abbrev pub left : List Call → Result → Result
left cs r = let q = runs cs r.writer r.out r.table in result (ok tt) q.writer q.out q.table

-- the calls cs after r are all accepted; the value that starts at x is then finished, with w bytes written
pub record FinishedBy (cs : List Call) (x w : ℕ) (s : State) (table : List ℕ) (r : Result) : Type 0 where
  pub accepted : AllOk (runs cs r.writer r.out r.table).answers
  pub finishes : Finishes x s table (left cs r)
  pub written : (left cs r).writer.written ≡ w
