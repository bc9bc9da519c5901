-- What a call of the writer is refused for, in any state (document 01, "Writer"): the reasons as the paper has them, in its order.
--
-- The request l of a call (Model.antt) comes in the state s, with an output of n bytes and a table of m words; w are the bytes written.
--
--   BadState s n m     "w over the output or over 16,777,216; count over the table; items owed with no free word, or with an open start not below w"
--   Owed l s           "opening or closing while items are owed"
--   BadText l          a text whose bytes are not UTF-8, by the grammar
--   Listed s table x   "among the listed words and below w"
--   BadTarget l s table
--                      a target or close offset that is not
--   Full l s m         "a new value only": none is open, and the table has no free word. A close adds a value if its delta does not reach the value closed at
--   items_after p s     the items that are pending after the part p
--   needs l s          the bytes that the output must have: those written, those of the call, one for each item then pending, and the delta
--   NoRoom l s n       the output, of which at most LIMIT bytes are used, has fewer
--   RefusedCall l s out table f
--                      the call is refused with the error f: a row for each error, in the order of the paper, with the premise that no row above it
--                      applies
--   write_errors        the numbers of the errors, in the order of the rows; so neither RESERVED nor RANGE
use Rattle.std.specs.Prelude.{ℕ, ◌+◌, ◌-◌, ◌≤◌, ◌<◌, min, ◌≡◌, true, false, List, [], ◌∷◌, eqb, ltb, length, get_or}
use Rattle.prelude.specs.Pick.{pick}
use Rattle.error.specs.Error.{LIMIT, BAD_STATE, CLOSED, OWED, BAD_TEXT, BAD_TARGET, FULL, NO_ROOM}
use Rattle.utf8.specs.Text.{Text}
use Rattle.kind.specs.Kind.{rule, pending, immediate}
use Rattle.token.specs.Token.{emit}
use Rattle.writer_refusal.specs.declared.State.{State}
use Rattle.guarantees_writer.specs.Model.{Part, part, form_of, Request, adds, ends}

pub data BadState (s : State) (n m : ℕ) : Type 0 where
  past_output : n < s.written → BadState s n m
  past_limit : LIMIT < s.written → BadState s n m
  past_table : m < s.count → BadState s n m
  no_free_word : 0 < s.pending → m ≤ s.count → BadState s n m
  start_not_below : 0 < s.pending → s.written ≤ s.start → BadState s n m

abbrev pub Owed : Request → State → Type 0
Owed (adds p) s = (immediate (rule p.kind) ≡ false) × (0 < s.pending)
Owed (ends e) s = 0 < s.pending

abbrev pub BadText : Request → Type 0
BadText (adds p) = (p.kind ≡ 4) × (Text p.body → ⊥)
BadText (ends e) = ⊥

pub record Listed (s : State) (table : List ℕ) (x : ℕ) : Type 0 where
  pub below : x < s.written
  pub word : ℕ
  pub listed : word < s.count
  pub inside : word < length table
  pub same : get_or table word 0 ≡ x

abbrev pub BadTarget : Request → State → List ℕ → Type 0
BadTarget (adds p) s table = (14 ≤ p.kind) × (Listed s table p.number → ⊥)
BadTarget (ends e) s table = Listed s table e → ⊥

abbrev pub Full : Request → State → ℕ → Type 0
Full (adds p) s m = (s.pending ≡ 0) × (m ≤ s.count)
Full (ends e) s m = (255 < s.written - e - 1) × (s.pending ≡ 0) × (m ≤ s.count)

abbrev pub items_after : Part → State → ℕ
items_after p s = pick (eqb s.pending 0) (pending (rule p.kind) p.number p.args) (s.pending - 1)

abbrev pub needs : Request → State → ℕ
needs (adds p) s = s.written + length (emit (form_of s.written p)) + items_after p s + 1
needs (ends e) s = s.written + pick (ltb 255 (s.written - e - 1)) (length (emit (form_of s.written (part 15 e 0 [])))) 0 + 1

abbrev pub NoRoom : Request → State → ℕ → Type 0
NoRoom l s n = min n LIMIT < needs l s

pub data RefusedCall (l : Request) (s : State) (out table : List ℕ) : ℕ → Type 0 where
  in_bad_state : BadState s (length out) (length table) → RefusedCall l s out table BAD_STATE
  closed : (BadState s (length out) (length table) → ⊥) → s.closed ≡ true → RefusedCall l s out table CLOSED
  owed : (BadState s (length out) (length table) → ⊥) → s.closed ≡ false → Owed l s → RefusedCall l s out table OWED
  text : (BadState s (length out) (length table) → ⊥) → s.closed ≡ false → (Owed l s → ⊥) → BadText l → RefusedCall l s out table BAD_TEXT
  target : (BadState s (length out) (length table) → ⊥) → s.closed ≡ false → (Owed l s → ⊥) → (BadText l → ⊥)
      → BadTarget l s table → RefusedCall l s out table BAD_TARGET
  full : (BadState s (length out) (length table) → ⊥) → s.closed ≡ false → (Owed l s → ⊥) → (BadText l → ⊥) → (BadTarget l s table → ⊥)
      → Full l s (length table) → RefusedCall l s out table FULL
  room : (BadState s (length out) (length table) → ⊥) → s.closed ≡ false → (Owed l s → ⊥) → (BadText l → ⊥) → (BadTarget l s table → ⊥)
      → (Full l s (length table) → ⊥) → NoRoom l s (length out) → RefusedCall l s out table NO_ROOM

abbrev pub write_errors : List ℕ
write_errors = BAD_STATE ∷ CLOSED ∷ OWED ∷ BAD_TEXT ∷ BAD_TARGET ∷ FULL ∷ NO_ROOM ∷ []
