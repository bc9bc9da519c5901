-- What the refusals of check and depths mean (document 01, "Numbers of refusal"; document 02, W-201 and W-203). FULL also has a statement of its
-- own, `Overfull`.
--
--   Unnamed mode file cap p
--                        BAD_ENTRY: all else is well formed, but the delta byte, at p, does not name the start of a value
--   Begun mode cap len vs t is k
--                        after the values vs, in a region of len bytes, a value is open: its head t and its items so
--                        far, `is`, are allowed there, and k items are missing
--   Open mode cap len vs ts k
--                        the tokens ts after the values vs are such an open value; or there are none, and no item is missing
--   Faulty mode file cap p f
--                        a fault of the walk: all before p is well formed, finished values and an open one as far as it
--                        got; the token that is wanted at p is refused with f
--   RefusedCheck mode file cap f
--                        check refuses the file with f, number and place, with a table of cap words
--   RefusedDepths mode file cap room f
--                        so does depths, with a second table of room words
use Rattle.std.specs.Prelude.{ℕ, ◌+◌, ◌-◌, ◌≤◌, ◌<◌, ◌≡◌, false, List, [], ◌∷◌, ◌++◌, length, take, get_or}
use Rattle.prelude.specs.Search.{among}
use Rattle.prelude.specs.Each.{Each}
use Rattle.error.specs.Error.{Fault, fault, LIMIT, EMPTY, TOO_LONG, BAD_ENTRY, FULL}
use Rattle.leb128.specs.declared.Mode.{Mode}
use Rattle.kind.specs.Kind.{rule, counted, pending}
use Rattle.token.specs.Token.{Token, emit}
use Rattle.values.specs.Values.{Value, bytes, region, starts, Sound, Item, HasTargets, Values, WellFormed}
use Rattle.guarantees_faults.specs.Faults.{RefusedToken}

pub record Unnamed (mode : Mode) (file : List ℕ) (cap p : ℕ) : Type 0 where
  pub short : length file ≤ LIMIT
  pub values : List Value
  pub formed : Values mode values
  pub room : length values ≤ cap
  pub delta : ℕ
  pub same : file ≡ region values ++ (delta ∷ [])
  pub place : p ≡ length (region values)
  pub unnamed : (e : ℕ) → e + delta + 1 ≡ length (region values) → among e (starts 0 values) ≡ false

pub record Begun (mode : Mode) (cap len : ℕ) (vs : List Value) (t : Token) (is : List Token) (k : ℕ) : Type 0 where
  -- its start has a word
  pub word : length vs < cap
  pub head : Sound mode t
  -- the items that the head counts have a byte each after it
  pub room : length (region vs) + length (emit t) + counted (rule t.kind) t.n t.args ≤ len
  pub items : Each (Item mode) is
  pub count : length is + k ≡ pending (rule t.kind) t.n t.args
  pub targets : HasTargets (starts 0 vs) (length (region vs)) (t ∷ is)

abbrev pub Open : Mode → ℕ → ℕ → List Value → List Token → ℕ → Type 0
Open mode cap len vs [] k = k ≡ 0
Open mode cap len vs (t ∷ is) k = (0 < k) × Begun mode cap len vs t is k

pub record Faulty (mode : Mode) (file : List ℕ) (cap p : ℕ) (f : Fault) : Type 0 where
  pub some : 1 ≤ length file
  pub short : length file ≤ LIMIT
  pub values : List Value
  pub formed : Values mode values
  pub room : length values ≤ cap
  pub tokens : List Token
  pub missing : ℕ
  pub begun : Open mode cap (length file - 1) values tokens missing
  pub same : take p file ≡ region values ++ bytes tokens
  pub place : length (region values ++ bytes tokens) ≡ p
  -- in the region; at its end only an item may be wanted
  pub inside : p ≤ length file - 1
  pub more : missing ≡ 0 → p < length file - 1
  pub refused : RefusedToken mode (take (length file - 1) file) cap (starts 0 values) missing p f

pub data RefusedCheck (mode : Mode) (file : List ℕ) (cap : ℕ) : Fault → Type 0 where
  empty : length file ≡ 0 → RefusedCheck mode file cap (fault EMPTY 0)
  long : LIMIT < length file → RefusedCheck mode file cap (fault TOO_LONG 0)
  walk : {p : ℕ} {f : Fault} → Faulty mode file cap p f → RefusedCheck mode file cap f
  entry : {p : ℕ} → Unnamed mode file cap p → RefusedCheck mode file cap (fault BAD_ENTRY p)

pub data RefusedDepths (mode : Mode) (file : List ℕ) (cap room : ℕ) : Fault → Type 0 where
  check : {f : Fault} → RefusedCheck mode file cap f → RefusedDepths mode file cap room f
  -- a value has no word in the second table; the place is the start of the first such one
  full : (vs : List Value) (entry : ℕ) → WellFormed mode file vs entry → length vs ≤ cap → room < length vs
      → RefusedDepths mode file cap room (fault FULL (get_or (starts 0 vs) room 0))
