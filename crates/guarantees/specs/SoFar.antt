-- What a writer has written so far, closed or not (demand 3: "buffer and table may hold anything at first"; "every pointer or reference in a finished
-- value names an earlier finished value").
--
--   Rest s out table s' out' table'
--                      calls began with the first state, output and table, and left the second: the counts have not fallen, and what is after
--                      the bytes written and the starts listed is as it was
--   Names s out table j q p
--                      the reference or pointer p, a part of value number j, is written at q. It names a value before that one: the offset that
--                      was handed in is the word of the table at that value's index
--   FormedSoFar s out table vs
--                      the finished values vs are values that a file may begin with, with every number in its shortest form; the output begins
--                      with their bytes, and the words listed are their starts
use Rattle.std.specs.Prelude.{ℕ, ◌≤◌, ◌<◌, ◌≡◌, List, length, take, drop, get_or}
use Rattle.leb128.specs.declared.Mode.TheVariants.{Strict}
use Rattle.token.specs.Token.{emit}
use Rattle.values.specs.Values.{Value, region, starts, Values}
use Rattle.writer_refusal.specs.declared.State.{State}
use Rattle.guarantees_writer.specs.Model.{Part, form_of}

pub record Rest (s : State) (out table : List ℕ) (s' : State) (out' table' : List ℕ) : Type 0 where
  pub written : s.written ≤ s'.written
  pub count : s.count ≤ s'.count
  pub bytes : drop s'.written out' ≡ drop s'.written out
  pub words : drop s'.count table' ≡ drop s'.count table

pub record Names (s : State) (out table : List ℕ) (j q : ℕ) (p : Part) : Type 0 where
  pub written : take (length (emit (form_of q p))) (drop q out) ≡ emit (form_of q p)
  pub number : ℕ
  pub earlier : number < j
  pub listed : j < s.count
  pub start : get_or table number 0 ≡ p.number
  pub below : p.number < q

pub record FormedSoFar (s : State) (out table : List ℕ) (vs : List Value) : Type 0 where
  pub formed : Values Strict vs
  pub within : length (region vs) ≤ s.written
  pub bytes : take (length (region vs)) out ≡ region vs
  pub listed : take s.count table ≡ starts 0 vs
  pub count : s.count ≡ length vs
