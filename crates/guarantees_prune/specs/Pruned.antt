-- What prune leaves (W-204). What is kept of a file's values is said over values and paths alone (`Keeps`); what prune answers, by the definition that its
-- contract cites and by the writer's calls (`Prunes`).
--
--   number vs x        the number of the value that starts at x: how many values start before x
--   Reached vs e i     some path from value number e meets value number i; so e reaches itself
--   SameToken vs q t ks ws r u
--                      the token u at r of the values ws holds what the token t at q of the values vs holds: the same kind, number, argument count and
--                      body; if it is a reference or pointer, its target is the same value. Value number k of ws is value number `get_or ks k 0` of vs.
--                      `-` stops at 0 and `number` is of any offset: that targets are starts of earlier values is said by `Values` of vs and of ws, which
--                      every statement below has beside `Keeps`
--   SameTokens vs q ts ks ws r us
--                      the same of as many tokens, one by one, the first of them at q and at r
--   absent             a value for `get_or`, which is not met: it is past the last
--   Keeps vs e ws f    the values ws are exactly those of vs that value number e reaches, each once and in their old order; each holds the same
--                      things; and value number f of ws is value number e of vs
--   FirstError f vs    the first of the answers vs that is not `ok` is the error f
--   Prunes file vs entry cap out words
--                      what prune makes of a well-formed file with the values vs, lent an old table of cap words, which is long enough for them, the output
--                      `out`, and a new table of as many words as `words` says
use Rattle.std.specs.Prelude.{◌≡◌, ◌⊎◌, ◌↔◌, ℕ, ◌+◌, ◌-◌, ◌≤◌, ◌<◌, true, List, [], ◌∷◌, ◌++◌, length, drop, get_or, replicate}
use Rattle.prelude.specs.Answer.{ok, error}
use Rattle.prelude.specs.Bytes.{Bytes}
use Rattle.prelude.specs.Search.{among, rank, Rising}
use Rattle.error.specs.Error.{FULL, NO_ROOM}
use Rattle.leb128.specs.declared.Mode.TheVariants.{Strict}
use Rattle.token.specs.Token.{Token, token, emit}
use Rattle.values.specs.Values.{Value, tokens, starts, WellFormed}
use Rattle.values.specs.Paths.{Path}
use Rattle.checker.specs.Check.{filled, checked, check_of}
use Rattle.writer_refusal.specs.Refusal.{Verdict}
use Rattle.writer.specs.Step.{fresh}
use Rattle.writer.specs.Runs.{runs}
use Rattle.guarantees_writer.specs.History.{AllOk}
use Rattle.guarantees.specs.Rewrites.{rewriting}
use Rattle.prune.specs.Prune.{pruned, refused, no_fit, prune_of}

abbrev pub number : List Value → ℕ → ℕ
number vs x = rank x (starts 0 vs)

pub record Reached (vs : List Value) (e i : ℕ) : Type 0 where
  pub values : List ℕ
  pub path : Path vs e values
  pub met : among i values ≡ true

pub record SameToken (vs : List Value) (q : ℕ) (t : Token) (ks : List ℕ) (ws : List Value) (r : ℕ) (u : Token) : Type 0 where
  pub kind : u.kind ≡ t.kind
  pub args : u.args ≡ t.args
  pub body : u.body ≡ t.body
  pub n : t.kind < 14 → u.n ≡ t.n
  pub target : 14 ≤ t.kind → get_or ks (number ws (r - u.n - 1)) 0 ≡ number vs (q - t.n - 1)

abbrev pub SameTokens : List Value → ℕ → List Token → List ℕ → List Value → ℕ → List Token → Type 0
SameTokens vs q [] ks ws r [] = Unit {0}
SameTokens vs q [] ks ws r (u ∷ us) = ⊥
SameTokens vs q (t ∷ ts) ks ws r [] = ⊥
SameTokens vs q (t ∷ ts) ks ws r (u ∷ us) = SameToken vs q t ks ws r u × SameTokens vs (q + length (emit t)) ts ks ws (r + length (emit u)) us

abbrev pub absent : Value
absent = record { head = token 0 0 0 []; items = [] }

pub record Keeps (vs : List Value) (e : ℕ) (ws : List Value) (f : ℕ) : Type 0 where
  -- value number k of ws is value number `get_or kept k 0` of vs
  pub kept : List ℕ
  pub many : length ws ≡ length kept
  -- each once, in their old order
  pub rising : Rising kept
  pub exactly : (i : ℕ) → (among i kept ≡ true) ↔ Reached vs e i
  pub same : (k : ℕ) → k < length kept → let i = get_or kept k 0 in
      SameTokens vs (get_or (starts 0 vs) i 0) (tokens (get_or vs i absent)) kept ws (get_or (starts 0 ws) k 0) (tokens (get_or ws k absent))
  pub entry : (f < length kept) × (get_or kept f 0 ≡ e)

pub data FirstError (f : ℕ) : List Verdict → Type 0 where
  here : {vs : List Verdict} → FirstError f (error f ∷ vs)
  later : {vs : List Verdict} → FirstError f vs → FirstError f (ok tt ∷ vs)

pub record Prunes (file : List ℕ) (vs : List Value) (entry cap : ℕ) (out : List ℕ) (words : ℕ) : Type 0 where
  pub values : List Value
  pub new : List ℕ
  pub new_entry : ℕ
  pub bytes : Bytes new
  pub well_formed : WellFormed Strict new values new_entry
  pub keeps : Keeps vs (number vs entry) values (number values new_entry)
  -- nothing dead is left
  pub live : (k : ℕ) → k < length values → Reached values (number values new_entry) k
  -- an output as long as the file, and a table with as many words as it has values, are enough
  pub shorter : length new ≤ length file
  pub fewer : length values ≤ length vs
  pub accepted : length new ≤ length out → length values ≤ words
      → prune_of file out cap words
      ≡ pruned (ok (length new, length values, new_entry)) (new ++ drop (length new) out) (filled cap (starts 0 vs)) (filled words (starts 0 values))
  -- the writer takes every call that writes the new file
  pub calls : length new ≤ length out → length values ≤ words → AllOk (runs (rewriting values new_entry) fresh out (replicate words 0)).answers
  -- the tables are those that check leaves
  pub old_table : check_of Strict file cap ≡ checked (ok (length vs, entry)) (filled cap (starts 0 vs))
  pub new_table : length values ≤ words → check_of Strict new words ≡ checked (ok (length values, new_entry)) (filled words (starts 0 values))
  -- with less memory the first refused one of these calls decides, and it is refused for want of memory
  pub decided : (length out < length new) ⊎ (words < length values) → (f : ℕ)
      × FirstError f (runs (rewriting values new_entry) fresh out (replicate words 0)).answers × ((f ≡ FULL) ⊎ (f ≡ NO_ROOM))
      × (prune_of file out cap words ≡ refused out cap words (no_fit f))
