-- Values and the well-formed file (document 01, "Row of a file"; the values in file order are its row).
--
--   Value               a token, the head, and its items
--   tokens v            head and items
--   bytes ts            the bytes of tokens, back to back
--   region vs           the bytes of values, back to back
--   starts at vs        the offsets where values start, the first at `at`: running sums of their sizes
--   Sound mode t        t's kind allows it, its numbers are in their shortest form or, in the tolerant mode, in any, and the body of a text is text
--   Item mode t         t is sound and an immediate
--   Formed mode v       the head is sound, each item is an `Item`, and there are as many as the head says
--   HasTarget done q t  if t is a reference or pointer, with its header at q, its target q - n - 1 is not below 0 and
--                       is one of `done`
--   HasTargets done q ts
--                       this holds for each of the tokens ts, the first at q
--   TargetsEarlier done at vs
--                       this holds for the tokens of each of the values vs, the first at `at`, with the starts of the
--                       values before it, which ended before it began; `done` are those of the values before the first
--   Values mode vs      vs are values that a file may begin with
--   WellFormed mode file vs entry
--                       the file has at most LIMIT bytes: the values vs, and a delta byte that names the start `entry`
--                       of one of them. That its elements are bytes is stated separately where it is needed
use Rattle.std.specs.Prelude.{ℕ, ◌+◌, ◌-◌, ◌≤◌, ◌<◌, ◌≡◌, true, List, [], ◌∷◌, ◌++◌, length}
use Rattle.prelude.specs.Each.{Each}
use Rattle.prelude.specs.Search.{among}
use Rattle.error.specs.Error.{LIMIT}
use Rattle.leb128.specs.declared.Mode.{Mode}
use Rattle.kind.specs.Kind.{rule, pending, immediate}
use Rattle.token.specs.Token.{Token, emit, Allowed, Spelled}
use Rattle.utf8.specs.Text.{Text}

pub record Value : Type 0 where
  pub head : Token
  pub items : List Token

abbrev pub tokens : Value → List Token
tokens v = v.head ∷ v.items

unfoldable pub bytes : List Token → List ℕ
bytes [] = []
bytes (t ∷ ts) = emit t ++ bytes ts

unfoldable pub region : List Value → List ℕ
region [] = []
region (v ∷ vs) = bytes (tokens v) ++ region vs

unfoldable pub starts : ℕ → List Value → List ℕ
starts at [] = []
starts at (v ∷ vs) = at ∷ starts (at + length (bytes (tokens v))) vs

-- ---- the values of a file

pub record Sound (mode : Mode) (t : Token) : Type 0 where
  pub allowed : Allowed t
  pub spelled : Spelled mode t
  pub text : t.kind ≡ 4 → Text t.body

pub record Item (mode : Mode) (t : Token) : Type 0 where
  pub sound : Sound mode t
  pub immediate : immediate (rule t.kind) ≡ true

pub record Formed (mode : Mode) (v : Value) : Type 0 where
  pub head : Sound mode v.head
  pub items : Each (Item mode) v.items
  pub count : length v.items ≡ pending (rule v.head.kind) v.head.n v.head.args

abbrev pub HasTarget : List ℕ → ℕ → Token → Type 0
HasTarget done q t = 14 ≤ t.kind → (t.n < q) × (among (q - t.n - 1) done ≡ true)

abbrev pub HasTargets : List ℕ → ℕ → List Token → Type 0
HasTargets done q [] = Unit {0}
HasTargets done q (t ∷ ts) = HasTarget done q t × HasTargets done (q + length (emit t)) ts

abbrev pub TargetsEarlier : List ℕ → ℕ → List Value → Type 0
TargetsEarlier done at [] = Unit {0}
TargetsEarlier done at (v ∷ vs) = HasTargets done at (tokens v) × TargetsEarlier (done ++ (at ∷ [])) (at + length (bytes (tokens v))) vs

pub record Values (mode : Mode) (vs : List Value) : Type 0 where
  pub formed : Each (Formed mode) vs
  pub targets : TargetsEarlier [] 0 vs

-- ---- the file

pub record WellFormed (mode : Mode) (file : List ℕ) (vs : List Value) (entry : ℕ) : Type 0 where
  pub short : length file ≤ LIMIT
  pub values : Values mode vs
  pub delta : ℕ
  pub same : file ≡ region vs ++ (delta ∷ [])
  -- with the delta byte at p = length (region vs), the entry is p - delta - 1
  pub named : entry + delta + 1 ≡ length (region vs)
  pub start : among entry (starts 0 vs) ≡ true
