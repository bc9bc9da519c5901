-- A token: a header with its numbers and its body, without items. A value is a token and as many item tokens as it has pending.
--
--   Token                 kind, n, args (the argument count of a variant of many, else 0) and the body's bytes; and n_bytes and args_bytes, the bytes of
--                         the number after the header and of the argument count, none for a number that is not there
--   put_if w n             the shortest bytes of the number n if w is true, else none
--   token k n a b         the token with its numbers in their shortest form
--   emit t                the bytes of t: its header, the bytes of its two numbers, its body
--   emit_into t d          the bytes of t stored at the front of d if they fit, and how many; nothing for a kind over 15
--   Allowed t             t's kind allows it: the low nibble is in use, n is within its bound, there is an argument
--                         count only if the kind has one, and it fits in 64 bits, and the body is as long as n says
--   SpellsIf mode w n s   s are bytes of the number n if w is true, else none
--   Spelled mode t        n_bytes and args_bytes are bytes of t's two numbers, in the strict mode their shortest. A number follows the header if n is 15 or
--                         more, and is 15 less; an argument count follows if the kind has one
--   Fits mode inner t s   t may come before the bytes s: it is allowed, its numbers are spelled as the mode has it, it is an immediate if `inner` is
--                         true, and s has a byte for each of its counted items
use Rattle.std.specs.Prelude.{ℕ, ◌+◌, ◌-◌, ◌*◌, ◌^◌, ◌≤◌, ◌<◌, min, ◌≡◌, Bool, true, false, not, ◌&&◌, List, [], ◌∷◌, ◌++◌, leb, ltb, length}
use Rattle.prelude.specs.Pick.{pick}
use Rattle.prelude.specs.Bytes.{Stored, stored, store}
use Rattle.leb128.specs.Leb.{put, Spells}
use Rattle.leb128.specs.declared.Mode.{Mode}
use Rattle.kind.specs.Kind.{rule, size, counted, immediate}

pub record Token : Type 0 where
  pub kind : ℕ
  pub n : ℕ
  pub args : ℕ
  pub body : List ℕ
  pub n_bytes : List ℕ
  pub args_bytes : List ℕ

unfoldable pub put_if : Bool → ℕ → List ℕ
put_if w n = pick w (put 9 n) []

abbrev pub token : ℕ → ℕ → ℕ → List ℕ → Token
token k n a b = record { kind = k; n = n; args = a; body = b; n_bytes = put_if (leb 15 n) (n - 15); args_bytes = put_if (rule k).args a }

unfoldable pub emit : Token → List ℕ
emit t = (t.kind * 16 + min t.n 15) ∷ (t.n_bytes ++ (t.args_bytes ++ t.body))

unfoldable pub emit_into : Token → List ℕ → Stored
emit_into t d = pick (ltb t.kind 16) (store (emit t) d) (stored 0 d)

pub record Allowed (t : Token) : Type 0 where
  pub low : min t.n 15 < (rule t.kind).lows
  pub most : t.n ≤ (rule t.kind).most
  pub alone : (rule t.kind).args ≡ false → t.args ≡ 0
  pub count : t.args < 2 ^ 64
  pub sized : length t.body ≡ size (rule t.kind) t.n

abbrev pub SpellsIf : Mode → Bool → ℕ → List ℕ → Type 0
SpellsIf mode true n s = Spells mode n s
SpellsIf mode false n s = s ≡ []

pub record Spelled (mode : Mode) (t : Token) : Type 0 where
  pub number : SpellsIf mode (leb 15 t.n) (t.n - 15) t.n_bytes
  pub second : SpellsIf mode (rule t.kind).args t.args t.args_bytes

pub record Fits (mode : Mode) (inner : Bool) (t : Token) (s : List ℕ) : Type 0 where
  pub allowed : Allowed t
  pub spelled : Spelled mode t
  pub flat : not (inner && not (immediate (rule t.kind))) ≡ true
  pub room : counted (rule t.kind) t.n t.args ≤ length s
