-- The reader of one token, in document 01's order of faults; LONG_BODY and LONG_LIST are document 02's (W-201), and so is the mode in which
-- numbers are read (W-203).
--
--   get_if mode w s       a number at the front of s if w is true, else 0 of no bytes
--   Spelling, spelling n b
--                        a number n and the bytes b in which it is
--   number mode at w     the same as `get_if`, with the number's bytes, and its fault placed at the header's offset
--   shortage at first r  the fault of a token of rule r whose body, or the items that it counts, exceed the bytes left: TRUNC if its body has fixed bytes,
--                        a float's, placed at the header's offset `at`; else LONG_BODY of a body and LONG_LIST of items, placed at `first`, just after
--                        the numbers
--   made k n v a b       the token of kind k with the numbers v, after the header, and a, and the body b
--   body at end k r n v a
--                        this token, if the bytes left, which end at the offset `end`, begin with its body and have room for the items that it counts;
--                        else its shortage
--   scan_kind ..          after a header of kind k, rule r and low nibble `low`, of bytes that end at `end`: RESERVED, NESTED for an item, the
--                        number (TRUNC, RANGE of the tenth byte, OVERLONG in the strict mode), RANGE of n, the second number likewise,
--                        the shortage of the body or of the counted items
--   scan mode inner at s the token at the front of s, which is wanted at the offset `at`, and the bytes after it; TRUNC if s is empty
use Rattle.std.specs.Prelude.{ℕ, ◌+◌, ◌-◌, ◌/◌, ◌%◌, Bool, not, ◌&&◌, List, [], ◌∷◌, ltb, leb, length, take, drop}
use Rattle.prelude.specs.Pick.{pick}
use Rattle.prelude.specs.Answer.{Res, got, bad, guard, then, or_error, need, ◌>>◌, ◌>>=◌}
use Rattle.error.specs.Error.{Fault, fault, TRUNC, RESERVED, RANGE, NESTED, LONG_BODY, LONG_LIST}
use Rattle.leb128.specs.Leb.{get}
use Rattle.leb128.specs.declared.Mode.{Mode}
use Rattle.kind.specs.Kind.{rule, size, counted, immediate}
use Rattle.kind.specs.declared.Rule.{Rule}
use Rattle.token.specs.Token.{Token}

unfoldable pub get_if : Mode → Bool → List ℕ → Res ℕ ℕ
get_if mode w s = pick w (get mode 9 0 s) (got 0 s)

pub record Spelling : Type 0 where
  pub value : ℕ
  pub bytes : List ℕ

abbrev pub spelling : ℕ → List ℕ → Spelling
spelling n b = record { value = n; bytes = b }

unfoldable pub number : Mode → ℕ → Bool → List ℕ → Res Fault Spelling
number mode at w s = then (or_error (λ f. fault f at) (get_if mode w s)) (λ v rest. got (spelling v (take (length s - length rest) s)) rest)

abbrev pub shortage : ℕ → ℕ → Rule → Fault
shortage at first r = pick (ltb 0 r.fixed) (fault TRUNC at) (pick (ltb 0 r.scale) (fault LONG_BODY first) (fault LONG_LIST first))

abbrev pub made : ℕ → ℕ → Spelling → Spelling → List ℕ → Token
made k n v a b = record { kind = k; n = n; args = a.value; body = b; n_bytes = v.bytes; args_bytes = a.bytes }

unfoldable pub body : ℕ → ℕ → ℕ → Rule → ℕ → Spelling → Spelling → List ℕ → Res Fault Token
body at end k r n v a s =
    guard (leb (size r n + counted r n a.value) (length s)) (shortage at (end - length s) r)
    (got (made k n v a (take (size r n) s)) (drop (size r n) s))

unfoldable pub scan_kind : Mode → Bool → ℕ → ℕ → ℕ → Rule → ℕ → List ℕ → Res Fault Token
scan_kind mode inner at end k r low = do
  need (ltb low r.lows) (fault RESERVED at)
  need (not (inner && not (immediate r))) (fault NESTED at)
  v ← number mode at (leb 15 low)
  need (leb (low + v.value) r.most) (fault RANGE at)
  a ← number mode at r.args
  body at end k r (low + v.value) v a

unfoldable pub scan : Mode → Bool → ℕ → List ℕ → Res Fault Token
scan mode inner at [] = bad (fault TRUNC at)
scan mode inner at (h ∷ s) = scan_kind mode inner at (at + length (h ∷ s)) (h / 16) (rule (h / 16)) (h % 16) s
