-- The definitions on the papers' byte rows and on what document 01 refuses, one list and one theorem each.
use mathlib.Core.Path.{◌≡◌, refl}
use mathlib.Core.Bool.{true, false}
use mathlib.Core.List.{List, [], ◌∷◌, ◌++◌, map}
use Prim.Native.Nat.{ℕ}
use lib.ListN.{replicate}
use Rattle.prelude.specs.Answer.{Res, got, bad, guard, then, or_error, ◌>>◌, ◌>>=◌}
use Rattle.error.specs.Error.{Fault, fault, TRUNC, RESERVED, OVERLONG, RANGE, NESTED, LONG_BODY, LONG_LIST}
use Rattle.leb128.specs.Leb.{get, put}
use Rattle.leb128.specs.declared.Mode.TheVariants.{Strict}
use Rattle.kind.specs.Kind.{rule}
use Rattle.token.specs.Token.{Token, token, put_if, emit}
use Rattle.token.specs.Scan.{get_if, number, body, scan_kind, scan}

-- a token alone, and as an item, at offset 7
alone : List ℕ → Res Fault Token
alone s = scan Strict false 7 s

item : List ℕ → Res Fault Token
item s = scan Strict true 7 s

-- 42, -27, 42.5, "a", a tag, a variant of many without arguments, a pointer
tokens : List Token
tokens =
    token 1 42 0 []
    ∷ token 2 26 0 []
    ∷ token 3 1 0 (0 ∷ 0 ∷ 0 ∷ 0 ∷ 0 ∷ 0x40 ∷ 0x45 ∷ 0x40 ∷ [])
    ∷ token 4 1 0 (0x61 ∷ [])
    ∷ token 8 3 0 []
    ∷ token 12 0 0 []
    ∷ token 15 6 0 []
    ∷ []

emits : map emit tokens
    ≡ (0x1f ∷ 0x1b ∷ [])
    ∷ (0x2f ∷ 0x0b ∷ [])
    ∷ (0x31 ∷ 0 ∷ 0 ∷ 0 ∷ 0 ∷ 0 ∷ 0x40 ∷ 0x45 ∷ 0x40 ∷ [])
    ∷ (0x41 ∷ 0x61 ∷ [])
    ∷ (0x83 ∷ [])
    ∷ (0xc0 ∷ 0 ∷ [])
    ∷ (0xf6 ∷ [])
    ∷ []
unfolding tokens emit put_if put rule
emits = refl

scans : map (λ t. alone (emit t ++ (0x10 ∷ []))) tokens ≡ map (λ t. got t (0x10 ∷ [])) tokens
unfolding tokens alone emit put_if put rule scan scan_kind number body get_if get guard then or_error ◌>>◌ ◌>>=◌
scans = refl

-- placed at the header: no header; a reserved kind and a reserved low nibble; a number incomplete, too long, overlong; n over
-- its bound, for kinds 1 and 12, and over 2 ^ 64 - 1; a second number incomplete; a float's body incomplete
refuses : map alone
    ([]
    ∷ (0x90 ∷ [])
    ∷ (0x03 ∷ [])
    ∷ (0x32 ∷ 0 ∷ 0 ∷ [])
    ∷ (0x1f ∷ 0x80 ∷ [])
    ∷ (0x1f ∷ replicate 10 0x80)
    ∷ (0x1f ∷ 0x80 ∷ 0 ∷ [])
    ∷ (0x1f ∷ 0xf1 ∷ 0xff ∷ 0xff ∷ 0xff ∷ 0xff ∷ 0xff ∷ 0xff ∷ 0xff ∷ 0x7f ∷ [])
    ∷ (0xcf ∷ 0xf1 ∷ 0xff ∷ 0xff ∷ 0xff ∷ 0x0f ∷ [])
    ∷ (0x4f ∷ 0xf1 ∷ 0xff ∷ 0xff ∷ 0xff ∷ 0xff ∷ 0xff ∷ 0xff ∷ 0xff ∷ 0xff ∷ 0x01 ∷ [])
    ∷ (0xcf ∷ 0x00 ∷ 0x85 ∷ [])
    ∷ (0x30 ∷ 0x00 ∷ 0x01 ∷ 0x02 ∷ [])
    ∷ [])
    ≡ map (λ f. bad (fault f 7))
    (TRUNC
    ∷ RESERVED
    ∷ RESERVED
    ∷ RESERVED
    ∷ TRUNC
    ∷ RANGE
    ∷ OVERLONG
    ∷ RANGE
    ∷ RANGE
    ∷ RANGE
    ∷ TRUNC
    ∷ TRUNC
    ∷ [])
unfolding alone rule scan scan_kind number body get_if get guard then or_error ◌>>◌ ◌>>=◌
refuses = refl

-- placed just after the numbers (W-201): a text and a byte string over the bytes left, of 2 ^ 64 - 1 bytes, and with none left;
-- three items in two bytes, two pairs in three, 2 ^ 63 pairs, and two arguments in one byte; an argument count of two bytes
-- after a number
refuses_long : map alone
    ((0x42 ∷ 0x61 ∷ [])
    ∷ (0x52 ∷ 0x61 ∷ [])
    ∷ (0x4f ∷ 0xf0 ∷ 0xff ∷ 0xff ∷ 0xff ∷ 0xff ∷ 0xff ∷ 0xff ∷ 0xff ∷ 0xff ∷ 0x01 ∷ [])
    ∷ (0x45 ∷ [])
    ∷ (0x63 ∷ 0x90 ∷ 0x90 ∷ [])
    ∷ (0x72 ∷ 0x10 ∷ 0x11 ∷ 0x12 ∷ [])
    ∷ (0x7f ∷ 0xf1 ∷ 0xff ∷ 0xff ∷ 0xff ∷ 0xff ∷ 0xff ∷ 0xff ∷ 0xff ∷ 0x7f ∷ [])
    ∷ (0xc0 ∷ 0x02 ∷ 0x10 ∷ [])
    ∷ (0xcf ∷ 0x00 ∷ 0x85 ∷ 0x01 ∷ 0x10 ∷ [])
    ∷ [])
    ≡ bad (fault LONG_BODY 8)
    ∷ bad (fault LONG_BODY 8)
    ∷ bad (fault LONG_BODY 18)
    ∷ bad (fault LONG_BODY 8)
    ∷ bad (fault LONG_LIST 8)
    ∷ bad (fault LONG_LIST 8)
    ∷ bad (fault LONG_LIST 17)
    ∷ bad (fault LONG_LIST 9)
    ∷ bad (fault LONG_LIST 11)
    ∷ []
unfolding alone rule scan scan_kind number body get_if get guard then or_error ◌>>◌ ◌>>=◌
refuses_long = refl

-- as items: a reserved kind is RESERVED first, an array is NESTED before its number is read
refuses_items : map item ((0x90 ∷ []) ∷ (0x6f ∷ []) ∷ (0x81 ∷ 0x10 ∷ []) ∷ [])
    ≡ map (λ f. bad (fault f 7)) (RESERVED ∷ NESTED ∷ NESTED ∷ [])
unfolding item rule scan scan_kind number body get_if get guard then or_error ◌>>◌ ◌>>=◌
refuses_items = refl
