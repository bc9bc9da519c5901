-- The definitions on examples: what is read, and what is refused.
use mathlib.Core.Path.{◌≡◌, refl}
use mathlib.Core.List.{[], ◌∷◌, map}
use lib.ListN.{length}
use Rattle.prelude.specs.Answer.{got, bad, guard, then}
use Rattle.error.specs.Error.{TRUNC, OVERLONG, RANGE}
use Rattle.leb128.specs.Leb.{get, put, continued, pad}
use Rattle.leb128.specs.declared.Mode.TheVariants.{Strict, Tolerant}

reads : map (get Strict 9 0) ((0xe5 ∷ 0x8e ∷ 0x26 ∷ 7 ∷ []) ∷ (0 ∷ 0 ∷ []) ∷ (255 ∷ 255 ∷ 255 ∷ 255 ∷ 255 ∷ 255 ∷ 255 ∷ 255 ∷ 255 ∷ 1 ∷ []) ∷ [])
    ≡ got 624485 (7 ∷ []) ∷ got 0 (0 ∷ []) ∷ got 0xffff_ffff_ffff_ffff [] ∷ []
unfolding get guard then
reads = refl

-- no byte, an incomplete number, a last byte of 0, a tenth byte of 0, 2 and 80, and the end before the tenth
refuses : map (get Strict 9 0)
    ([]
    ∷ (255 ∷ 255 ∷ [])
    ∷ (0x80 ∷ 0 ∷ [])
    ∷ (128 ∷ 128 ∷ 128 ∷ 128 ∷ 128 ∷ 128 ∷ 128 ∷ 128 ∷ 128 ∷ 0 ∷ [])
    ∷ (128 ∷ 128 ∷ 128 ∷ 128 ∷ 128 ∷ 128 ∷ 128 ∷ 128 ∷ 128 ∷ 2 ∷ [])
    ∷ (128 ∷ 128 ∷ 128 ∷ 128 ∷ 128 ∷ 128 ∷ 128 ∷ 128 ∷ 128 ∷ 128 ∷ [])
    ∷ (128 ∷ 128 ∷ 128 ∷ 128 ∷ 128 ∷ 128 ∷ 128 ∷ 128 ∷ 128 ∷ [])
    ∷ [])
    ≡ bad TRUNC ∷ bad TRUNC ∷ bad OVERLONG ∷ bad OVERLONG ∷ bad RANGE ∷ bad RANGE ∷ bad TRUNC ∷ []
unfolding get guard then
refuses = refl

-- padded to two bytes, to five, to ten: 0, 24 and 1; with bits after the first group: 255, 2 ^ 35 and 2 ^ 32 - 15; a tenth
-- byte of 2 and of 80, and the end before the tenth
tolerates : map (get Tolerant 9 0)
    ((0x80 ∷ 0 ∷ 7 ∷ [])
    ∷ (0x98 ∷ 0x80 ∷ 0x80 ∷ 0x80 ∷ 0 ∷ [])
    ∷ (129 ∷ 128 ∷ 128 ∷ 128 ∷ 128 ∷ 128 ∷ 128 ∷ 128 ∷ 128 ∷ 0 ∷ [])
    ∷ (0xff ∷ 0x81 ∷ 0x80 ∷ 0x80 ∷ 0 ∷ [])
    ∷ (0x80 ∷ 0x80 ∷ 0x80 ∷ 0x80 ∷ 0x80 ∷ 0x81 ∷ 0x80 ∷ 0x80 ∷ 0x80 ∷ 0 ∷ [])
    ∷ (0xf1 ∷ 0xff ∷ 0xff ∷ 0xff ∷ 0x8f ∷ 0 ∷ [])
    ∷ (128 ∷ 128 ∷ 128 ∷ 128 ∷ 128 ∷ 128 ∷ 128 ∷ 128 ∷ 128 ∷ 2 ∷ [])
    ∷ (128 ∷ 128 ∷ 128 ∷ 128 ∷ 128 ∷ 128 ∷ 128 ∷ 128 ∷ 128 ∷ 128 ∷ [])
    ∷ (128 ∷ 128 ∷ 128 ∷ 128 ∷ 128 ∷ 128 ∷ 128 ∷ 128 ∷ 128 ∷ [])
    ∷ [])
    ≡ got 0 (7 ∷ []) ∷ got 24 [] ∷ got 1 [] ∷ got 255 [] ∷ got 34359738368 [] ∷ got 0xffff_fff1 [] ∷ bad RANGE ∷ bad RANGE ∷ bad TRUNC ∷ []
unfolding get guard then
tolerates = refl

pads : map (λ k. pad k (put 9 255)) (0 ∷ 1 ∷ 3 ∷ []) ≡ (0xff ∷ 1 ∷ []) ∷ (0xff ∷ 0x81 ∷ 0 ∷ []) ∷ (0xff ∷ 0x81 ∷ 0x80 ∷ 0x80 ∷ 0 ∷ []) ∷ []
unfolding put continued pad
pads = refl

writes : map (put 9) (0 ∷ 127 ∷ 128 ∷ 624485 ∷ []) ≡ (0 ∷ []) ∷ (127 ∷ []) ∷ (128 ∷ 1 ∷ []) ∷ (0xe5 ∷ 0x8e ∷ 0x26 ∷ []) ∷ []
unfolding put
writes = refl

longest : length (put 9 0xffff_ffff_ffff_ffff) ≡ 10
unfolding put
longest = refl
