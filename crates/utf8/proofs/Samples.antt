-- `is_text` on examples, and UTF-8 on those of RFC 3629.
use mathlib.Core.Path.{◌≡◌, refl}
use mathlib.Core.Bool.{Bool, true, false}
use mathlib.Core.List.{List, [], ◌∷◌, map}
use mathlib.Core.Option.{some, none, bind}
use Prim.Native.Nat.{ℕ}
use Rattle.utf8.specs.Text.{lead, next, text_from, is_text}
use Rattle.utf8.specs.Utf8.{row_of, following, utf8, decode_from, decode}

-- bytes, and whether they are text
abbrev samples : List ((List ℕ) × Bool)
samples =
    ([], true)
    ∷ (0x68 ∷ 0x65 ∷ 0x6C ∷ 0x6C ∷ 0x6F ∷ [], true)  -- hello
    ∷ (0xF0 ∷ 0x9F ∷ 0x98 ∷ 0x81 ∷ [], true)  -- a character of four bytes
    ∷ (0xE0 ∷ 0x9F ∷ 0xBF ∷ [], false)  -- longer than need be
    ∷ (0xE0 ∷ 0xA0 ∷ 0x80 ∷ [], true)  -- 800
    ∷ (0xED ∷ 0x9F ∷ 0xBF ∷ [], true)  -- D7FF
    ∷ (0xED ∷ 0xA0 ∷ 0x80 ∷ [], false)  -- D800, a surrogate
    ∷ (0xED ∷ 0xBF ∷ 0xBF ∷ [], false)  -- DFFF, a surrogate
    ∷ (0xEE ∷ 0x80 ∷ 0x80 ∷ [], true)  -- E000
    ∷ (0xF0 ∷ 0x8F ∷ 0xBF ∷ 0xBF ∷ [], false)  -- longer than need be
    ∷ (0xF0 ∷ 0x90 ∷ 0x80 ∷ 0x80 ∷ [], true)  -- 10000
    ∷ (0xF4 ∷ 0x8F ∷ 0xBF ∷ 0xBF ∷ [], true)  -- 10FFFF
    ∷ (0xF4 ∷ 0x90 ∷ 0x80 ∷ 0x80 ∷ [], false)  -- 110000
    ∷ (0xC3 ∷ 0x28 ∷ [], false)  -- no continuation byte
    ∷ (0xC0 ∷ 0x80 ∷ [], false)  -- longer than need be
    ∷ (0xE2 ∷ 0x82 ∷ [], false)  -- cut
    ∷ (0xF5 ∷ 0x80 ∷ 0x80 ∷ 0x80 ∷ [], false)  -- past the last lead
    ∷ (0x80 ∷ [], false)  -- a continuation byte alone
    ∷ []

the_samples : map (λ (x : (List ℕ) × Bool). is_text x.0) samples ≡ map (λ (x : (List ℕ) × Bool). x.1) samples
unfolding text_from next lead
the_samples = refl

-- code points, and their UTF-8 form (section 7)
abbrev examples : List ((List ℕ) × (List ℕ))
examples =
    (0x41 ∷ 0x2262 ∷ 0x391 ∷ 0x2E ∷ [], 0x41 ∷ 0xE2 ∷ 0x89 ∷ 0xA2 ∷ 0xCE ∷ 0x91 ∷ 0x2E ∷ [])
    ∷ (0xD55C ∷ 0xAD6D ∷ 0xC5B4 ∷ [], 0xED ∷ 0x95 ∷ 0x9C ∷ 0xEA ∷ 0xB5 ∷ 0xAD ∷ 0xEC ∷ 0x96 ∷ 0xB4 ∷ [])
    ∷ (0x65E5 ∷ 0x672C ∷ 0x8A9E ∷ [], 0xE6 ∷ 0x97 ∷ 0xA5 ∷ 0xE6 ∷ 0x9C ∷ 0xAC ∷ 0xE8 ∷ 0xAA ∷ 0x9E ∷ [])
    ∷ (0xFEFF ∷ 0x233B4 ∷ [], 0xEF ∷ 0xBB ∷ 0xBF ∷ 0xF0 ∷ 0xA3 ∷ 0x8E ∷ 0xB4 ∷ [])
    ∷ []

the_examples : (map (λ (x : (List ℕ) × (List ℕ)). utf8 x.0) examples ≡ map (λ (x : (List ℕ) × (List ℕ)). x.1) examples)
    × (map (λ (x : (List ℕ) × (List ℕ)). decode x.1) examples ≡ map (λ (x : (List ℕ) × (List ℕ)). some x.0) examples)
unfolding utf8 following row_of decode_from bind
the_examples = (refl, refl)

-- bytes that are no UTF-8 form: 0 in two octets, a character as two surrogates (section 3), "/../" with its first point in two octets (section 10), and
-- "/" in two, three and four octets
abbrev invalid : List (List ℕ)
invalid =
    (0xC0 ∷ 0x80 ∷ [])
    ∷ (0xED ∷ 0xA1 ∷ 0x8C ∷ 0xED ∷ 0xBE ∷ 0xB4 ∷ [])
    ∷ (0x2F ∷ 0xC0 ∷ 0xAE ∷ 0x2E ∷ 0x2F ∷ [])
    ∷ (0xC0 ∷ 0xAF ∷ [])
    ∷ (0xE0 ∷ 0x80 ∷ 0xAF ∷ [])
    ∷ (0xF0 ∷ 0x80 ∷ 0x80 ∷ 0xAF ∷ [])
    ∷ []

the_invalid : map decode invalid ≡ map (λ (s : List ℕ). none) invalid
unfolding row_of decode_from bind
the_invalid = refl
