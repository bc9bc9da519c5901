-- The definitions on examples.
use mathlib.Core.Path.{◌≡◌, refl}
use mathlib.Core.List.{[], ◌∷◌}
use Rattle.little_endian.specs.LittleEndian.{little, from_little, load}

-- 42.5 as an f64, and -0.75 as an f32 with a byte after it
f64_load : load 8 (0 ∷ 0 ∷ 0 ∷ 0 ∷ 0 ∷ 0x40 ∷ 0x45 ∷ 0x40 ∷ []) ≡ 0x4045_4000_0000_0000
unfolding load from_little
f64_load = refl

f64_bytes : little 8 0x4045_4000_0000_0000 ≡ 0 ∷ 0 ∷ 0 ∷ 0 ∷ 0 ∷ 0x40 ∷ 0x45 ∷ 0x40 ∷ []
unfolding little
f64_bytes = refl

f32_load : load 4 (0 ∷ 0 ∷ 0x40 ∷ 0xBF ∷ 7 ∷ []) ≡ 0xBF40_0000
unfolding load from_little
f32_load = refl

f32_bytes : little 4 0xBF40_0000 ≡ 0 ∷ 0 ∷ 0x40 ∷ 0xBF ∷ []
unfolding little
f32_bytes = refl

too_short : load 4 (1 ∷ 2 ∷ 3 ∷ []) ≡ 0
unfolding load from_little
too_short = refl
