-- Bytes and their number, for any width.
--
-- In order: the bytes of a number hold it (`value_little`), and the number that bytes hold has these bytes
-- (`little_from`); bytes of two numbers in one (`little_append`); how many bytes, and how large a number; `load` gives back a number whose bytes are in front
-- (`load_little`), and the bytes of what it returns are those in front (`little_load`); the same in the terms of std's `to_le_bytes`
-- (`to_le_little`) and `from_le_bytes`, as the code has them.
use mathlib.Core.Path.{◌≡◌, refl, sym, ap, ◌∙◌}
use mathlib.Core.List.{List, [], ◌∷◌, ◌++◌}
use Prim.Native.Nat.{ℕ, zero, suc, ◌+◌, ◌*◌, ◌/◌, ◌%◌, ◌^◌, ◌≤◌, ◌<◌}
use native.Mathlib.Nat.{zero-add, suc-add, pow-suc, div-div-eq-div-mul}
use native.Mathlib.Omega.{arith}
use lib.ListN.{length, take, drop, get_or, length-append, drop_of_length-le}
use lib.Seq.{drop-cons, take_at, length-take-le}
use borrow.Author.Tests.{le-leb, lt-leb}
use Rattle.std.proofs.Common.{Fits, w8}
use Rattle.std.specs.Array.{IsFirstChunk}
use Rattle.std.specs.Int.{Width, w32, w64, byte_len, bytes_low_first, to_le_bytes, from_le_bytes}
use Rattle.prelude.specs.Bytes.{Bytes}
use Rattle.little_endian.specs.LittleEndian.{little, from_little, load}

pub value_little : (k n : ℕ) → n < 256 ^ k → from_little (little k n) ≡ n
unfolding little from_little
value_little zero n h = omega arith
value_little (suc k) n h = omega (arith, value_little k (n / 256) (omega arith))

pub little_from : (s : List ℕ) → Bytes s → little (length s) (from_little s) ≡ s
unfolding little from_little
little_from [] h = refl
little_from (b ∷ s) h =
    let low : (b + 256 * from_little s) % 256 ≡ b = omega arith in
    let high : (b + 256 * from_little s) / 256 ≡ from_little s = omega arith in
    rw (low, high, little_from s h.1)

pub length_little : (k n : ℕ) → length (little k n) ≡ k
unfolding little
length_little zero n = refl
length_little (suc k) n = ap suc (length_little k (n / 256))

pub little_append : (j k a b : ℕ) → a < 256 ^ j → little (j + k) (a + 256 ^ j * b) ≡ little j a ++ little k b
unfolding little
little_append zero k a b h = let same : a + 1 * b ≡ b = omega arith in rw (zero-add k, same)
little_append (suc j) k a b h =
    let power : 256 ^ suc j * b ≡ 256 * (256 ^ j * b) = rw (pow-suc 256 j) (omega arith) in
    let low : (a + 256 ^ suc j * b) % 256 ≡ a % 256 = omega arith in
    let high : (a + 256 ^ suc j * b) / 256 ≡ a / 256 + 256 ^ j * b = omega arith in
    rw (suc-add j k, low, high, little_append j k (a / 256) b (omega (arith, pow-suc 256 j)))

pub value_lt : (s : List ℕ) → Bytes s → from_little s < 256 ^ length s
unfolding from_little
value_lt [] h = omega arith
value_lt (b ∷ s) h =
    let less : b + 256 * from_little s < 256 ^ suc (length s) = omega (arith, value_lt s h.1) in
    less

pub load_little : (k n : ℕ) (s : List ℕ) → n < 256 ^ k → load k (little k n ++ s) ≡ n
unfolding load
load_little k n s h =
    let there : k ≤ length (little k n ++ s) = omega (arith, length-append (little k n) s, length_little k n) in
    rw (le-leb _ _ there, take_at (little k n) s k (length_little k n)) (value_little k n h)

pub bytes_take : (k : ℕ) (s : List ℕ) → Bytes s → Bytes (take k s)
bytes_take zero s h = tt
bytes_take (suc k) [] h = tt
bytes_take (suc k) (b ∷ s) h = (h.0, bytes_take k s h.1)

pub little_load : (k : ℕ) (s : List ℕ) → Bytes s → k ≤ length s → little k (load k s) ≡ take k s
unfolding load
little_load k s h l =
    let own = length-take-le k s l in
    rw (le-leb _ _ l) (rw own at (little_from (take k s) (bytes_take k s h)))

-- ---- std's `to_le_bytes` and `from_le_bytes`

low_first_little : (k i n : ℕ) → bytes_low_first i k n ≡ little k (n / 256 ^ i)
unfolding little
low_first_little zero i n = refl
low_first_little (suc k) zero n =
    let whole : n / 1 ≡ n = omega arith in
    let rest : n / 256 ^ 1 ≡ n / 256 = omega arith in
    rw (whole, low_first_little k 1 n, rest)
low_first_little (suc k) (suc i) n =
    rw (low_first_little k (suc (suc i)) n, pow-suc 256 (suc i), ← div-div-eq-div-mul n (256 ^ suc i) 256)

pub to_le_little : (w : Width) (n : ℕ) → to_le_bytes w n ≡ little (byte_len w) n
to_le_little w n = let whole : n / 1 ≡ n = omega arith in low_first_little (byte_len w) 0 n ∙ ap (little (byte_len w)) whole

-- the k bytes of s from the index i on, one by one
abbrev listed : ℕ → ℕ → List ℕ → List ℕ
listed zero i s = []
listed (suc k) i s = get_or s i 0 ∷ listed k (suc i) s

listed_drop : (k i : ℕ) (s : List ℕ) → i + k ≡ length s → listed k i s ≡ drop i s
listed_drop zero i s h = let past : length s ≤ i = omega arith in rw drop_of_length-le
listed_drop (suc k) i s h = rw (drop-cons s i 0 (omega arith), listed_drop k (suc i) s (omega arith))

-- the number of the first k bytes
load_chunk : (k : ℕ) (s p : List ℕ) {n : ℕ} → IsFirstChunk s p k → (length p ≡ k → n ≡ from_little p) → n ≡ load k s
unfolding load
load_chunk k s p h e = rw (le-leb k (length s) h.enough) (rw h.same at (e (rw h.same (length-take-le k s h.enough))))

pub load_chunk4 : {s p : List ℕ} {n : ℕ} → IsFirstChunk s p 4 → n ≡ from_le_bytes w32 p → n ≡ load 4 s
unfolding from_little
load_chunk4 {s} {p} h e =
    let sum : from_le_bytes w32 p ≡ from_little (listed 4 0 p) = omega arith in
    load_chunk 4 s p h (λ l. e ∙ sum ∙ ap from_little (listed_drop 4 0 p (sym l)))

pub load_chunk8 : {s p : List ℕ} {n : ℕ} → IsFirstChunk s p 8 → n ≡ from_le_bytes w64 p → n ≡ load 8 s
unfolding from_little
load_chunk8 {s} {p} h e =
    let sum : from_le_bytes w64 p ≡ from_little (listed 8 0 p) = omega arith in
    load_chunk 8 s p h (λ l. e ∙ sum ∙ ap from_little (listed_drop 8 0 p (sym l)))

pub load_short : (k : ℕ) (s : List ℕ) → length s < k → 0 ≡ load k s
unfolding load
load_short k s h = rw (lt-leb k (length s) h)

pub bytes_of : (s : List ℕ) → ((i : ℕ) → Fits w8 (get_or s i 0)) → Bytes s
bytes_of [] h = tt
bytes_of (b ∷ s) h = (omega (arith, h 0), bytes_of s (λ i. h (suc i)))

pub little_of : (k : ℕ) (s : List ℕ) {n : ℕ} → ((i : ℕ) → Fits w8 (get_or s i 0)) → n ≡ load k s → k ≤ length s → little k n ≡ take k s
little_of k s h e l = rw e (little_load k s (bytes_of s h) l)
