-- Bytes, and bytes stored in a buffer.
--
--   Bytes s             each element of s is a byte
--   Stored, stored r e  what a call that stores answers: r bytes, and the buffer e that it leaves
--   store p d           if p fits into d: its length, and d with p stored at its front; else 0, and d as it is
--   Put p d e r         p stored at the front of d is e; r is how many bytes that is. `sets d i p` is d with p stored from index i on
--   PutAt p d w e r     p stored in d from w on is e; r is the offset after it
use Rattle.std.specs.Prelude.{ℕ, ◌+◌, ◌<◌, ◌≡◌, List, [], ◌∷◌, ◌++◌, leb, length, drop}
use Rattle.std.proofs.lemmas.List.Edits.{sets}
use Rattle.prelude.specs.Pick.{pick}

abbrev pub Bytes : List ℕ → Type 0
Bytes [] = Unit {0}
Bytes (b ∷ s) = (b < 256) × Bytes s

pub record Stored : Type 0 where
  pub size : ℕ
  pub bytes : List ℕ

abbrev pub stored : ℕ → List ℕ → Stored
stored r e = record { size = r; bytes = e }

unfoldable pub store : List ℕ → List ℕ → Stored
store p d = pick (leb (length p) (length d)) (stored (length p) (p ++ drop (length p) d)) (stored 0 d)

pub record Put (p d e : List ℕ) (r : ℕ) : Type 0 where
  pub size : r ≡ length p
  pub bytes : e ≡ sets d 0 p

pub record PutAt (p d : List ℕ) (w : ℕ) (e : List ℕ) (r : ℕ) : Type 0 where
  pub after : r ≡ w + length p
  pub bytes : e ≡ sets d w p
