-- What the mode is in C, and what the answers of check and of the queries are.
--
--   mode_of n         the mode that a number means: 1 is tolerant (TWINE_TOLERANT), any other strict
--   offset_c a        an offset and 0, or the error
--   pair_c a          two numbers, or the error
use Rattle.std.specs.Prelude.{ℕ, [], ◌∷◌, eqb}
use Rattle.prelude.specs.Pick.{pick}
use Rattle.prelude.specs.Answer.{Answer, ok, error}
use Rattle.error.specs.Error.{Fault}
use Rattle.leb128.specs.declared.Mode.{Mode}
use Rattle.leb128.specs.declared.Mode.TheVariants.{Strict, Tolerant}
use Rattle.abi_error.specs.Reply.{Reply, reply, error_c}

abbrev pub mode_of : ℕ → Mode
mode_of n = pick (eqb n 1) Tolerant Strict

abbrev pub offset_c : Answer Fault ℕ → Reply
offset_c (ok at) = reply 0 (at ∷ 0 ∷ [])
offset_c (error e) = error_c e

abbrev pub pair_c : Answer Fault (ℕ × ℕ) → Reply
pair_c (ok p) = reply 0 (p.0 ∷ p.1 ∷ [])
pair_c (error e) = error_c e
