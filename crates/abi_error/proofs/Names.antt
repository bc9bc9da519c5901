-- A name at the front of eleven zeros.
use mathlib.Core.Path.{◌≡◌, ap, ◌∙◌}
use mathlib.Core.List.{List, [], ◌++◌}
use Prim.Native.Nat.{ℕ, ◌+◌, ◌-◌, ◌≤◌}
use native.Mathlib.Nat.{zero-add}
use native.Mathlib.Omega.{arith}
use lib.ListN.{length, get_or, drop, replicate}
use lib.Seq.{sets, sets-eq}
use Rattle.std.proofs.lemmas.List.{drop-replicate, length-replicate}
use Rattle.prelude.specs.Bytes.{Put}
use Rattle.error.specs.Error.{names}
use Rattle.error.proofs.Laws.{length_name}
use Rattle.abi_error.specs.Reply.{name_c}

zeros_after : (n : ℕ) (t d e : List ℕ) (r : ℕ) → length t ≤ n → d ≡ replicate n 0 → Put t d e r → e ≡ t ++ replicate (n - length t) 0
zeros_after n t d e r h zeros put =
    let fits : 0 + length t ≤ length (replicate n 0) = omega (arith, length-replicate {A = ℕ} n 0) in
    let front : sets (replicate n 0) 0 t ≡ t ++ drop (length t) (replicate n 0) = sets-eq t (replicate n 0) 0 fits ∙ simp zero-add in
    put.bytes ∙ ap (λ l. sets l 0 t) zeros ∙ front ∙ ap (λ l. t ++ l) (drop-replicate {X = ℕ} (length t) n 0)

pub spelled : (number n : ℕ) (t d e : List ℕ) (r : ℕ) → n ≡ 11 → t ≡ get_or names number [] → d ≡ replicate n 0 → Put t d e r → e ≡ name_c number
unfolding name_c
spelled number n t d e r long is zeros put =
    let short : length t ≤ n = omega (arith, length_name number, ap length is) in
    rw (← is, ← long) (zeros_after n t d e r short zeros put)
