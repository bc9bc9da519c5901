-- A file for which the modes differ: the integer 15, with its number 0 in two bytes.
use mathlib.Core.Path.{◌≡◌, refl}
use mathlib.Core.List.{List, [], ◌∷◌}
use Prim.Native.Nat.{ℕ}
use Rattle.prelude.specs.Answer.{ok, error, bind, guard, then, or_error, ◌>>◌, ◌>>=◌}
use Rattle.prelude.specs.Loop.{run, from}
use Rattle.prelude.specs.Search.{among}
use Rattle.error.specs.Error.{fault, OVERLONG}
use Rattle.leb128.specs.Leb.{get}
use Rattle.leb128.specs.declared.Mode.TheVariants.{Strict, Tolerant}
use Rattle.kind.specs.Kind.{rule}
use Rattle.token.specs.Scan.{get_if, number, body, scan_kind, scan}
use Rattle.scan.specs.Answers.{head_of, scan_at}
use Rattle.checker_value.specs.Walk.{token_fault, next_token, walk_after, walk_turn, starts_from}
use Rattle.checker.specs.Check.{entry_at, check_in, checked, check_of}

abbrev overlong : List ℕ
overlong = 0x1f ∷ 0x80 ∷ 0 ∷ 2 ∷ []

differ : (check_of Strict overlong 1 ≡ checked (error (fault OVERLONG 0)) (0 ∷ [])) × (check_of Tolerant overlong 1 ≡ checked (ok (1, 0)) (0 ∷ []))
unfolding bind guard then or_error ◌>>◌ ◌>>=◌ run from among get rule get_if number body scan_kind scan head_of scan_at
    token_fault next_token walk_after walk_turn starts_from entry_at check_in check_of
differ = (refl, refl)
