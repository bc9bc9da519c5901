-- A token's two numbers, as the code has them: each an `Option`, `None` if it is not there.
use mathlib.Core.Path.{◌≡◌, refl}
use mathlib.Core.Bool.{Bool, true, false}
use mathlib.Core.List.{List}
use Prim.Native.Nat.{ℕ, ◌-◌, ◌≤◌}
use native.Mathlib.Omega.{arith}
use lib.Dec.{leb}
use borrow.Author.Tests.{le-leb, lt-leb}
use Rattle.std.specs.Prelude.{Option, Some, None, SomeIff, is_some, unwrap_or}
use Rattle.std.specs.Bool.{then_some}
use Rattle.kind.specs.Kind.{rule}
use Rattle.token.specs.Token.{token, put_if, emit}
use Rattle.emit.specs.Internal.{bytes_of}

-- the number after the header
pub number_is : (o : Option ℕ) (n : ℕ) → SomeIff o (15 ≤ n) (n - 15) → bytes_of o ≡ put_if (leb 15 n) (n - 15)
unfolding put_if
number_is (Some x) n h = rw (h.1, le-leb 15 n h.0)
number_is None n h = rw (lt-leb 15 n (omega (arith, h)))

-- the second number
pub second_is : (o : Option ℕ) (w : Bool) → is_some o ≡ w → bytes_of o ≡ put_if w (unwrap_or o 0)
unfolding put_if
second_is (Some x) w e = rw (← e)
second_is None w e = rw (← e)

pub is_some_then : (w : Bool) (a : ℕ) → is_some (then_some w a) ≡ w
is_some_then true a = refl
is_some_then false a = refl

pub put_then : (w : Bool) (a : ℕ) → put_if w (unwrap_or (then_some w a) 0) ≡ put_if w a
unfolding put_if
put_then true a = refl
put_then false a = refl

pub bytes_then : (w : Bool) (a : ℕ) → bytes_of (then_some w a) ≡ put_if w a
unfolding put_if
bytes_then true a = refl
bytes_then false a = refl

pub emit_second : (k n a : ℕ) (b : List ℕ) → emit (token k n (unwrap_or (then_some (rule k).args a) 0) b) ≡ emit (token k n a b)
unfolding emit
emit_second k n a b = rw put_then
