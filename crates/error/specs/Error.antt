-- The errors of document 01 ("Numbers of refusal") and of document 02 (W-201).
--
--   LIMIT                the most bytes that a file may have: a longer one is TOO_LONG
--   EMPTY, ..            the numbers
--   number_of k           the number of the code's error k
--   Fault, fault f p     an error as the papers have it: its number f and its place p
--   fault_of e            the code's error e in this form
--   answered f r         a result of the code in the papers' terms: f of its value, or its error in this form
--   names                the names in the papers' spelling, as bytes, by number; entry 0 is empty, since no error
--                        has the number 0
--   name_of k             the name of the code's error k
--   shown e               the code's error e as programs print it: its name, a space and its place in decimal
use Rattle.std.specs.Prelude.{ℕ, List, [], ◌∷◌, ◌++◌, get_or, codes, decimal, Result, Ok, Err}
use Rattle.prelude.specs.Answer.{Answer, ok, error}
use Rattle.error.specs.declared.Error.{Error}
use Rattle.error.specs.declared.ErrorKind.{ErrorKind}
use Rattle.error.specs.declared.ErrorKind.TheVariants.{Empty, TooLong, Trunc, Reserved, Overlong, Range, Nested, BadText, BadTarget}
use Rattle.error.specs.declared.ErrorKind.TheVariants.{Full, BadEntry, Outside, NoItem, WrongKind, NoRoom, Owed, Closed, BadState, LongBody, LongList}

abbrev pub LIMIT : ℕ
LIMIT = 16777216

abbrev pub EMPTY : ℕ
EMPTY = 1

abbrev pub TOO_LONG : ℕ
TOO_LONG = 2

abbrev pub TRUNC : ℕ
TRUNC = 3

abbrev pub RESERVED : ℕ
RESERVED = 4

abbrev pub OVERLONG : ℕ
OVERLONG = 5

abbrev pub RANGE : ℕ
RANGE = 6

abbrev pub NESTED : ℕ
NESTED = 7

abbrev pub BAD_TEXT : ℕ
BAD_TEXT = 8

abbrev pub BAD_TARGET : ℕ
BAD_TARGET = 9

abbrev pub FULL : ℕ
FULL = 10

abbrev pub BAD_ENTRY : ℕ
BAD_ENTRY = 11

abbrev pub OUTSIDE : ℕ
OUTSIDE = 12

abbrev pub NO_ITEM : ℕ
NO_ITEM = 13

abbrev pub WRONG_KIND : ℕ
WRONG_KIND = 14

abbrev pub NO_ROOM : ℕ
NO_ROOM = 15

abbrev pub OWED : ℕ
OWED = 16

abbrev pub CLOSED : ℕ
CLOSED = 17

abbrev pub BAD_STATE : ℕ
BAD_STATE = 18

abbrev pub LONG_BODY : ℕ
LONG_BODY = 19

abbrev pub LONG_LIST : ℕ
LONG_LIST = 20

abbrev pub number_of : ErrorKind → ℕ
number_of Empty = EMPTY
number_of TooLong = TOO_LONG
number_of Trunc = TRUNC
number_of Reserved = RESERVED
number_of Overlong = OVERLONG
number_of Range = RANGE
number_of Nested = NESTED
number_of BadText = BAD_TEXT
number_of BadTarget = BAD_TARGET
number_of Full = FULL
number_of BadEntry = BAD_ENTRY
number_of Outside = OUTSIDE
number_of NoItem = NO_ITEM
number_of WrongKind = WRONG_KIND
number_of NoRoom = NO_ROOM
number_of Owed = OWED
number_of Closed = CLOSED
number_of BadState = BAD_STATE
number_of LongBody = LONG_BODY
number_of LongList = LONG_LIST

pub record Fault : Type 0 where
  pub number : ℕ
  pub place : ℕ

abbrev pub fault : ℕ → ℕ → Fault
fault f p = record { number = f; place = p }

abbrev pub fault_of : Error → Fault
fault_of e = fault (number_of e.kind) e.place

abbrev pub answered : {T A : Type 0} → (T → A) → Result T Error → Answer Fault A
answered f (Ok x) = ok (f x)
answered f (Err e) = error (fault_of e)

abbrev pub names : List (List ℕ)
names =
    []
    ∷ codes "EMPTY"
    ∷ codes "TOO_LONG"
    ∷ codes "TRUNC"
    ∷ codes "RESERVED"
    ∷ codes "OVERLONG"
    ∷ codes "RANGE"
    ∷ codes "NESTED"
    ∷ codes "BAD_TEXT"
    ∷ codes "BAD_TARGET"
    ∷ codes "FULL"
    ∷ codes "BAD_ENTRY"
    ∷ codes "OUTSIDE"
    ∷ codes "NO_ITEM"
    ∷ codes "WRONG_KIND"
    ∷ codes "NO_ROOM"
    ∷ codes "OWED"
    ∷ codes "CLOSED"
    ∷ codes "BAD_STATE"
    ∷ codes "LONG_BODY"
    ∷ codes "LONG_LIST"
    ∷ []

unfoldable pub name_of : ErrorKind → List ℕ
name_of k = get_or names (number_of k) []

abbrev pub shown : Error → List ℕ
shown e = name_of e.kind ++ codes " " ++ decimal e.place
