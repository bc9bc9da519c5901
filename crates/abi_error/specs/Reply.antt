-- What a call answers in C: a number, 0 or an error's, and words in an array of the caller.
--
--   ended name         a name with zeros after it, 11 bytes in all
--   name_c n            the name of error number n in this form; zeros alone if no error has this number
--   Reply, reply n ws  the number n, and the words of the array
--   error_c e           an error: its number, and its place and 0
--   answer_c n a        an answer of n words: 0 and the words; or the error's number, and its place and zeros
use Rattle.std.specs.Prelude.{ℕ, ◌-◌, List, [], ◌∷◌, ◌++◌, length, get_or, replicate, take, Result, Ok, Err}
use Rattle.error.specs.Error.{names, number_of, Fault}
use Rattle.error.specs.declared.Error.{Error}

abbrev pub ended : List ℕ → List ℕ
ended name = name ++ replicate (11 - length name) 0

unfoldable pub name_c : ℕ → List ℕ
name_c n = ended (get_or names n [])

-- ---- answers

pub record Reply : Type 0 where
  pub number : ℕ
  pub words : List ℕ

abbrev pub reply : ℕ → List ℕ → Reply
reply n ws = record { number = n; words = ws }

abbrev pub error_c : Fault → Reply
error_c e = reply e.number (e.place ∷ 0 ∷ [])

abbrev pub answer_c : ℕ → Result (List ℕ) Error → Reply
answer_c n (Ok ws) = reply 0 ws
answer_c n (Err e) = reply (number_of e.kind) (take n (e.place ∷ replicate n 0))
