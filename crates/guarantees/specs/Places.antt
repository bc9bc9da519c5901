-- The tokens of a file's values by their place, and where following leads.
--
--   TokenAt vs j q t       t is a token of value number j of the values vs, its head or an item, and its header is at q
--   FollowsTo mode file vs j q
--                          following from q reaches the start of value number `number`, which is not a pointer; `hops`
--                          and `number` add up to at most j
--   further a              the answer a of following, with one hop more
use Rattle.std.specs.Prelude.{ℕ, ◌+◌, ◌≤◌, ◌≡◌, List, ◌∷◌, ◌++◌, length, get_or}
use Rattle.prelude.specs.Answer.{Answer, ok, error}
use Rattle.error.specs.Error.{Fault}
use Rattle.leb128.specs.declared.Mode.{Mode}
use Rattle.token.specs.Token.{Token}
use Rattle.values.specs.Values.{Value, tokens, bytes, region, starts}
use Rattle.reader_follow.specs.Follow.{follow_of}

pub record TokenAt (vs : List Value) (j q : ℕ) (t : Token) : Type 0 where
  pub before : List Value
  pub value : Value
  pub after : List Value
  pub values : vs ≡ before ++ (value ∷ after)
  pub numbered : length before ≡ j
  pub front : List Token
  pub back : List Token
  pub tokens : tokens value ≡ front ++ (t ∷ back)
  pub place : q ≡ length (region before) + length (bytes front)

pub record FollowsTo (mode : Mode) (file : List ℕ) (vs : List Value) (j q : ℕ) : Type 0 where
  pub before : List Value
  pub value : Value
  pub after : List Value
  pub values : vs ≡ before ++ (value ∷ after)
  pub number : ℕ
  pub numbered : length before ≡ number
  pub other : value.head.kind ≡ 15 → ⊥
  pub hops : ℕ
  pub follows : follow_of mode file q ≡ ok (get_or (starts 0 vs) number 0, hops)
  pub falls : hops + number ≤ j

abbrev pub further : Answer Fault (ℕ × ℕ) → Answer Fault (ℕ × ℕ)
further (ok p) = ok (p.0, p.1 + 1)
further (error e) = error e
