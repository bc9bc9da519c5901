-- What map lookup means (document 01, "Questions at an offset"), beside its loop.
--
-- On every file, by the other queries:
--
--   Keyed mode file q key
--                        following from q leads to a text, and its body is `key`. So a byte string is not a key, nor is a reference, which is not
--                        followed
--   OtherKey mode file at j key
--                        item 2j of the map at `at` is there, is followed without fault, and is not the key
--   Found mode file at key x
--                        the value at `at` reads as a map; item 2i of it is the key for some i, item 2i + 1 is at x, and each earlier key is an
--                        `OtherKey`
--   Missing mode file at key
--                        the value at `at` reads as a map and is skipped without fault, and each key of it is an `OtherKey`
--   NoMap mode file at   the value at `at` reads, and is not a map
--
-- On a well-formed file, by its values:
--
--   IsKey vs key q t     the token t, at q, is a text with the body `key`, or a pointer to a value whose head is such a token
--   ItemAt at v i q t    item number i of the value v that starts at `at` is the token t, at q
--   FirstPair vs at v key x
--                        of the pairs of v, key and value alternating, x is where the value starts of the first that has the key
--   NoPair vs at v key   none of them has it
-- `-` stops at 0: a target q - n - 1 means something if n < q, which it is in a well-formed file.
use Rattle.std.specs.Prelude.{ℕ, ◌+◌, ◌-◌, ◌*◌, ◌<◌, ◌≡◌, List, ◌∷◌, ◌++◌, length}
use Rattle.prelude.specs.Answer.{ok}
use Rattle.leb128.specs.declared.Mode.{Mode}
use Rattle.token.specs.Token.{Token}
use Rattle.values.specs.Values.{Value, bytes, region}
use Rattle.reader_value.specs.Value.{read_of}
use Rattle.reader_value.specs.declared.Value.{Value as ReadValue}
use Rattle.reader_value.specs.declared.Value.TheVariants.{Text, Map}
use Rattle.reader_items.specs.Items.{skip_of, item_of}
use Rattle.reader_follow.specs.Follow.{follow_of}
use Rattle.reader_body.specs.Body.{body_of}
use Rattle.guarantees.specs.TokenValues.{token_end}

-- ---- on every file

pub record Keyed (mode : Mode) (file : List ℕ) (q : ℕ) (key : List ℕ) : Type 0 where
  pub place : ℕ
  pub hops : ℕ
  pub follows : follow_of mode file q ≡ ok (place, hops)
  pub first : ℕ
  pub len : ℕ
  pub text : read_of mode file place ≡ ok (Text first len)
  pub body : body_of mode file q ≡ key

pub record OtherKey (mode : Mode) (file : List ℕ) (at j : ℕ) (key : List ℕ) : Type 0 where
  pub q : ℕ
  pub here : item_of mode file at (2 * j) ≡ ok q
  pub place : ℕ
  pub hops : ℕ
  pub follows : follow_of mode file q ≡ ok (place, hops)
  pub other : Keyed mode file q key → ⊥

pub record Found (mode : Mode) (file : List ℕ) (at : ℕ) (key : List ℕ) (x : ℕ) : Type 0 where
  pub pairs : ℕ
  pub items : ℕ
  pub first : ℕ
  pub map : read_of mode file at ≡ ok (Map pairs items first)
  pub i : ℕ
  pub q : ℕ
  pub here : item_of mode file at (2 * i) ≡ ok q
  pub keyed : Keyed mode file q key
  pub value : item_of mode file at (2 * i + 1) ≡ ok x
  pub others : (j : ℕ) → j < i → OtherKey mode file at j key

pub record Missing (mode : Mode) (file : List ℕ) (at : ℕ) (key : List ℕ) : Type 0 where
  pub pairs : ℕ
  pub items : ℕ
  pub first : ℕ
  pub map : read_of mode file at ≡ ok (Map pairs items first)
  pub end : ℕ
  pub skips : skip_of mode file at ≡ ok end
  pub others : (j : ℕ) → j < pairs → OtherKey mode file at j key

pub record NoMap (mode : Mode) (file : List ℕ) (at : ℕ) : Type 0 where
  pub value : ReadValue
  pub read : read_of mode file at ≡ ok value
  pub other : (pairs items first : ℕ) → value ≡ Map pairs items first → ⊥

-- ---- on a well-formed file

pub data IsKey (vs : List Value) (key : List ℕ) : ℕ → Token → Type 0 where
  text : {q : ℕ} {t : Token} → t.kind ≡ 4 → t.body ≡ key → IsKey vs key q t
  pointer : {q : ℕ} {t : Token} → t.kind ≡ 15 → (a : List Value) (v : Value) (b : List Value) → vs ≡ a ++ (v ∷ b)
      → length (region a) ≡ q - t.n - 1 → IsKey vs key (length (region a)) v.head → IsKey vs key q t

pub record ItemAt (at : ℕ) (v : Value) (i q : ℕ) (t : Token) : Type 0 where
  pub front : List Token
  pub back : List Token
  pub items : v.items ≡ front ++ (t ∷ back)
  pub numbered : length front ≡ i
  pub place : q ≡ token_end at v.head + length (bytes front)

pub record FirstPair (vs : List Value) (at : ℕ) (v : Value) (key : List ℕ) (x : ℕ) : Type 0 where
  pub i : ℕ
  pub q : ℕ
  pub own : Token
  pub here : ItemAt at v (2 * i) q own
  pub is_key : IsKey vs key q own
  pub token : Token
  pub value : ItemAt at v (2 * i + 1) x token
  pub others : (j p : ℕ) (t : Token) → j < i → ItemAt at v (2 * j) p t → IsKey vs key p t → ⊥

abbrev pub NoPair : List Value → ℕ → Value → List ℕ → Type 0
NoPair vs at v key = (j p : ℕ) (t : Token) → ItemAt at v (2 * j) p t → IsKey vs key p t → ⊥
