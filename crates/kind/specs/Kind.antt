-- The kind table (document 01, "Row of a file"), as numbers, so that sizes are computed from the table, without a case
-- for each kind.
--
--   row ..          a rule, by the columns of the table
--   reserved        the rule of a reserved kind: no low nibble is in use
--   table           the sixteen rules, in the order of the kinds
--   rule k          the rule of kind k; past the table, that of a reserved kind
--   size r n        how many bytes the body has
--   counted r n a   the items that the file counts, by n or by a second number a, which is 0 if the kind has none
--   pending r n a   all items: those, and the one of a tag or a variant of one
--   due before own  the items pending after a token that has `own` items: those if it begins a value, else one less than before
--   immediate r     whether a value of this rule may be an item
use Rattle.std.specs.Prelude.{ℕ, ◌+◌, ◌-◌, ◌*◌, ◌^◌, Bool, true, false, List, [], ◌∷◌, eqb, get_or}
use Rattle.prelude.specs.Pick.{pick}
use Rattle.kind.specs.declared.Rule.{Rule}

abbrev pub row : ℕ → ℕ → ℕ → ℕ → ℕ → ℕ → Bool → Bool → Rule
row lows most fixed scale single each args immediate = record {
  lows = lows;
  most = most;
  fixed = fixed;
  scale = scale;
  single = single;
  each = each;
  args = args;
  immediate = immediate;
}

abbrev pub reserved : Rule
reserved = row 0 0 0 0 0 0 false false

-- the columns: the low nibbles in use; the greatest n; the body's bytes, and its bytes for each n; items, and items for
-- each n; whether a second number counts items; whether it is an immediate
abbrev pub table : List Rule
table =
    row 3 2 0 0 0 0 false true  -- 0: false, true, null
    ∷ row 16 (2 ^ 63 - 1) 0 0 0 0 false true  -- 1: the integer n
    ∷ row 16 (2 ^ 63 - 1) 0 0 0 0 false true  -- 2: the integer -n-1
    ∷ row 2 1 4 4 0 0 false true  -- 3: a float of 4 or 8 bytes
    ∷ row 16 (2 ^ 64 - 1) 0 1 0 0 false true  -- 4: text
    ∷ row 16 (2 ^ 64 - 1) 0 1 0 0 false true  -- 5: byte string
    ∷ row 16 (2 ^ 64 - 1) 0 0 0 1 false false  -- 6: array
    ∷ row 16 (2 ^ 64 - 1) 0 0 0 2 false false  -- 7: map
    ∷ row 16 (2 ^ 64 - 1) 0 0 1 0 false false  -- 8: tag
    ∷ reserved
    ∷ row 16 (2 ^ 32 - 1) 0 0 0 0 false true  -- 10: variant of none
    ∷ row 16 (2 ^ 32 - 1) 0 0 1 0 false false  -- 11: variant of one
    ∷ row 16 (2 ^ 32 - 1) 0 0 0 0 true false  -- 12: variant of many
    ∷ reserved
    ∷ row 16 (2 ^ 64 - 1) 0 0 0 0 false true  -- 14: reference
    ∷ row 16 (2 ^ 64 - 1) 0 0 0 0 false true  -- 15: pointer
    ∷ []

unfoldable pub rule : ℕ → Rule
rule k = get_or table k reserved

abbrev pub size : Rule → ℕ → ℕ
size r n = r.fixed + r.scale * n

abbrev pub counted : Rule → ℕ → ℕ → ℕ
counted r n a = r.each * n + a

abbrev pub pending : Rule → ℕ → ℕ → ℕ
pending r n a = r.single + counted r n a

abbrev pub due : ℕ → ℕ → ℕ
due before own = pick (eqb before 0) own (before - 1)

abbrev pub immediate : Rule → Bool
immediate r = r.immediate
