-- What the reader gives back for a file that the writer closed, in terms of the reference model's values.
--
--   Holds vs j q p     p is a part of value number j of the values vs, its head or an item, and its header is at q
--   value_of_part q p    what reading must return for p at q; for a reference or pointer, the offset that was handed in
--   GivesBack mode file vs entry
--                      the file is well formed, with the values vs; check, given enough words, accepts it, with their
--                      starts and this entry; reading, items and bodies return the values vs
--   ReadsBack mode b e c file
--                      the model was b before it was closed at e, and is c after that: c's values are b's, and the
--                      pointer if one was needed; the file gives them back, with the entry that document 01 asks for
use Rattle.std.specs.Prelude.{ℕ, ◌+◌, ◌-◌, ◌≤◌, ◌<◌, ◌≡◌, true, false, ◌⊎◌, List, [], ◌∷◌, ◌++◌, eqb, leb, length}
use Rattle.prelude.specs.Pick.{pick}
use Rattle.prelude.specs.Answer.{ok, error}
use Rattle.error.specs.Error.{fault, NO_ITEM, WRONG_KIND}
use Rattle.leb128.specs.declared.Mode.{Mode}
use Rattle.kind.specs.Kind.{rule, immediate}
use Rattle.values.specs.Values.{tokens, bytes, starts, WellFormed}
use Rattle.reader_value.specs.Value.{read_of}
use Rattle.reader_value.specs.declared.Value.{Value}
use Rattle.reader_value.specs.declared.Value.TheVariants.{Reference, Pointer}
use Rattle.reader_items.specs.Items.{skip_of, item_of}
use Rattle.reader_body.specs.Body.{body_place_of, body_of}
use Rattle.checker.specs.Check.{checked, filled, check_of}
use Rattle.guarantees.specs.TokenValues.{token_end, value_of_token}
use Rattle.guarantees_writer.specs.Model.{Part, part, ModelValue, model_value, form_of, forms_of, value_at, values_at, end_of, Model, model_bytes, back_to}

pub record Holds (vs : List ModelValue) (j q : ℕ) (p : Part) : Type 0 where
  pub before : List ModelValue
  pub value : ModelValue
  pub after : List ModelValue
  pub values : vs ≡ before ++ (value ∷ after)
  pub numbered : length before ≡ j
  pub front : List Part
  pub back : List Part
  pub parts : value.head ∷ value.items ≡ front ++ (p ∷ back)
  pub place : q ≡ end_of before + length (bytes (forms_of (end_of before) front))

unfoldable pub value_of_part : ℕ → Part → Value
value_of_part q p = pick (leb 14 p.kind) (pick (eqb p.kind 14) (Reference p.number) (Pointer p.number)) (value_of_token q (form_of q p))

pub record GivesBack (mode : Mode) (file : List ℕ) (vs : List ModelValue) (entry : ℕ) : Type 0 where
  pub well_formed : WellFormed mode file (values_at 0 vs) entry
  -- count, entry and starts
  pub accepted : (cap : ℕ) → length vs ≤ cap → check_of mode file cap ≡ checked (ok (length vs, entry)) (filled cap (starts 0 (values_at 0 vs)))
  -- kinds, numbers and targets, of values and items
  pub read : (j q : ℕ) (p : Part) → Holds vs j q p → read_of mode file q ≡ ok (value_of_part q p)
  pub body : (j q : ℕ) (p : Part) → Holds vs j q p → (p.kind ≡ 4) ⊎ (p.kind ≡ 5)
      → (body_place_of mode file q ≡ ok (token_end q (form_of q p) - length p.body, length p.body)) × (body_of mode file q ≡ p.body)
  -- where a value ends; where its items start, that there are no more, and that an immediate has none
  pub skip : (a : List ModelValue) (v : ModelValue) (b : List ModelValue) → vs ≡ a ++ (v ∷ b)
      → skip_of mode file (end_of a) ≡ ok (end_of a + length (bytes (tokens (value_at (end_of a) v))))
  pub item : (a : List ModelValue) (v : ModelValue) (b : List ModelValue) → vs ≡ a ++ (v ∷ b)
      → (is : List Part) (p : Part) (js : List Part) → v.items ≡ is ++ (p ∷ js)
      → item_of mode file (end_of a) (length is) ≡ ok (end_of a + length (bytes (forms_of (end_of a) (v.head ∷ is))))
  pub none : (a : List ModelValue) (v : ModelValue) (b : List ModelValue) → vs ≡ a ++ (v ∷ b) → immediate (rule v.head.kind) ≡ false
      → (i : ℕ) → length v.items ≤ i → item_of mode file (end_of a) i ≡ error (fault NO_ITEM (end_of a))
  pub flat : (a : List ModelValue) (v : ModelValue) (b : List ModelValue) → vs ≡ a ++ (v ∷ b) → immediate (rule v.head.kind) ≡ true
      → (i : ℕ) → item_of mode file (end_of a) i ≡ error (fault WRONG_KIND (end_of a))

pub record ReadsBack (mode : Mode) (b : Model) (e : ℕ) (c : Model) (file : List ℕ) : Type 0 where
  -- the delta byte reaches back to the value at e, which is the entry
  pub near : back_to e b ≤ 255 → (c.finished ≡ b.finished) × GivesBack mode file c.finished e
  -- a pointer to it comes last, and is the entry
  pub far : 255 < back_to e b
      → (c.finished ≡ b.finished ++ (model_value (part 15 e 0 []) [] ∷ [])) × GivesBack mode file c.finished (length (model_bytes b))
