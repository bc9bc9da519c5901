-- A token written again by its call.
--
-- In order: the part of a token (`part_of`), and that its form is the token (`form_part`); the parts of tokens and of
-- values, likewise (`forms_parts`, `values_models`); the row of the token's kind, out of sixteen (`row_of`): its call
-- asks for its part (`request_call`), and is one that a program can make (`call_given`); what the reader returns for a
-- token, and its body, say which call it is (`rewrites_read`).
use mathlib.Core.Path.{◌≡◌, refl, sym, ap, ◌∙◌}
use mathlib.Core.Bool.{Bool, true, false}
use mathlib.Core.Logic.{◌⊎◌, inl, inr}
use mathlib.Core.List.{List, [], ◌∷◌, ◌++◌, map}
use Prim.Native.Nat.{ℕ, zero, suc, ◌+◌, ◌-◌, ◌^◌, ◌≤◌, ◌<◌}
use native.Mathlib.Nat.{zero-add}
use native.Mathlib.Omega.{arith}
use lib.Dec.{eqb, ltb, leb}
use lib.ListN.{length, get_or, set, drop_of_length-le, get_or-map}
use borrow.Author.Tests.{le-leb, lt-leb, eqb-true, eqb-false}
use Rattle.prelude.specs.Pick.{pick}
use Rattle.prelude.specs.Answer.{ok, bind}
use Rattle.prelude.specs.Bytes.{Bytes}
use Rattle.prelude.specs.Each.{Each}
use Rattle.prelude.proofs.Tests.{pick_elim, split, facts}
use Rattle.prelude.proofs.Tables.{set_row}
use Rattle.leb128.specs.declared.Mode.{Mode}
use Rattle.leb128.specs.declared.Mode.TheVariants.{Strict}
use Rattle.little_endian.specs.LittleEndian.{little, from_little}
use Rattle.little_endian.proofs.Laws.{little_from, value_lt}
use Rattle.kind.specs.Kind.{rule, size}
use Rattle.kind.proofs.Laws.{most_fits, used_lt}
use Rattle.token.specs.Token.{Token, emit, Allowed, Spelled}
use Rattle.token.proofs.Laws.{strict_token}
use Rattle.values.specs.Values.{Value, tokens, bytes, Item, Formed, HasTargets, TargetsEarlier, WellFormed}
use Rattle.writer.specs.Call.{Call, scalar, float32, float64, text, bytes as byte_string}
use Rattle.writer.specs.declared.Scalar.TheVariants.{False, True, Null}
use Rattle.writer.specs.Given.{Given}
use Rattle.reader_value.specs.Value.{read_of}
use Rattle.reader_value.specs.declared.Value.TheVariants.{False as ReadFalse, True as ReadTrue, Null as ReadNull, Float32, Float64}
use Rattle.reader_body.specs.Body.{body_of}
use Rattle.guarantees.specs.TokenValues.{token_rows, value_of_token}
use Rattle.guarantees.specs.Places.{TokenAt}
use Rattle.guarantees_writer.specs.Model.{Part, part, ModelValue, model_value, form_of, forms_of, value_at, values_at, adds, request_of}
use Rattle.guarantees.specs.Rewrites.{call_rows, call_of, call_of_value}
use Rattle.guarantees.proofs.Rows.{Rows, past, ◌▸◌, rows_at}
use Rattle.guarantees.proofs.ReadsFile.{reads_token, reads_body}

-- ---- the parts of tokens and of values

-- the part that the call of t at q adds
unfoldable pub part_of : ℕ → Token → Part
part_of q t = part t.kind (pick (leb 14 t.kind) (q - t.n - 1) t.n) t.args t.body

unfoldable pub parts_of : ℕ → List Token → List Part
parts_of q [] = []
parts_of q (t ∷ ts) = part_of q t ∷ parts_of (q + length (emit t)) ts

abbrev pub model_value_of : ℕ → Value → ModelValue
model_value_of q v = model_value (part_of q v.head) (parts_of (q + length (emit v.head)) v.items)

unfoldable pub model_values_of : ℕ → List Value → List ModelValue
model_values_of q [] = []
model_values_of q (v ∷ vs) = model_value_of q v ∷ model_values_of (q + length (bytes (tokens v))) vs

-- a part has no other form than the shortest
pub form_part : (q : ℕ) (t : Token) → Spelled Strict t → (14 ≤ t.kind → t.n < q) → form_of q (part_of q t) ≡ t
unfolding form_of part_of
form_part q t spelled targeted =
    split t.kind 14 (λ l. rw (lt-leb 14 t.kind l) (strict_token t spelled))
    (λ l. let e : q - (q - t.n - 1) - 1 ≡ t.n = omega (arith, targeted l) in rw (le-leb 14 t.kind l, e) (strict_token t spelled))

pub forms_parts : (done : List ℕ) (q : ℕ) (ts : List Token) → Each (Item Strict) ts → HasTargets done q ts → forms_of q (parts_of q ts) ≡ ts
unfolding forms_of parts_of
forms_parts done q [] f a = refl
forms_parts done q (t ∷ ts) f a =
    rw (form_part q t f.0.sound.spelled (λ k. (a.0 k).0), forms_parts done (q + length (emit t)) ts f.1 a.1)

pub value_model : (done : List ℕ) (q : ℕ) (v : Value) → Formed Strict v → HasTargets done q (tokens v) → value_at q (model_value_of q v) ≡ v
value_model done q v f a =
    rw (form_part q v.head f.head.spelled (λ k. (a.0 k).0), forms_parts done (q + length (emit v.head)) v.items f.items a.1)

pub values_models : (done : List ℕ) (q : ℕ) (vs : List Value) → Each (Formed Strict) vs → TargetsEarlier done q vs → values_at q (model_values_of q vs) ≡ vs
unfolding values_at model_values_of
values_models done q [] f b = refl
values_models done q (v ∷ vs) f b =
    let at = q + length (bytes (tokens v)) in
    ap (λ w. w ∷ values_at (q + length (bytes (tokens w))) (model_values_of at vs)) (value_model done q v f.0 b.0)
    ∙ ap (λ ws. v ∷ ws) (values_models (done ++ (q ∷ [])) at vs f.1 b.1)

-- ---- the row of a kind

scalar_request : (n : ℕ) → n ≤ 2 → request_of (scalar (pick (eqb n 0) False (pick (eqb n 1) True Null))) ≡ adds (part 0 n 0 [])
scalar_request zero h = refl
scalar_request (suc zero) h = refl
scalar_request (suc (suc zero)) h = refl
scalar_request (suc (suc (suc n))) h = absurd (omega arith)

module _ (q : ℕ) (t : Token) (f : Allowed t) where
  kind_lt : t.kind < 16
  kind_lt = used_lt t.kind (omega (arith, f.low))

  row_of : (P : Call → Type 0) → Rows (λ k c. t.kind ≡ k → P c) 0 (call_rows q t) → P (call_of q t)
  unfolding call_of
  row_of P r = rows_at (λ k c. t.kind ≡ k → P c) 0 t.kind (call_rows q t) _ r kind_lt (sym (zero-add t.kind))

  sized : (k : ℕ) → t.kind ≡ k → length t.body ≡ size (rule k) t.n
  sized k e = rw e at f.sized

  most : (k : ℕ) → t.kind ≡ k → t.n ≤ (rule k).most
  most k e = rw e at f.most

  reserved : {X : Type 0} (k : ℕ) → (rule k).lows ≡ 0 → t.kind ≡ k → X
  reserved k lows e = absurd (omega (arith, lows, f.low, ap (λ j. (rule j).lows) e))

  -- a float has four bytes or eight
  float_by : (P : Call → Type 0) → (t.n ≡ 0 → length t.body ≡ 4 → P (float32 (from_little t.body)))
      → (t.n ≡ 1 → length t.body ≡ 8 → P (float64 (from_little t.body))) → t.kind ≡ 3
      → P (pick (eqb t.n 0) (float32 (from_little t.body)) (float64 (from_little t.body)))
  unfolding rule
  float_by P four eight e =
      let size = sized 3 e in
      let top = most 3 e in
      pick_elim P (eqb t.n 0) (λ z. four (eqb-true t.n 0 z) (omega facts))
      (λ z. let more : t.n ≡ 0 → ⊥ = eqb-false t.n 0 z in eight (omega arith) (omega arith))

  -- ---- what its call asks for

  abbrev Asks : Call → Type 0
  Asks c = request_of c ≡ adds (part_of q t)

  -- the part of t, field by field
  own : {n a : ℕ} {s : List ℕ} (k : ℕ) → t.kind ≡ k → pick (leb 14 k) (q - t.n - 1) t.n ≡ n → t.args ≡ a → t.body ≡ s
      → adds (part k n a s) ≡ adds (part_of q t)
  unfolding part_of
  own k e number args body = rw (e, number, args, body)

  one : (k : ℕ) → (rule k).args ≡ false → t.kind ≡ k → t.args ≡ 0
  one k args e = f.alone (rw e args)

  none : (k : ℕ) → (rule k).fixed ≡ 0 → (rule k).scale ≡ 0 → t.kind ≡ k → t.body ≡ []
  none k fixed scale e = drop_of_length-le t.body {i = 0} (omega (arith, rw (fixed, scale) at (sized k e)))

  -- for a kind with one number and no body
  bare : (k : ℕ) → (rule k).fixed ≡ 0 → (rule k).scale ≡ 0 → (rule k).args ≡ false → t.kind ≡ k
      → adds (part k (pick (leb 14 k) (q - t.n - 1) t.n) 0 []) ≡ adds (part_of q t)
  bare k fixed scale args e = own k e refl (one k args e) (none k fixed scale e)

  -- n is the length of a text or byte string
  long : (k : ℕ) → (rule k).fixed ≡ 0 → (rule k).scale ≡ 1 → t.kind ≡ k → t.n ≡ length t.body
  long k fixed scale e = omega (arith, rw (fixed, scale) at (sized k e))

  module _ (b : Bytes t.body) where
    float : {n w : ℕ} → t.kind ≡ 3 → t.n ≡ n → length t.body ≡ w → adds (part 3 n 0 (little w (from_little t.body))) ≡ adds (part_of q t)
    unfolding rule
    float e number wide = own 3 e number (one 3 refl e) (sym (rw wide at (little_from t.body b)))

    request_rows : Rows (λ k c. t.kind ≡ k → Asks c) 0 (call_rows q t)
    unfolding rule
    request_rows = (λ e. scalar_request t.n (most 0 e) ∙ bare 0 refl refl refl e)
        ▸ bare 1 refl refl refl
        ▸ bare 2 refl refl refl
        ▸ (λ e. float_by Asks (float e) (float e) e)
        ▸ (λ e. own 4 e (long 4 refl refl e) (one 4 refl e) refl)
        ▸ (λ e. own 5 e (long 5 refl refl e) (one 5 refl e) refl)
        ▸ bare 6 refl refl refl
        ▸ bare 7 refl refl refl
        ▸ bare 8 refl refl refl
        ▸ reserved 9 refl
        ▸ bare 10 refl refl refl
        ▸ bare 11 refl refl refl
        ▸ (λ e. own 12 e refl refl (none 12 refl refl e))
        ▸ reserved 13 refl
        ▸ bare 14 refl refl refl
        ▸ bare 15 refl refl refl
        ▸ past

    pub request_call : request_of (call_of q t) ≡ adds (part_of q t)
    request_call = row_of Asks request_rows

    -- ---- that a program can make it

    below : (k m : ℕ) → ltb (rule k).most m ≡ true → t.kind ≡ k → t.n < m
    below k m less e = omega (facts, most k e)

    given_string : (k : ℕ) → (rule k).fixed ≡ 0 → (rule k).scale ≡ 1 → t.kind ≡ k → Bytes t.body × (length t.body < 2 ^ 64)
    given_string k fixed scale e = (b, omega (arith, long k fixed scale e, most k e, most_fits k))

    given_many : t.kind ≡ 12 → (t.n < 2 ^ 32) × (t.args < 2 ^ 64)
    unfolding rule
    given_many e = (below 12 (2 ^ 32) refl e, f.count)

    given_rows : Rows (λ k c. t.kind ≡ k → Given c) 0 (call_rows q t)
    unfolding rule
    given_rows = (λ e. tt)
        ▸ below 1 (2 ^ 63) refl
        ▸ below 2 (2 ^ 63) refl
        ▸ float_by Given (λ no l. rw l at (value_lt t.body b)) (λ no l. rw l at (value_lt t.body b))
        ▸ given_string 4 refl refl
        ▸ given_string 5 refl refl
        ▸ below 6 (2 ^ 64) refl
        ▸ below 7 (2 ^ 64) refl
        ▸ below 8 (2 ^ 64) refl
        ▸ (λ e. tt)
        ▸ below 10 (2 ^ 32) refl
        ▸ below 11 (2 ^ 32) refl
        ▸ given_many
        ▸ (λ e. tt)
        ▸ (λ e. tt)
        ▸ (λ e. tt)
        ▸ past

    pub call_given : Given (call_of q t)
    call_given = row_of Given given_rows

-- ---- the call by what the reader returns

call_of_value_scalar : (a b : Bool) (s : List ℕ)
    → call_of_value (pick a ReadFalse (pick b ReadTrue ReadNull)) s ≡ scalar (pick a False (pick b True Null))
call_of_value_scalar true b s = refl
call_of_value_scalar false true s = refl
call_of_value_scalar false false s = refl

call_of_value_float : (a : Bool) (n : ℕ) (s : List ℕ) → call_of_value (pick a (Float32 n) (Float64 n)) s ≡ pick a (float32 n) (float64 n)
call_of_value_float true n s = refl
call_of_value_float false n s = refl

-- s is the body of a text or byte string; for other kinds it does not matter
call_of_value_read : (q : ℕ) (t : Token) (s : List ℕ) → ((t.kind ≡ 4) ⊎ (t.kind ≡ 5) → s ≡ t.body) → call_of_value (value_of_token q t) s ≡ call_of q t
unfolding value_of_token call_of
call_of_value_read q t s body =
    let swapped = set (call_rows q t) 4 (text s) in
    let reported : map (λ v. call_of_value v s) (token_rows q t) ≡ set swapped 5 (byte_string s) = rw (call_of_value_scalar, call_of_value_float) in
    sym (get_or-map (λ v. call_of_value v s) (token_rows q t) t.kind ReadNull)
    ∙ ap (λ cs. get_or cs t.kind (scalar Null)) reported
    ∙ sym (set_row (call_rows q t) 4 t.kind (text s) (scalar Null) (λ k. ap text (sym (body (inl k))))
    ∙ set_row swapped 5 t.kind (byte_string s) (scalar Null) (λ k. ap byte_string (sym (body (inr k)))))

-- for a token of a well-formed file
pub rewrites_read : (mode : Mode) (file : List ℕ) (vs : List Value) (entry : ℕ) → WellFormed mode file vs entry → (j q : ℕ) (t : Token) → TokenAt vs j q t
    → bind (read_of mode file q) (λ v. ok (call_of_value v (body_of mode file q))) ≡ ok (call_of q t)
unfolding bind
rewrites_read mode file vs entry w j q t st =
    rw (reads_token file vs entry w j q t st)
    (ap ok (call_of_value_read q t (body_of mode file q) (λ k. (reads_body file vs entry w j q t st k).1)))
