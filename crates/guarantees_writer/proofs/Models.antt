-- The laws of the reference model's values: as a file has them, joined, and counted.
--
-- In order: the items of a part (`target_each`, `pending_form`); parts joined (`forms_append`); values joined
-- (`values_append`, `values_snoc`), as many as there were, and their starts; the bytes of a model at each stage, and
-- with one part more (`bytes_grown`); what NO_ROOM means by the bytes before a request (`room_part`, `room_close`), and the
-- model's answers in these terms (`answer_part`, `answer_close`).
use mathlib.Core.Path.{◌≡◌, refl, sym, ap, ◌∙◌}
use mathlib.Core.Bool.{Bool, true, false, not, ◌&&◌, true≢false}
use mathlib.Core.List.{List, [], ◌∷◌, ◌++◌, append_assoc, append-nil}
use Prim.Native.Nat.{ℕ, suc, ◌+◌, ◌-◌, ◌≤◌, ◌<◌, min}
use native.Mathlib.Nat.{zero-add, add-zero}
use native.Mathlib.Omega.{arith}
use lib.Dec.{eqb, ltb, leb}
use lib.ListN.{length, drop, length-append}
use lib.Seq.{get_or-drop}
use borrow.Author.Tests.{eqb-true, leb-true, ltb-false, lt-ltb, le-ltb, le-leb, lt-leb}
use Rattle.prelude.specs.Pick.{pick}
use Rattle.prelude.specs.Search.{among}
use Rattle.prelude.proofs.Tests.{pick_elim, pick_cong, split}
use Rattle.prelude.proofs.Tables.{every_get_d}
use Rattle.prelude.proofs.Searches.{among_by}
use Rattle.error.specs.Error.{LIMIT}
use Rattle.utf8.specs.Text.{is_text}
use Rattle.kind.specs.Kind.{rule, table, reserved, pending, immediate}
use Rattle.token.specs.Token.{Token, emit}
use Rattle.token.proofs.Laws.{emit_pos}
use Rattle.values.specs.Values.{tokens, bytes, region, starts}
use Rattle.values.proofs.Laws.{bytes_append, region_append, starts_append, starts_lt, length_starts}
use Rattle.writer.specs.Step.{pending_of}
use Rattle.guarantees_writer.specs.Model.{Part, part, adds, ends, form_of, forms_of, ModelValue, model_value, value_at, values_at, end_of, Stage}
use Rattle.guarantees_writer.specs.Model.{between, within}
use Rattle.guarantees_writer.specs.Model.{closed, is_closed, Model, model, model_bytes, model_starts, pending_in, pending_at, grown, settle, back_to}
use Rattle.guarantees_writer.specs.Model.{model_after, first_of, no_room, model_answer}

-- ---- parts

target_row : (j : ℕ) → (rule (14 + j)).each ≡ 0
unfolding rule
target_row j = rw (← get_or-drop 14 table j reserved) (eqb-true _ 0 (every_get_d (λ r. eqb r.each 0) (drop 14 table) j reserved refl refl))

-- references and pointers have no items
pub target_each : (k : ℕ) → 14 ≤ k → (rule k).each ≡ 0
target_each k h = let past : k ≡ 14 + (k - 14) = omega arith in ap (λ j. (rule j).each) past ∙ target_row (k - 14)

-- the items of a part are those of its token
pub pending_form : (q : ℕ) (p : Part) → pending_of (form_of q p) ≡ pending (rule p.kind) p.number p.args
unfolding form_of
pending_form q p =
    pick_elim (λ n. pending (rule p.kind) n p.args ≡ pending (rule p.kind) p.number p.args) (leb 14 p.kind)
    (λ e. rw (target_each p.kind (leb-true 14 p.kind e)) (omega arith))
    (λ _. refl)

pub forms_append : (q : ℕ) (a b : List Part) → forms_of q (a ++ b) ≡ forms_of q a ++ forms_of (q + length (bytes (forms_of q a))) b
unfolding forms_of bytes
forms_append q [] b = rw add-zero
forms_append q (p ∷ a) b =
    let t = form_of q p in
    let ts = forms_of (q + length (emit t)) a in
    let sum : q + (length (emit t) + length (bytes ts)) ≡ q + length (emit t) + length (bytes ts) = omega arith in
    rw (forms_append (q + length (emit t)) a b, length-append (emit t) (bytes ts), sum)

pub length_forms : (q : ℕ) (ps : List Part) → length (forms_of q ps) ≡ length ps
unfolding forms_of
length_forms q [] = refl
length_forms q (p ∷ ps) = ap suc (length_forms (q + length (emit (form_of q p))) ps)

-- ---- values

pub values_append : (q : ℕ) (a b : List ModelValue) → values_at q (a ++ b) ≡ values_at q a ++ values_at (q + length (region (values_at q a))) b
unfolding values_at region
values_append q [] b = rw add-zero
values_append q (v ∷ a) b =
    let s = bytes (tokens (value_at q v)) in
    let vs = values_at (q + length s) a in
    let sum : q + (length s + length (region vs)) ≡ q + length s + length (region vs) = omega arith in
    rw (values_append (q + length s) a b, length-append s (region vs), sum)

pub length_values : (q : ℕ) (vs : List ModelValue) → length (values_at q vs) ≡ length vs
unfolding values_at
length_values q [] = refl
length_values q (v ∷ vs) = ap suc (length_values (q + length (bytes (tokens (value_at q v)))) vs)

-- one value more
pub values_snoc : (vs : List ModelValue) (v : ModelValue) → values_at 0 (vs ++ (v ∷ [])) ≡ values_at 0 vs ++ (value_at (end_of vs) v ∷ [])
unfolding values_at
values_snoc vs v = rw (values_append 0 vs (v ∷ []), zero-add)

pub region_snoc : (vs : List ModelValue) (v : ModelValue) → region (values_at 0 (vs ++ (v ∷ [])))
    ≡ region (values_at 0 vs) ++ bytes (tokens (value_at (end_of vs) v))
unfolding region
region_snoc vs v =
    rw (values_snoc vs v, region_append (values_at 0 vs) (value_at (end_of vs) v ∷ []), append-nil (bytes (tokens (value_at (end_of vs) v))))

pub length_starts_of : (b : Model) → length (model_starts b) ≡ length b.finished
unfolding model_starts
length_starts_of b = length_starts 0 (values_at 0 b.finished) ∙ length_values 0 b.finished

pub starts_snoc : (vs : List ModelValue) (v : ModelValue) → starts 0 (values_at 0 (vs ++ (v ∷ []))) ≡ starts 0 (values_at 0 vs) ++ (end_of vs ∷ [])
unfolding starts
starts_snoc vs v = rw (values_snoc vs v, starts_append 0 (values_at 0 vs) (value_at (end_of vs) v ∷ []), zero-add)

pub start_lt : (vs : List ModelValue) (x : ℕ) → among x (starts 0 (values_at 0 vs)) ≡ true → x < end_of vs
start_lt vs x h =
    let (i, i<, e) = among_by x (starts 0 (values_at 0 vs)) h in
    omega (arith, starts_lt 0 (values_at 0 vs) i (omega (arith, length_starts 0 (values_at 0 vs))))

-- ---- the bytes at each stage

module _ (vs : List ModelValue) where
  pub bytes_between : model_bytes (model vs between) ≡ region (values_at 0 vs)
  unfolding model_bytes
  bytes_between = rw (append-nil vs, append-nil (region (values_at 0 vs)))

  pub bytes_within : (v : ModelValue) → model_bytes (model vs (within v)) ≡ region (values_at 0 vs) ++ bytes (tokens (value_at (end_of vs) v))
  unfolding model_bytes
  bytes_within v = rw (append-nil (region (values_at 0 (vs ++ (v ∷ []))))) (region_snoc vs v)

  pub bytes_closed : (d : ℕ) → model_bytes (model vs (closed d)) ≡ region (values_at 0 vs) ++ (d ∷ [])
  unfolding model_bytes
  bytes_closed d = rw (append-nil vs)

-- the bytes begin with those of the finished values
pub front_bytes : (vs : List ModelValue) (g : Stage) → (rest : List ℕ) × (model_bytes (model vs g) ≡ region (values_at 0 vs) ++ rest)
front_bytes vs between = ([], bytes_between vs ∙ sym (append-nil (region (values_at 0 vs))))
front_bytes vs (within v) = (_, bytes_within vs v)
front_bytes vs (closed d) = (_, bytes_closed vs d)

pub end_le : (vs : List ModelValue) (g : Stage) → end_of vs ≤ length (model_bytes (model vs g))
end_le vs g = let (rest, e) = front_bytes vs g in omega (arith, ap length e, length-append (region (values_at 0 vs)) rest)

-- ---- the bytes that a part adds

pub bytes_grown : (vs : List ModelValue) (g : Stage) (p : Part) → is_closed g ≡ false
    → region (values_at 0 (vs ++ (grown g p ∷ []))) ≡ model_bytes (model vs g) ++ emit (form_of (length (model_bytes (model vs g))) p)
unfolding bytes forms_of
bytes_grown vs between p o = rw (region_snoc vs (model_value p []), bytes_between vs, append-nil (emit (form_of (end_of vs) p)))
bytes_grown vs (within v) p o =
    let s = region (values_at 0 vs) in
    let ts = tokens (value_at (end_of vs) v) in
    let t = form_of (end_of vs + length (bytes ts)) p in
    let all : bytes (tokens (value_at (end_of vs) (grown (within v) p))) ≡ bytes ts ++ emit t =
    ap bytes (forms_append (end_of vs) (v.head ∷ v.items) (p ∷ [])) ∙ bytes_append ts (t ∷ []) ∙ rw (append-nil (emit t)) in
    rw (region_snoc vs (grown (within v) p), all, bytes_within vs v, length-append s (bytes ts), append_assoc s (bytes ts) (emit t))
bytes_grown vs (closed d) p o = absurd (true≢false o)

pub bytes_settle : (vs : List ModelValue) (v : ModelValue) → model_bytes (settle vs v) ≡ region (values_at 0 (vs ++ (v ∷ [])))
bytes_settle vs v =
    pick_elim (λ b. model_bytes b ≡ region (values_at 0 (vs ++ (v ∷ [])))) (eqb (pending_in v) 0) (λ _. bytes_between (vs ++ (v ∷ [])))
    (λ _. bytes_within vs v ∙ sym (region_snoc vs v))

-- ---- the room

-- "the smaller of output length and 16,777,216, less 1, less the bytes written, and 0 if that is negative"
abbrev pub model_room : Model → ℕ → ℕ
model_room b n = min n LIMIT - 1 - length (model_bytes b)

-- x bytes exceed the limit: w bytes, `size` more, k items and the delta
pub room_test : (end w size k x : ℕ) → 0 < size → x ≡ w + size + k + 1 → ltb end x ≡ ltb (end - 1 - w) (size + k)
room_test end w size k x pos e =
    split end x (λ h. lt-ltb end x h ∙ sym (lt-ltb (end - 1 - w) (size + k) (omega arith)))
    (λ h. le-ltb end x h ∙ sym (le-ltb (end - 1 - w) (size + k) (omega arith)))

-- a part is NO_ROOM if its bytes, and the items pending after it, exceed the room
module _ (vs : List ModelValue) (g : Stage) (p : Part) (n : ℕ) where
  abbrev b : Model
  b = model vs g

  abbrev size : ℕ
  size = length (emit (form_of (length (model_bytes b)) p))

  pub room_part : is_closed g ≡ false → no_room (settle vs (grown g p)) n ≡ ltb (model_room b n) (size + pending_in (grown g p))
  room_part o =
      let v = grown g p in
      let long = ap length (bytes_settle vs v ∙ bytes_grown vs g p o) ∙ length-append (model_bytes b) (emit (form_of (length (model_bytes b)) p)) in
      let pos = emit_pos (form_of (length (model_bytes b)) p) in
      pick_elim (λ c. length (model_bytes c) ≡ length (model_bytes b) + size → no_room c n ≡ ltb (model_room b n) (size + pending_in v)) (eqb (pending_in v) 0)
      (λ z e. room_test (min n LIMIT) (length (model_bytes b)) size (pending_in v) _ pos (omega (arith, eqb-true (pending_in v) 0 z)))
      (λ _ e. room_test (min n LIMIT) (length (model_bytes b)) size (pending_in v) _ pos (omega arith))
      long

-- a close is NO_ROOM if its pointer exceeds the room, or if no byte is left for the delta
module _ (vs : List ModelValue) (e n : ℕ) where
  abbrev whole : Model
  whole = model vs between

  abbrev closing : Part
  closing = part 15 e 0 []

  abbrev tail : Token
  tail = form_of (length (model_bytes whole)) closing

  pub room_close : no_room (model_after (ends e) whole) n
      ≡ pick (ltb 255 (back_to e whole)) (ltb (model_room whole n) (length (emit tail))) (leb (min n LIMIT) (length (model_bytes whole)))
  room_close = by_reach (ltb 255 (back_to e whole))
    where
      by_reach : (far : Bool)
          → no_room (pick far (model (vs ++ (model_value closing [] ∷ [])) (closed (length (emit tail) - 1))) (model vs (closed (back_to e whole)))) n
          ≡ pick far (ltb (model_room whole n) (length (emit tail))) (leb (min n LIMIT) (length (model_bytes whole)))
      by_reach true =
          let vs' = vs ++ (model_value closing [] ∷ []) in
          let d = length (emit tail) - 1 in
          let long = ap length (bytes_closed vs' d) ∙ length-append (region (values_at 0 vs')) (d ∷ []) in
          let more = ap length (bytes_grown vs between closing refl) ∙ length-append (model_bytes whole) (emit tail) in
          room_test (min n LIMIT) (length (model_bytes whole)) (length (emit tail)) 0 _ (emit_pos tail) (omega arith) ∙ rw add-zero
      by_reach false =
          let d = back_to e whole in
          let long = ap length (bytes_closed vs d) ∙ length-append (region (values_at 0 vs)) (d ∷ []) in
          let same = ap length (bytes_between vs) in
          let end = min n LIMIT in
          let w = length (model_bytes whole) in
          split w end (λ h. le-ltb end _ (omega arith) ∙ sym (lt-leb end w h)) (λ h. lt-ltb end _ (omega arith) ∙ sym (le-leb end w h))

-- ---- the model's answers, by the bytes before

pub answer_part : (p : Part) (b : Model) (n m : ℕ) → model_answer (adds p) b n m
    ≡ first_of (is_closed b.stage) (not (immediate (rule p.kind)) && ltb 0 (pending_at b.stage)) (eqb p.kind 4 && not (is_text p.body))
    (leb 14 p.kind && not (among p.number (model_starts b))) (eqb (pending_at b.stage) 0 && leb m (length b.finished))
    (ltb (model_room b n) (length (emit (form_of (length (model_bytes b)) p)) + pending_in (grown b.stage p)))
answer_part p b n m = pick_cong (is_closed b.stage) (λ _. refl) (λ o. rw (room_part b.finished b.stage p n o))

-- in a model of the calls, no value is open if no item is pending
pub answer_close : (e : ℕ) (b : Model) (n m : ℕ) → (is_closed b.stage ≡ false → pending_at b.stage ≡ 0 → b.stage ≡ between) → model_answer (ends e) b n m
    ≡ first_of (is_closed b.stage) (ltb 0 (pending_at b.stage)) false (not (among e (model_starts b)))
    (ltb 255 (back_to e b) && leb m (length b.finished))
    (pick (ltb 255 (back_to e b)) (ltb (model_room b n) (length (emit (form_of (length (model_bytes b)) (part 15 e 0 [])))))
    (leb (min n LIMIT) (length (model_bytes b))))
answer_close e b n m none =
    pick_cong (is_closed b.stage) (λ _. refl) (λ o. pick_cong (ltb 0 (pending_at b.stage)) (λ _. refl) (λ z.
    rw (none o (omega (arith, ltb-false 0 (pending_at b.stage) z)), room_close b.finished e n)))
