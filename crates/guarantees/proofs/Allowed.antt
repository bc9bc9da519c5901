-- If the arguments of calls have the stated widths, the finished values of the reference model are values that a file
-- may begin with.
--
--   AllowedPart p   p's kind allows it at any offset: at 0, where the distance of a target is 0
--
-- In order: the part of such a call is allowed (`allowed_given`), and the model keeps that (`invariant_given`); an
-- allowed part is allowed at each offset, has as many items there, and names the offset that was handed in; the items
-- of a value, a value, and values (`invariant_values`).
use mathlib.Core.Path.{◌≡◌, ap, ◌∙◌, subst}
use mathlib.Core.Bool.{true}
use mathlib.Core.List.{List, [], ◌∷◌, ◌++◌}
use Prim.Native.Nat.{ℕ, ◌+◌, ◌-◌, ◌≤◌, ◌<◌}
use native.Mathlib.Omega.{arith}
use lib.ListN.{length, length-append}
use borrow.Author.Tests.{le-leb, lt-leb}
use Rattle.prelude.specs.Each.{Each}
use Rattle.prelude.proofs.Tests.{split}
use Rattle.error.specs.Error.{LIMIT}
use Rattle.leb128.specs.declared.Mode.TheVariants.{Strict}
use Rattle.utf8.proofs.Laws.{is_text_text}
use Rattle.kind.specs.Kind.{rule, immediate}
use Rattle.kind.proofs.Laws.{used_lt}
use Rattle.token.specs.Token.{emit, Allowed}
use Rattle.token.proofs.Laws.{spelled_token}
use Rattle.values.specs.Values.{tokens, bytes, region, starts, Sound, Item, Formed, HasTarget, HasTargets, TargetsEarlier, Values}
use Rattle.values.proofs.Members.{each_imp}
use Rattle.writer.specs.Call.{Call}
use Rattle.writer.specs.Given.{Given}
use Rattle.guarantees_writer.specs.Model.{Part, request_of, ModelValue, form_of, forms_of, value_at, values_at, end_of}
use Rattle.guarantees_writer.specs.Model.{Model, empty_model, pending_in, Request, adds, ends}
use Rattle.guarantees_writer.specs.History.{model_run}
use Rattle.guarantees_writer.proofs.Models.{pending_form, length_forms, region_snoc, starts_snoc, start_lt, end_le}
use Rattle.guarantees.proofs.Invariant.{Fit, GoodValue, Finished, ModelInvariant, Clear, added_by, invariant_run}
use Rattle.guarantees_writer.proofs.History.{move_as, move_request}
use Rattle.guarantees_writer.proofs.Errors.{AllowedMove, allowed_move}

abbrev pub AllowedPart : Part → Type 0
AllowedPart p = Sound Strict (form_of 0 p)

-- ---- the parts of calls

allowed_request : (l : Request) → AllowedMove (move_as 0 l) → Allowed (form_of 0 (added_by l))
unfolding form_of rule
allowed_request (adds p) a = a
allowed_request (ends e) a = search arith

pub allowed_given : (c : Call) → Given c → Clear (added_by (request_of c)) → AllowedPart (added_by (request_of c))
unfolding form_of
allowed_given c g clear =
    let allowed = allowed_request (request_of c) (rw (move_request c 0) at (allowed_move c 0 g (omega arith))) in
    record { allowed = allowed; spelled = spelled_token Strict _ _ _ _ allowed; text = λ four. is_text_text _ (clear four) }

pub invariant_given : (cs : List Call) → Each Given cs → (n m : ℕ) → ModelInvariant AllowedPart (model_run cs empty_model n m).model
invariant_given cs g n m = invariant_run AllowedPart cs (each_imp Given _ allowed_given cs g) n m

-- ---- a part at its offset

-- references and pointers have the same rule
pub rule_far : (k : ℕ) → 14 ≤ k → 0 < (rule k).lows → rule k ≡ rule 15
unfolding rule
rule_far k far used =
    let most = used_lt k used in
    split k 15 (λ l. let e : k ≡ 14 = omega arith in rw e) (λ l. let e : k ≡ 15 = omega arith in rw e)

module _ (q : ℕ) (p : Part) where
  sound_form : q ≤ LIMIT → AllowedPart p → Sound Strict (form_of q p)
  unfolding form_of rule
  sound_form short f =
      split p.kind 14
      (λ near. let same : form_of 0 p ≡ form_of q p = rw (lt-leb 14 p.kind near) in subst (Sound Strict) same f)
      (λ far. let r = rule_far p.kind far (omega (arith, f.allowed.low)) in
      let allowed : Allowed (form_of q p) = record {
        low = rw r (omega arith);
        most = rw (r, le-leb 14 p.kind far) (omega arith);
        alone = f.allowed.alone;
        count = f.allowed.count;
        sized = let none = rw r at f.allowed.sized in rw r (omega arith);
      } in
      record { allowed = allowed; spelled = spelled_token Strict _ _ _ _ allowed; text = f.text })

  pub target_form : 14 ≤ p.kind → p.number < q → ((form_of q p).n < q) × (q - (form_of q p).n - 1 ≡ p.number)
  unfolding form_of
  target_form far less = rw (le-leb 14 p.kind far) (omega arith, omega arith)

-- ---- a value after others

module _ (before : List ModelValue) where
  abbrev done : List ℕ
  done = starts 0 (values_at 0 before)

  abbrev at : ℕ
  at = end_of before

  has_target_form : (q : ℕ) (p : Part) → Fit AllowedPart before p → at ≤ q → HasTarget done q (form_of q p)
  unfolding form_of
  has_target_form q p f h far =
      let (less, target) = target_form q p far (omega (arith, start_lt before p.number (f.names far))) in
      (less, rw target (f.names far))

  items_fit : (q : ℕ) (ps : List Part) → Each (λ p. Fit AllowedPart before p × (immediate (rule p.kind) ≡ true)) ps → at ≤ q
      → q + length (bytes (forms_of q ps)) ≤ LIMIT → Each (Item Strict) (forms_of q ps) × HasTargets done q (forms_of q ps)
  unfolding forms_of bytes form_of
  items_fit q [] f h short = (tt, tt)
  items_fit q (p ∷ ps) f h short =
      let t = form_of q p in
      let long = length-append (emit t) (bytes (forms_of (q + length (emit t)) ps)) in
      let more = items_fit (q + length (emit t)) ps f.1 (omega arith) (omega arith) in
      ((record { sound = sound_form q p (omega arith) f.0.0.own; immediate = f.0.1 }, more.0), (has_target_form q p f.0.0 h, more.1))

  value_fit : (v : ModelValue) → GoodValue AllowedPart before v → pending_in v ≡ 0 → at + length (bytes (tokens (value_at at v))) ≤ LIMIT
      → Formed Strict (value_at at v) × HasTargets done at (tokens (value_at at v))
  unfolding bytes form_of
  value_fit v g none short =
      let q = at + length (emit (form_of at v.head)) in
      let long = length-append (emit (form_of at v.head)) (bytes (forms_of q v.items)) in
      let items = items_fit q v.items g.items (omega arith) (omega arith) in (
        record {
          head = sound_form at v.head (omega arith) g.head.own;
          items = items.0;
          count = omega (arith, g.taken, pending_form at v.head, length_forms q v.items);
        },
        (has_target_form at v.head g.head (omega arith), items.1),
      )

-- ---- values

finished_values : (before vs : List ModelValue) → Finished AllowedPart before vs → end_of before + length (region (values_at (end_of before) vs)) ≤ LIMIT
    → Each (Formed Strict) (values_at (end_of before) vs) × TargetsEarlier (starts 0 (values_at 0 before)) (end_of before) (values_at (end_of before) vs)
unfolding values_at region
finished_values before [] f short = (tt, tt)
finished_values before (v ∷ vs) f short =
    let s = bytes (tokens (value_at (end_of before) v)) in
    let long = length-append s (region (values_at (end_of before + length s) vs)) in
    let next = ap length (region_snoc before v) ∙ length-append (region (values_at 0 before)) s in
    let here = value_fit before v f.0.0 f.0.1 (omega arith) in
    let more = (rw (next, starts_snoc before v) at (finished_values (before ++ (v ∷ [])) vs f.1)) (omega arith) in
    ((here.0, more.0), (here.1, more.1))

pub invariant_values : (b : Model) → ModelInvariant AllowedPart b → Values Strict (values_at 0 b.finished)
unfolding values_at region starts
invariant_values b k =
    let all = finished_values [] b.finished k.finished (omega (arith, end_le b.finished b.stage, k.short)) in
    record { formed = all.0; targets = all.1 }
