-- Text is UTF-8: in every file that check accepts, at every refusal with BAD_TEXT, and in every call of the writer.
use mathlib.Core.Path.{◌≡◌, refl, sym, subst, ◌∙◌}
use mathlib.Core.Logic.{◌↔◌, inl}
use mathlib.Core.Bool.{false, true≢false}
use mathlib.Core.List.{List, [], ◌∷◌, ◌++◌}
use Prim.Native.Nat.{ℕ, ◌-◌}
use native.Mathlib.Omega.{arith}
use lib.Dec.{ltb}
use lib.ListN.{length, take}
use borrow.Author.Tests.{not-false}
use Rattle.prelude.specs.Answer.{ok, error}
use Rattle.prelude.specs.Bytes.{Bytes}
use Rattle.prelude.specs.Each.{Each}
use Rattle.prelude.proofs.Lists.{each_append}
use Rattle.error.specs.Error.{Fault, fault, BAD_TEXT}
use Rattle.leb128.specs.declared.Mode.{Mode}
use Rattle.utf8.specs.Text.{is_text}
use Rattle.utf8.specs.Utf8.{Utf8}
use Rattle.utf8.proofs.Utf8.{text_exactly, is_text_exactly}
use Rattle.kind.specs.Kind.{rule}
use Rattle.token.specs.Token.{Token, token}
use Rattle.values.specs.Values.{Value, tokens, Sound, Item, Formed, WellFormed}
use Rattle.checker.specs.Check.{check_of}
use Rattle.writer_refusal.specs.declared.State.{State}
use Rattle.writer.specs.Call.{text}
use Rattle.writer.specs.Step.{step}
use Rattle.guarantees_faults.proofs.Places.{refused_text}
use Rattle.guarantees_writer.specs.Model.{request_of}
use Rattle.guarantees_writer.specs.RefusedCall as refusals
use Rattle.guarantees_writer.specs.RefusedCall.{BadState, RefusedCall}
use Rattle.guarantees_writer.proofs.RefusedCall.{refused_call_exactly}
use Rattle.guarantees_writer.proofs.Calls.{put_by}
use Rattle.guarantees.specs.Refused as rows
use Rattle.guarantees.specs.Refused.{Faulty, RefusedCheck}
use Rattle.guarantees.specs.Texts.{NotUtf8, TextsUtf8}
use Rattle.guarantees.proofs.Accepted.{accepted}
use Rattle.guarantees.proofs.Refused.{numbers, places, fault_first, fault_exactly}
use Rattle.guarantees.proofs.ReadsFile as reads
use Rattle.guarantees.proofs.Demands as demands

-- ---- in a file

token_sound : {mode : Mode} (v : Value) → Formed mode v → (ts : List Token) (t : Token) (us : List Token) → tokens v ≡ ts ++ (t ∷ us) → Sound mode t
token_sound {mode} v f [] t us e = let head : v.head ≡ t = cc in rw (← head) f.head
token_sound {mode} v f (x ∷ ts) t us e =
    let items : v.items ≡ ts ++ (t ∷ us) = cc in
    ((each_append (Item mode) ts (t ∷ us)).0 (subst (Each (Item mode)) items f.items)).1.0.sound

texts_utf8 : {mode : Mode} (file : List ℕ) (vs : List Value) (entry : ℕ) → WellFormed mode file vs entry → TextsUtf8 mode file vs
texts_utf8 file vs entry w j q t st four =
    let formed = reads.formed file vs entry w st.before st.value st.after st.values in
    let sound = token_sound st.value formed st.front t st.back st.tokens in
    ((text_exactly t.body).0 (sound.text four), ((demands.reports_values file vs entry w).body j q t st (inl four)).1)

pub accepted_texts : (mode : Mode) (file : List ℕ) (cap count entry : ℕ) → Bytes file → (check_of mode file cap).answer ≡ ok (count, entry)
    → (vs : List Value) × WellFormed mode file vs entry × TextsUtf8 mode file vs
accepted_texts mode file cap count entry b e =
    let a = accepted file cap count entry b e in
    (a.values, a.well_formed, texts_utf8 file a.values entry a.well_formed)

pub bad_text_exactly : (mode : Mode) (file : List ℕ) (cap p : ℕ) → Bytes file → ((check_of mode file cap).answer ≡ error (fault BAD_TEXT p))
    ↔ ((x : Faulty mode file cap p (fault BAD_TEXT p)) × NotUtf8 mode (take (length file - 1) file) (ltb 0 x.missing) p)
bad_text_exactly mode file cap p b =
    (λ e. by_row ((fault_exactly mode file cap (fault BAD_TEXT p) b).0 e) refl, λ x. fault_first file cap p (fault BAD_TEXT p) x.0)
  where
    At : ℕ × Fault → Type 0
    At z = (x : Faulty mode file cap z.0 z.1) × NotUtf8 mode (take (length file - 1) file) (ltb 0 x.missing) z.0

    by_row : {f : Fault} → RefusedCheck mode file cap f → f ≡ fault BAD_TEXT p → At (p, fault BAD_TEXT p)
    by_row (rows.empty z) q = absurd (omega (arith, numbers q))
    by_row (rows.long l) q = absurd (omega (arith, numbers q))
    by_row (rows.entry u) q = absurd (omega (arith, numbers q))
    by_row (rows.walk {p = at} {f = f} x) q =
        let r = refused_text x.refused (numbers q) in
        let t = r.1 in
        let not : NotUtf8 mode (take (length file - 1) file) (ltb 0 x.missing) at =
        record { header = t.0; number = t.1; body = t.2; whole = t.3; text = t.4; not = λ u. t.5 ((text_exactly t.2).1 u) } in
        let here : at ≡ p = sym r.0 ∙ places q in
        subst At (λ i. (here i, q i)) (x, not)

-- ---- in a call

pub refused_text_exactly : (b : List ℕ) (s : State) (out table : List ℕ) → ((step (text b) s out table).answer ≡ error BAD_TEXT)
    ↔ ((BadState s (length out) (length table) → ⊥) × (s.closed ≡ false) × (Utf8 b → ⊥))
unfolding rule
refused_text_exactly b s out table = (
  λ e. by_row ((refused_call_exactly (text b) s out table BAD_TEXT).0 e) refl,
  λ h.
      (refused_call_exactly (text b) s out table BAD_TEXT).1
      (refusals.text h.0 h.1 (λ o. true≢false o.0) (refl, λ t. h.2 ((text_exactly b).0 t))),
)
  where
    by_row : {f : ℕ} → RefusedCall (request_of (text b)) s out table f → f ≡ BAD_TEXT
        → (BadState s (length out) (length table) → ⊥) × (s.closed ≡ false) × (Utf8 b → ⊥)
    by_row (refusals.in_bad_state x) q = absurd (omega arith)
    by_row (refusals.closed x y) q = absurd (omega arith)
    by_row (refusals.owed x y z) q = absurd (omega arith)
    by_row (refusals.text x y z t) q = (x, y, λ u. t.1 ((text_exactly b).1 u))
    by_row (refusals.target x y z t n) q = absurd (omega arith)
    by_row (refusals.full x y z t n w) q = absurd (omega arith)
    by_row (refusals.room x y z t n w r) q = absurd (omega arith)

pub accepted_text : (b : List ℕ) (s : State) (out table : List ℕ) → (step (text b) s out table).answer ≡ ok tt → Utf8 b
accepted_text b s out table =
    put_by s out table (λ r. Utf8 b) (token 4 (length b) 0 b) 0 (λ a. (is_text_exactly b).0 (not-false (is_text b) a.granted.text))
