-- A token in a region, by the bytes before it and after it.
--
-- In order: its body; the value on its head is what the pages say (`value_on_token`); it is looked at (`peek_emit`),
-- and so are items one after the other (`walk_emit`).
use mathlib.Core.Path.{◌≡◌, refl, sym, subst}
use mathlib.Core.Bool.{Bool, true, false}
use mathlib.Core.List.{List, [], ◌∷◌, ◌++◌, append_assoc}
use Prim.Native.Nat.{ℕ, suc, ◌+◌, ◌-◌, ◌*◌, ◌≤◌, ◌<◌}
use native.Mathlib.Nat.{add-zero}
use native.Mathlib.Omega.{arith}
use lib.Dec.{eqb}
use lib.ListN.{length, drop, length-append}
use lib.Seq.{take_at, drop-append_seam, drop-drop}
use borrow.Author.Tests.{le-leb, lt-leb, eqb-false}
use Rattle.prelude.specs.Pick.{pick}
use Rattle.prelude.specs.Answer.{ok, bind}
use Rattle.prelude.specs.Each.{Each}
use Rattle.prelude.proofs.Tests.{pick_cong, split, facts}
use Rattle.prelude.proofs.Tables.{SameRow, same_row}
use Rattle.prelude.proofs.Readers.{bind_ok}
use Rattle.leb128.specs.declared.Mode.{Mode}
use Rattle.little_endian.specs.LittleEndian.{from_little, load}
use Rattle.kind.specs.Kind.{rule, size}
use Rattle.token.specs.Token.{Token, emit, Allowed, Fits}
use Rattle.token.proofs.Laws.{length_token, drop_emit}
use Rattle.scan.specs.declared.Head.{Head}
use Rattle.scan.proofs.Places.{head_at, scan_at_emit}
use Rattle.values.specs.Values.{bytes, Item, HasTargets}
use Rattle.values.proofs.Laws.{fits_item}
use Rattle.reader_region.specs.Region.{below, peek_in}
use Rattle.reader_value.specs.Value.{float, value_rows, value_on}
use Rattle.reader_value.specs.declared.Value.TheVariants.{Null, Float32, Float64}
use Rattle.reader_items.specs.Items.{skip_items}
use Rattle.guarantees.specs.TokenValues.{token_end, token_rows, value_of_token}

-- ---- the body

pub drop_body : (p : List ℕ) (t : Token) (s : List ℕ) → drop (token_end (length p) t - length t.body) (p ++ (emit t ++ s)) ≡ t.body ++ s
drop_body p t s =
    let long = length_token t in
    let start : token_end (length p) t - length t.body ≡ length p + (length (emit t) - length t.body) = omega arith in
    rw (start, ← drop-drop (length (emit t) - length t.body) (length p) (p ++ (emit t ++ s)), drop-append_seam p (emit t ++ s)) (drop_emit t s)

pub body_len : (q : ℕ) (t : Token) → (head_at q t).end - (head_at q t).first ≡ length t.body
body_len q t = omega (arith, length_token t)

bits_front : (k : ℕ) (b s : List ℕ) → length b ≡ k → load k (b ++ s) ≡ from_little b
unfolding load
bits_front k b s e = let there : k ≤ length (b ++ s) = omega (arith, length-append b s) in rw (le-leb _ _ there, take_at b s k e)

-- ---- the value on its head

module _ (p : List ℕ) (t : Token) (s : List ℕ) (f : Allowed t) where
  abbrev head : Head
  head = head_at (length p) t

  float_is : t.kind ≡ 3 → float (p ++ (emit t ++ s)) head ≡ pick (eqb t.n 0) (Float32 (from_little t.body)) (Float64 (from_little t.body))
  unfolding rule
  float_is e =
      let sized : length t.body ≡ 4 + 4 * t.n = rw e at f.sized in
      let most : t.n ≤ 1 = rw e at f.most in
      rw (drop_body p t s)
      (pick_cong (eqb t.n 0) (λ z. rw (bits_front 4 t.body s (omega facts)))
      (λ z. let one : t.n ≡ 0 → ⊥ = eqb-false t.n 0 z in rw (bits_front 8 t.body s (omega arith))))

  -- for kinds without a body, the items start where the token ends
  bare : (k : ℕ) → (rule k).fixed ≡ 0 → (rule k).scale ≡ 0 → t.kind ≡ k → head.first ≡ token_end (length p) t
  bare k fixed scale e =
      let sized : length t.body ≡ size (rule k) t.n = rw e at f.sized in
      omega (arith, rw (fixed, scale) at sized)

  -- for kinds without a second number, n counts the items
  counts : (k : ℕ) → (rule k).args ≡ false → (rule k).single ≡ 0 → t.kind ≡ k → head.items ≡ (rule k).each * t.n
  counts k one single e = let none : t.args ≡ 0 = f.alone (rw e one) in rw (e, single) (omega arith)

  same_rows : SameRow t.kind Null (value_rows (p ++ (emit t ++ s)) (length p) head) (token_rows (length p) t)
  unfolding rule
  same_rows =
      same_row 3 float_is
      (same_row 4 (λ e. rw (body_len (length p) t))
      (same_row 5 (λ e. rw (body_len (length p) t))
      (same_row 6 (λ e. let one : 1 * t.n ≡ t.n = omega arith in rw (bare 6 refl refl e, counts 6 refl refl e, one))
      (same_row 7 (λ e. rw (bare 7 refl refl e, counts 7 refl refl e))
      (same_row 8 (λ e. rw (bare 8 refl refl e))
      (same_row 11 (λ e. rw (bare 11 refl refl e))
      (same_row 12 (λ e. let args : head.items ≡ t.args = rw e (omega arith) in rw (bare 12 refl refl e, args))
      (record { row = refl }))))))))

  pub value_on_token : value_on (p ++ (emit t ++ s)) (length p) head ≡ value_of_token (length p) t
  unfolding value_on value_of_token
  value_on_token = same_rows.row

-- ---- how it is looked at

not_below : (q : ℕ) (t : Token) → (14 ≤ t.kind → t.n < q) → below q (head_at q t) ≡ false
not_below q t targeted = split t.kind 14 (λ l. rw (lt-leb 14 t.kind l)) (λ l. rw (le-leb 14 t.kind l, lt-leb q t.n (targeted l)))

pub peek_emit : {mode : Mode} (inner : Bool) (p : List ℕ) (t : Token) (s : List ℕ) → Fits mode inner t s → (14 ≤ t.kind → t.n < length p)
    → ok (head_at (length p) t) ≡ peek_in mode inner (p ++ (emit t ++ s)) (length p)
unfolding peek_in
peek_emit {mode} inner p t s f targeted = bind_ok _ (sym (scan_at_emit mode inner p t s f)) (rw (not_below (length p) t targeted))

-- as many items as ts are, of ts and more
pub walk_emit : (mode : Mode) (done p : List ℕ) (ts us : List Token) (s : List ℕ) → Each (Item mode) (ts ++ us) → HasTargets done (length p) (ts ++ us)
    → skip_items mode (p ++ (bytes (ts ++ us) ++ s)) (length ts) (length p) ≡ ok (length p + length (bytes ts))
unfolding skip_items bytes bind
walk_emit mode done p [] us s i targeted = rw add-zero
walk_emit mode done p (t ∷ ts) us s i targeted =
    let long = length-append p (emit t) in
    let more = walk_emit mode done (p ++ emit t) ts us s i.1 (rw long targeted.1) in
    let sum : length p + (length (emit t) + length (bytes ts)) ≡ length p + length (emit t) + length (bytes ts) = omega arith in
    let peeked = peek_emit true p t (bytes (ts ++ us) ++ s) (fits_item t i.0 _) (λ k. (targeted.0 k).0) in
    let whole : bytes ((t ∷ ts) ++ us) ++ s ≡ emit t ++ (bytes (ts ++ us) ++ s) = append_assoc (emit t) (bytes (ts ++ us)) s in
    subst (λ b. skip_items mode (p ++ b) (suc (length ts)) (length p) ≡ ok (length p + length (bytes (t ∷ ts)))) (sym whole)
    (rw (← peeked, length-append (emit t) (bytes ts), sum) (rw (long, append_assoc p (emit t) (bytes (ts ++ us) ++ s)) at more))
