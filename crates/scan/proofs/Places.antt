-- Where a scanned token is.
--
-- In order: after its header and in its region (`scan_within`); what was emitted at an offset is read there
-- (`scan_at_emit`), and what is read at an offset is what would be emitted there, with the bytes from `first` to `end`
-- as its body (`emit_scan_at`); an item also reads as a value (`scan_at_item`).
use mathlib.Core.Path.{◌≡◌, refl, sym, ap, ◌∙◌}
use Prim.Native.Nat.{ℕ, suc, ◌+◌, ◌-◌, ◌*◌, ◌≤◌, ◌<◌}
use mathlib.Core.Bool.{Bool, true, false}
use mathlib.Core.List.{List, ◌++◌}
use native.Mathlib.Omega.{arith}
use lib.ListN.{length, take, drop, length-drop, length-append}
use lib.Seq.{take-append_seam, drop-append_seam, drop-drop}
use Rattle.prelude.specs.Answer.{Answer, ok, Res, got, bad}
use Rattle.prelude.specs.Bytes.{Bytes}
use Rattle.prelude.proofs.Parts.{bytes_drop}
use Rattle.error.specs.Error.{Fault}
use Rattle.leb128.specs.declared.Mode.{Mode}
use Rattle.kind.specs.Kind.{rule, size, pending}
use Rattle.token.specs.Token.{Token, emit, Fits}
use Rattle.token.specs.Scan.{scan}
use Rattle.token.proofs.Laws.{length_token, drop_emit, scan_emit, emit_scan}
use Rattle.token.proofs.Ends.{Left, scan_left, scan_item, item_pending}
use Rattle.scan.specs.Answers.{head_of, scan_at}
use Rattle.scan.specs.declared.Head.{Head}

-- a head scanned at `at` of the region s: its offsets, that its kind allows its number, and that the body's bytes and,
-- for a kind without a second number, the items are those that the kind has for n
pub record Within (s : List ℕ) (at : ℕ) (h : Head) : Type 0 where
  pub numbers : at < h.first
  pub body : h.first ≤ h.end
  pub end : h.end ≤ length s
  pub items : h.items ≤ suc (length s - h.end)
  pub used : 0 < (rule h.kind).lows
  pub most : h.n ≤ (rule h.kind).most
  pub sized : h.end - h.first ≡ size (rule h.kind) h.n
  pub counted : (rule h.kind).args ≡ false → h.items ≡ (rule h.kind).single + (rule h.kind).each * h.n

seen_bad : {X : Type 0} (len : ℕ) (h : Head) (f : Fault) → ok h ≡ head_of len (bad f) → X
unfolding head_of
seen_bad len h f e = let z : ◌≡◌ {A = ℕ} 0 1 = cc in absurd (omega arith)

within_left : (s : List ℕ) (at : ℕ) (h : Head) (r : Res Fault Token) → ((t : Token) (rest : List ℕ) → r ≡ got t rest → Left (drop at s) t rest)
    → ok h ≡ head_of (length s) r → Within s at h
unfolding head_of
within_left s at h (got t rest) left e =
    let l = left t rest refl in
    let long = length-drop at s in
    let same : h ≡ record {
      kind = t.kind;
      n = t.n;
      items = pending (rule t.kind) t.n t.args;
      first = length s - length rest - length t.body;
      end = length s - length rest;
    } = cc in
    rw same (record {
      numbers = omega (arith, l.after);
      body = omega arith;
      end = omega arith;
      items = omega (arith, l.after, l.count);
      used = l.used;
      most = l.most;
      sized = omega (arith, l.after, l.sized);
      counted = λ f. rw (l.alone f) (omega arith);
    })
within_left s at h (bad f) left e = seen_bad (length s) h f e

pub scan_within : (mode : Mode) (inner : Bool) (s : List ℕ) (at : ℕ) (h : Head) → ok h ≡ scan_at mode inner s at → Within s at h
unfolding scan_at
scan_within mode inner s at h e = within_left s at h (scan mode inner at (drop at s)) (scan_left mode inner at (drop at s)) e

-- a token ends after its offset, in the region
module _ (mode : Mode) (s : List ℕ) (at : ℕ) (h : Head) (read : ok h ≡ scan_at mode false s at) where
  pub token_less : length s - h.end < length s - at
  token_less = let i = scan_within mode false s at h read in omega (arith, i.numbers, i.body, i.end)

  pub token_inside : h.end ≤ length s
  token_inside = (scan_within mode false s at h read).end

seen_items : (len : ℕ) (h : Head) (t : Token) (rest : List ℕ) → ok h ≡ head_of len (got t rest) → h.items ≡ pending (rule t.kind) t.n t.args
unfolding head_of
seen_items len h t rest e = let same = head_of h e in ap (λ (x : Head). x.items) same
  where
    head_of : {g : Head} (h : Head) → ◌≡◌ {A = Answer Fault Head} (ok h) (ok g) → h ≡ g
    head_of h e = cc

-- ---- by what is emitted

-- the head of a token at `at`
abbrev pub head_at : ℕ → Token → Head
head_at at t = record {
  kind = t.kind;
  n = t.n;
  items = pending (rule t.kind) t.n t.args;
  first = at + length (emit t) - length t.body;
  end = at + length (emit t);
}

-- the head of a token at `at`, by the bytes left after it
head_seen : (at len : ℕ) (t : Token) (rest : List ℕ) → len ≡ at + length (emit t) + length rest → head_of len (got t rest) ≡ ok (head_at at t)
unfolding head_of
head_seen at len t rest h =
    let first : len - length rest - length t.body ≡ at + length (emit t) - length t.body = omega arith in
    let end : len - length rest ≡ at + length (emit t) = omega arith in
    λ i. ok (record { kind = t.kind; n = t.n; items = pending (rule t.kind) t.n t.args; first = first i; end = end i })

pub scan_at_emit : (mode : Mode) (inner : Bool) (p : List ℕ) (t : Token) (s : List ℕ) → Fits mode inner t s
    → scan_at mode inner (p ++ (emit t ++ s)) (length p) ≡ ok (head_at (length p) t)
unfolding scan_at
scan_at_emit mode inner p t s f =
    rw (drop-append_seam p (emit t ++ s), scan_emit mode inner (length p) t s f)
    (head_seen (length p) (length (p ++ (emit t ++ s))) t s (simp length-append (omega arith)))

-- what a head that was read at `at` says
pub record Read (mode : Mode) (inner : Bool) (s : List ℕ) (at : ℕ) (h : Head) : Type 0 where
  pub token : Token
  pub rest : List ℕ
  pub same : drop at s ≡ emit token ++ rest
  pub fits : Fits mode inner token rest
  pub head : h ≡ head_at at token
  pub body : take (h.end - h.first) (drop h.first s) ≡ token.body

-- the body's bytes, at a token's offset
pub body_read : (s rest : List ℕ) (at : ℕ) (t : Token) → drop at s ≡ emit t ++ rest
    → take ((head_at at t).end - (head_at at t).first) (drop (head_at at t).first s) ≡ t.body
body_read s rest at t same =
    let long = length_token t in
    let own : (head_at at t).end - (head_at at t).first ≡ length t.body = omega arith in
    let start : (head_at at t).first ≡ at + (length (emit t) - length t.body) = omega arith in
    rw (own, start, ← drop-drop (length (emit t) - length t.body) at s, same, drop_emit t rest) (take-append_seam t.body rest)

pub emit_scan_at : (mode : Mode) (inner : Bool) (s : List ℕ) (at : ℕ) (h : Head) → Bytes s → ok h ≡ scan_at mode inner s at → Read mode inner s at h
unfolding scan_at
emit_scan_at mode inner s at h b e = by_cases (scan mode inner at (drop at s)) refl e
  where
    by_cases : (r : Res Fault Token) → scan mode inner at (drop at s) ≡ r → ok h ≡ head_of (length s) r → Read mode inner s at h
    by_cases (got t rest) q e' =
        let r = emit_scan mode inner at (drop at s) t rest (bytes_drop at s b) q in
        let sum = length-append (emit t) rest in
        let pos = length_token t in
        let all : length s ≡ at + length (emit t) + length rest = omega (arith, ap length r.same, length-drop at s) in
        let head : h ≡ head_at at t = cc (head_seen at (length s) t rest all) in
        record { token = t; rest = rest; same = r.same; fits = r.fits; head = head; body = rw head (body_read s rest at t r.same) }
    by_cases (bad f) q e' = seen_bad _ h f e'

-- ---- items

-- an item also reads as a value, and has no items itself
pub record Item (mode : Mode) (s : List ℕ) (at : ℕ) (h : Head) : Type 0 where
  pub value : ok h ≡ scan_at mode false s at
  pub none : h.items ≡ 0

pub scan_at_item : (mode : Mode) (s : List ℕ) (at : ℕ) (h : Head) → ok h ≡ scan_at mode true s at → Item mode s at h
unfolding scan_at
scan_at_item mode s at h e = by_cases (scan mode true at (drop at s)) refl e
  where
    by_cases : (r : Res Fault Token) → scan mode true at (drop at s) ≡ r → ok h ≡ head_of (length s) r → Item mode s at h
    by_cases (got t rest) q e' = record {
      value = e' ∙ ap (head_of (length s)) (sym (scan_item mode at (drop at s) t rest q));
      none = seen_items (length s) h t rest e' ∙ item_pending mode at (drop at s) t rest q;
    }
    by_cases (bad f) q e' = seen_bad _ h f e'
