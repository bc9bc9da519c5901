-- What becomes of a token, by what the code finds about its text and its target: it is accepted, or refused for the first reason of its flags.
use mathlib.Core.Path.{◌≡◌, refl, sym, ◌∙◌}
use mathlib.Core.Bool.{Bool, true, false, not, ◌&&◌}
use mathlib.Core.List.{List}
use Prim.Native.Nat.{ℕ, ◌+◌, ◌-◌, ◌≤◌, ◌<◌}
use native.Mathlib.Omega.{arith}
use lib.Dec.{eqb, ltb, leb}
use lib.ListN.{length}
use borrow.Author.Tests.{leb-true, ne_eqb}
use Rattle.std.specs.Prelude.{Option, Result, Ok, Err}
use Rattle.std.specs.Bool.{then_some}
use Rattle.error.specs.Error.{LIMIT}
use Rattle.error.specs.declared.ErrorKind.{ErrorKind}
use Rattle.utf8.specs.Text.{is_text}
use Rattle.kind.specs.Kind.{rule, pending, due}
use Rattle.kind.specs.declared.Rule.{Rule}
use Rattle.token.specs.Token.{Token, token, put_if, emit}
use Rattle.token.proofs.Laws.{length_emit}
use Rattle.writer_refusal.specs.Refusal.{limit, room, is_listed, Verdict, is_ok, refusal_of}
use Rattle.writer_refusal.specs.declared.State.{State}
use Rattle.writer_refusal.specs.declared.CallFlags.{CallFlags}
use Rattle.writer_refusal.proofs.Refusals.{sound, refusal_same, ok_of_is_ok, refusal_short}
use Rattle.writer.specs.Step.{opens, bytes_needed, token_flags, token_refusal}
use Rattle.writer.specs.Internal.{ListedTest, IfElse, ArgumentTest, token_flags_by, Fits, FitOf}
use Rattle.writer.specs.Answers.{answer_of}
use Rattle.writer.specs.declared.Fit.{Fit}
use Rattle.writer.proofs.Room.{room_limit}

not_four : (k : ℕ) → leb 14 k ≡ true → eqb k 4 ≡ false
not_four k e = ne_eqb k 4 (λ q. omega (arith, leb-true 14 k e))

module _ (g : Bool) (k : ℕ) (b : List ℕ) (x : ℕ) (s : State) (table : List ℕ) (h : ArgumentTest g k b x s table) where
  argument_text : eqb k 4 && not g ≡ eqb k 4 && not (is_text b)
  argument_text = by_cases (leb 14 k) (eqb k 4) (not_four k) h
    where
      by_cases : (c d : Bool) → (c ≡ true → d ≡ false) → IfElse c (ListedTest g x s table) (IfElse d (g ≡ is_text b) (g ≡ true))
          → d && not g ≡ d && not (is_text b)
      by_cases true d f h = rw (f refl)
      by_cases false true f h = rw h
      by_cases false false f h = refl

  argument_target : s.written ≤ LIMIT → s.count ≤ length table → leb 14 k && not g ≡ leb 14 k && not (is_listed s table x)
  argument_target w c = by_cases (leb 14 k) h
    where
      by_cases : (c : Bool) → IfElse c (ListedTest g x s table) (IfElse (eqb k 4) (g ≡ is_text b) (g ≡ true)) → c && not g ≡ c && not (is_listed s table x)
      by_cases true h = rw (h w c)
      by_cases false h = refl

module _ (t : Token) (x : ℕ) (s : State) (out table : List ℕ) (g : Bool) (h : ArgumentTest g t.kind t.body x s table) where
  flags_same : refusal_of (token_flags_by (rule t.kind) t.kind g) (ltb (room s (length out)) (bytes_needed t s)) s (length out) (length table)
      ≡ token_refusal (opens t) t x s out table
  unfolding token_refusal
  flags_same =
      refusal_same (token_flags_by (rule t.kind) t.kind g) (token_flags (opens t) t x s table) _ s (length out) (length table) (λ e. let d = sound s _ _ e in
      λ i. record {
        alone = opens t;
        nontext = argument_text g t.kind t.body x s table h i;
        unlisted = argument_target g t.kind t.body x s table h d.short d.listed i;
        adds = true;
      })

-- what `fit` returns, by what it learns of the flags, the size, the items left, and the answer
module _ (k n a : ℕ) (b : List ℕ) (x : ℕ) (s : State) (out table : List ℕ) (g : Bool) (row : Rule) (q : CallFlags) (size left : ℕ)
    (r : row ≡ rule k) (h : ArgumentTest g k b x s table) (i : q ≡ token_flags_by row k g)
    (z : size ≡ 1 + length (put_if (leb 15 n) (n - 15)) + length (put_if row.args a) + length b)
    (l : left ≡ due s.pending (limit (pending row n a))) where
  abbrev asked : Token
  asked = token k n a b

  size_is : size ≡ length (emit asked)
  size_is = z ∙ rw (r, length_emit k n a b)

  refusal_is : refusal_of q (ltb (room s (length out)) (size + left)) s (length out) (length table) ≡ token_refusal (opens asked) asked x s out table
  refusal_is = rw (i, size_is, l, r, room_limit s asked (length out)) (flags_same asked x s out table g h)

  module _ (may : Bool) (m : may ≡ is_ok (refusal_of q (ltb (room s (length out)) (size + left)) s (length out) (length table))) where
    pub fits : k < 16 → may ≡ true → (o : Option ℕ) → o ≡ then_some row.args a
        → Fits asked x s out table (record { second = o; size = size; left = left })
    fits small e o y = record {
      kind = small;
      accepted = sym refusal_is ∙ ok_of_is_ok _ (sym m ∙ e);
      second = rw (y, r);
      size = size_is;
      left = rw (l, r);
    }

    pub refused : may ≡ false → (v : Verdict) → v ≡ refusal_of q true s (length out) (length table) → token_refusal (opens asked) asked x s out table ≡ v
    refused e v k = sym refusal_is ∙ sym (k ∙ refusal_short _ _ s _ _ (sym m ∙ e))

  abbrev fitted : Result (Unit {0}) ErrorKind → Fit → Result Fit ErrorKind
  fitted (Ok u) f = Ok f
  fitted (Err e) f = Err e

  -- both at once, by the answer
  pub fit_is : k < 16 → (answer : Result (Unit {0}) ErrorKind)
      → answer_of answer ≡ refusal_of q (ltb (room s (length out)) (size + left)) s (length out) (length table)
      → FitOf asked x s out table (fitted answer (record { second = then_some row.args a; size = size; left = left }))
  fit_is small (Ok u) f = record {
    kind = small;
    accepted = sym refusal_is ∙ sym f;
    second = rw r refl;
    size = size_is;
    left = rw (l, r);
  }
  fit_is small (Err e) f = sym refusal_is ∙ sym f
