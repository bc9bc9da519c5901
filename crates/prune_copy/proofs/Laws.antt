-- Values written again, token by token and value by value.
--
-- In order: the number of a target; one token; the tokens of a value; a value; values.
use mathlib.Core.Path.{◌≡◌, refl, sym, ap, ◌∙◌}
use mathlib.Core.Bool.{Bool, true, false}
use mathlib.Core.List.{List}
use Prim.Native.Nat.{ℕ, suc, ◌+◌, ◌-◌, ◌≤◌, ◌<◌}
use native.Mathlib.Numerals.{add-one}
use native.Mathlib.Omega.{arith}
use lib.Dec.{leb}
use lib.ListN.{length, take, get_or}
use Rattle.prelude.specs.Pick.{pick}
use Rattle.prelude.specs.Answer.{ok, error}
use Rattle.prelude.specs.Search.{rank}
use Rattle.error.specs.Error as errors
use Rattle.error.specs.Error.{LIMIT}
use Rattle.error.specs.declared.Error.{Error}
use Rattle.error.specs.declared.ErrorKind.{ErrorKind}
use Rattle.leb128.specs.declared.Mode.TheVariants.{Strict}
use Rattle.kind.specs.Kind.{rule}
use Rattle.kind.proofs.Laws.{used_lt}
use Rattle.token.specs.Token.{Token, token}
use Rattle.scan.specs.Answers as scans
use Rattle.scan.specs.Answers.{scan_at, body_on}
use Rattle.scan.specs.declared.Head.{Head}
use Rattle.std.specs.Prelude.{Result, Ok, Err}
use Rattle.scan.proofs.Places.{scan_within}
use Rattle.writer_refusal.specs.declared.State.{State}
use Rattle.writer.specs.Step as step
use Rattle.writer.specs.Step.{result, put_moved}
use Rattle.writer.specs.Answers.{wrote}
use Rattle.prune_tokens.specs.Tokens.{heads, heads_of}
use Rattle.prune_tokens.proofs.Heads.{heads_end, heads_error, heads_token}
use Rattle.prune_marks.specs.Marks.{starts_in, marks_in, kept}
use Rattle.prune_marks.proofs.Words.{rank_fits}
use Rattle.prune_copy.specs.Copy.{token_of, and_on, copy_tokens, copy_values}
use Rattle.prune_copy.specs.Internal.{HeadIn}

-- ---- the number of a target

pub number_fits : (t : List ℕ) (x i : ℕ) → i ≡ rank x (starts_in t) → i ≤ length t
number_fits t x i e = omega (arith, rank_fits x t)

-- ---- one token

-- a token without a target is written the same whatever number it is given
moved_any : (t : Token) (k : ℕ) (w : State) (out table : List ℕ) → put_moved t (pick (leb 14 t.kind) k 0) w out table ≡ put_moved t k w out table
unfolding put_moved
moved_any t k w out table = by_cases (leb 14 t.kind) refl
  where
    by_cases : (b : Bool) → leb 14 t.kind ≡ b → put_moved t (pick b k 0) w out table ≡ put_moved t k w out table
    by_cases true e = refl
    by_cases false e = rw e

pub token_copied : (s : List ℕ) (h : Head) (a : ℕ) (b : List ℕ) (j k : ℕ) (w : State) (out table : List ℕ) (r : step.Result)
    → a ≡ pick (rule h.kind).args h.items 0 → b ≡ body_on s h → j ≡ pick (leb 14 h.kind) k 0
    → r ≡ put_moved (token h.kind h.n a b) j w out table → r ≡ put_moved (token_of s h) k w out table
token_copied s h a b j k w out table r ea eb ej e = (rw (ea, eb, ej) at e) ∙ moved_any (token_of s h) k w out table

-- ---- the tokens of a value

module _ (s : List ℕ) (at : ℕ) (r : Result Head Error) (reported : scans.answer_of r ≡ scan_at Strict false s at) (h : Head) (is : r ≡ Ok h) where
  pub head_in : HeadIn s h
  head_in = let w = scan_within Strict false s at h (rw is at reported) in record { kind = used_lt h.kind w.used; body = w.body; end = w.end }

  pub head_before : length s < LIMIT → at < LIMIT
  head_before short = let w = scan_within Strict false s at h (rw is at reported) in omega (arith, w.numbers, w.body, w.end)

-- x is the result that is looked for
module _ (s ss : List ℕ) (ms : List Bool) (end at : ℕ) (w : State) (out table : List ℕ) (x : step.Result)
    (so : copy_tokens s ss ms (heads s end at) w out table ≡ x) where
  pub copy_end : end ≤ at → result (ok tt) w out table ≡ x
  unfolding copy_tokens
  copy_end h = rw (heads_end s end at h) at so

  module _ (more : at < end) (r : Result Head Error) (reported : scans.answer_of r ≡ scan_at Strict false s at) where
    pub copy_error : (f : Error) → r ≡ Err f → result (ok tt) w out table ≡ x
    unfolding copy_tokens
    copy_error f is = let e : scan_at Strict false s at ≡ error (errors.fault_of f) = sym (rw is at reported) in rw (heads_error s end at _ more e) at so

    module _ (h : Head) (is : r ≡ Ok h) (v : Result (Unit {0}) ErrorKind) (next : State) (o t : List ℕ)
        (e : wrote v next o t ≡ put_moved (token_of s h) (kept (take (rank (at - h.n - 1) ss) ms)) w out table) where
      copied : and_on (wrote v next o t) (copy_tokens s ss ms (heads s end h.end)) ≡ x
      unfolding copy_tokens
      copied =
          let read : ok h ≡ scan_at Strict false s at = rw is at reported in
          ap (λ q. and_on q (copy_tokens s ss ms (heads s end h.end))) e ∙ (rw (heads_token s end at h more read) at so)

      pub copy_refused : (f : ErrorKind) → v ≡ Err f → wrote (Err f) next o t ≡ x
      copy_refused f last = rw last at copied

      pub copy_on : (u : Unit {0}) → v ≡ Ok u → copy_tokens s ss ms (heads s end h.end) next o t ≡ x
      copy_on u accepted = rw accepted at copied

-- ---- a value

module _ (s t : List ℕ) (i : ℕ) where
  module _ (b : Bool) (is : b ≡ get_or (marks_in t) i false) (w : State) (out table : List ℕ) (r : step.Result) where
    abbrev value_copied : step.Result
    value_copied = pick (get_or (marks_in t) i false) (copy_tokens s (starts_in t) (marks_in t) (heads_of s (starts_in t) i) w out table) (result (ok tt) w out table)

    pub value_is_copied : b ≡ true → (start end : ℕ) → start ≡ get_or (starts_in t) i 0 → end ≡ get_or (starts_in t) (suc i) (length s)
        → r ≡ copy_tokens s (starts_in t) (marks_in t) (heads s end start) w out table → r ≡ value_copied
    unfolding heads_of
    value_is_copied marked start end e₀ e₁ e = rw (← is, marked, ← e₀, ← e₁) e

-- ---- values

-- a value that is passed over leaves what was there
and_pick : (b : Bool) (r : step.Result) (w : State) (out table : List ℕ) (f : State → List ℕ → List ℕ → step.Result)
    → and_on (pick b r (result (ok tt) w out table)) f ≡ pick b (and_on r f) (f w out table)
and_pick true r w out table f = refl
and_pick false r w out table f = refl

module _ (s ss : List ℕ) (ms : List Bool) (n i : ℕ) (w : State) (out table : List ℕ) (x : step.Result) (so : copy_values s ss ms (n - i) i w out table ≡ x) where
  pub values_end : n ≤ i → result (ok tt) w out table ≡ x
  unfolding copy_values
  values_end h = let none : n - i ≡ 0 = omega arith in rw none at so

  module _ (more : i < n) (v : Result (Unit {0}) ErrorKind) (next : State) (o t : List ℕ)
      (e : wrote v next o t ≡ pick (get_or ms i false) (copy_tokens s ss ms (heads_of s ss i) w out table) (result (ok tt) w out table)) where
    copied_value : and_on (wrote v next o t) (copy_values s ss ms (n - (i + 1)) (i + 1)) ≡ x
    unfolding copy_values
    copied_value =
        let left : n - i ≡ suc (n - (i + 1)) = omega arith in
        ap (λ q. and_on q (copy_values s ss ms (n - (i + 1)) (i + 1))) e
        ∙ and_pick (get_or ms i false) (copy_tokens s ss ms (heads_of s ss i) w out table) w out table (copy_values s ss ms (n - (i + 1)) (i + 1))
        ∙ (rw (left, ← add-one i) at so)

    pub values_refused : (f : ErrorKind) → v ≡ Err f → wrote (Err f) next o t ≡ x
    values_refused f last = rw last at copied_value

    pub values_on : (u : Unit {0}) → v ≡ Ok u → copy_values s ss ms (n - (i + 1)) (i + 1) next o t ≡ x
    values_on u accepted = rw accepted at copied_value
