-- What a token leaves, as the code computes it: one that fits, and one that is refused.
use mathlib.Core.Path.{◌≡◌, ◌∙◌}
use mathlib.Core.List.{List}
use Prim.Native.Nat.{ℕ, ◌+◌, ◌-◌, ◌≤◌, ◌<◌, ◌^◌}
use native.Mathlib.Omega.{arith}
use lib.Dec.{leb}
use lib.ListN.{length, take, drop, get_or}
use borrow.Rule.Slice.PartMut.{put_mid}
use Rattle.std.specs.Prelude as code
use Rattle.std.specs.Prelude.{is_some, unwrap_or}
use Rattle.prelude.specs.Pick.{pick}
use Rattle.prelude.specs.Answer.{ok, error}
use Rattle.prelude.specs.Bytes.{Put}
use Rattle.prelude.proofs.Parts.{put_at_part, length_part}
use Rattle.error.specs.Error.{number_of}
use Rattle.error.specs.declared.ErrorKind.{ErrorKind}
use Rattle.kind.specs.Kind.{rule}
use Rattle.token.specs.Token.{Token, token, emit}
use Rattle.emit.proofs.Numbers.{is_some_then, emit_second}
use Rattle.writer_refusal.specs.declared.State.{State}
use Rattle.writer.specs.Step.{opens, token_refusal, start_of, Result, result, write, put_token, moved_to, put_moved}
use Rattle.writer.specs.Answers.{wrote}
use Rattle.writer.specs.Internal.{Fits, Advanced}
use Rattle.writer.specs.declared.Fit.{Fit}
use Rattle.writer.proofs.Room.{left_is}
use Rattle.writer.proofs.Accepted.{Accepted, token_inv, token_fits, free_word, room_after, start_lt}

module _ (t : Token) (x : ℕ) (s : State) (out table : List ℕ) where
  module _ (r : Fit) (a : Fits t x s out table r) where
    accepted : Accepted (opens t) t x s out table
    accepted = token_inv (opens t) t x s out table a.accepted

    pub inside : s.written ≤ length out
    inside = omega (arith, room_after (opens t) t x s out table accepted)

    fits_rest : (w : ℕ) → w ≤ s.written → length (emit t) ≤ length (take (length out - w) (drop w out))
    fits_rest w h = rw length_part (omega (arith, room_after (opens t) t x s out table accepted))

    -- what `advance` requires
    pub start_word : start_of s < 2 ^ 32
    start_word = omega (arith, room_after (opens t) t x s out table accepted, start_lt (opens t) t x s out table accepted)

    pub free : s.count < length table
    free = free_word (opens t) t x s out table accepted

    pub end_word : s.written + r.size < 2 ^ 64
    end_word = omega (arith, room_after (opens t) t x s out table accepted, a.size)

    put_ok : (o : List ℕ) (n : ℕ) → Put (emit t) (take (length out - s.written) (drop s.written out)) o n
        → (next : State) (words : List ℕ) → Advanced r s table next words
        → result (ok tt) next (put_mid s.written (length out - s.written) out o) words ≡ put_token t x s out table
    unfolding put_token write
    put_ok o n p next words d =
        rw (
          a.accepted,
          d.state,
          d.listed,
          (put_at_part (emit t) out o s.written n inside p).bytes,
          a.size,
          a.left ∙ left_is s t (length out) (omega (arith, token_fits (opens t) t x s out table accepted)),
        )

  pub put_refused : (a : code.Result (Unit {0}) ErrorKind) (e : ErrorKind) → a ≡ code.Err e → token_refusal (opens t) t x s out table ≡ error (number_of e)
      → wrote a s out table ≡ put_token t x s out table
  unfolding put_token
  put_refused a e i k = rw (i, k)

-- a token as `write` hands it on, with its second number as an `Option`
module _ (k n a : ℕ) (b : List ℕ) (x : ℕ) (s : State) (out table : List ℕ) (r : Fit) (f : Fits (token k n a b) x s out table r) where
  second_same : emit (token k n (unwrap_or r.second 0) b) ≡ emit (token k n a b)
  second_same = rw f.second (emit_second k n a b)

  pub within_room : (w : ℕ) → w ≤ s.written
      → (k < 16) × (is_some r.second ≡ (rule k).args) × (length (emit (token k n (unwrap_or r.second 0) b)) ≤ length (take (length out - w) (drop w out)))
  within_room w h = (f.kind, rw f.second (is_some_then (rule k).args a), rw second_same (fits_rest (token k n a b) x s out table r f w h))

  pub within_ok : (p : List ℕ) (m : ℕ) → Put (emit (token k n (unwrap_or r.second 0) b)) (take (length out - s.written) (drop s.written out)) p m
      → (next : State) (words : List ℕ) → Advanced r s table next words
      → result (ok tt) next (put_mid s.written (length out - s.written) out p) words ≡ put_token (token k n a b) x s out table
  within_ok p m h next words d = put_ok (token k n a b) x s out table r f p m (rw second_same at h) next words d

-- a token that names the offset in word number i of the table
pub puts_moved : (k n a : ℕ) (b : List ℕ) (i x m : ℕ) (s : State) (out table : List ℕ) (r : Result) → x ≡ pick (leb 14 k) (get_or table i 0) 0
    → m ≡ pick (leb 14 k) (s.written - x - 1) n → r ≡ put_token (token k m a b) x s out table → r ≡ put_moved (token k n a b) i s out table
unfolding put_moved moved_to
puts_moved k n a b i x m s out table r named number e = rw (number, named) at e

pub ruleset may_advance = (start_word, free, end_word)
