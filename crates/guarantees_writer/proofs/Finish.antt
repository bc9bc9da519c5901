-- An open value can always be finished.
--
-- In order: the open value takes an immediate that has room (`item_taken`); immediates of one byte, which finish
-- a value from any point on (`finishable`), and from its opening on (`opening_finishable`).
use mathlib.Core.Path.{◌≡◌, refl, sym, ◌∙◌, subst}
use mathlib.Core.Bool.{true, false}
use mathlib.Core.List.{List, [], ◌∷◌}
use Prim.Native.Nat.{ℕ, suc, ◌+◌, ◌<◌}
use native.Mathlib.Omega.{arith}
use lib.Dec.{eqb}
use lib.ListN.{length}
use borrow.Author.Tests.{eqb-true, leb-true, le-ltb, ne_eqb}
use Rattle.prelude.specs.Answer.{ok}
use Rattle.prelude.specs.Each.{Each}
use Rattle.prelude.proofs.Tests.{unless}
use Rattle.kind.specs.Kind.{rule, due}
use Rattle.token.specs.Token.{Token, token, put_if, emit}
use Rattle.writer_refusal.specs.Refusal.{room}
use Rattle.writer_refusal.specs.declared.State.{State}
use Rattle.writer.specs.Call.{Call, scalar}
use Rattle.writer.specs.Step.{scalar_of, puts, move_of, opens, pending_of, bytes_needed, Result, start_of, write, put_token, step}
use Rattle.writer.specs.Runs.{runs}
use Rattle.writer.specs.declared.Scalar.{Scalar}
use Rattle.writer.specs.declared.Scalar.TheVariants.{False, True, Null}
use Rattle.writer.proofs.Accepted.{start_of_new, Accepted, token_ok}
use Rattle.guarantees_writer.specs.OneCall.{FinishesNone, Finishes, Pending, NextItem, TookItem, OneByte, left, FinishedBy}
use Rattle.guarantees_writer.proofs.Calls.{put_by}
use Rattle.guarantees_writer.proofs.Results.{write_more, write_last, write_open}

-- ---- one item

module _ (k : ℕ) (s : State) (out table : List ℕ) (o : Pending (suc k) s out table) where
  some : eqb s.pending 0 ≡ false
  some = ne_eqb s.pending 0 (λ e. omega (arith, o.items))

  due_is : (own : ℕ) → due s.pending own ≡ k
  due_is own = rw some (omega (arith, o.items))

  start_is : start_of s ≡ s.start
  start_is = rw some

  item_accepted : (t : Token) (target : ℕ) → NextItem k t target s out table → Accepted (opens t) t target s out table
  item_accepted t target i = record {
    granted = record {
      good = o.good;
      unclosed = o.unclosed;
      alike = rw i.immediate;
      text = unless _ _ (λ e. i.text (eqb-true _ _ e));
      target = unless _ _ (λ e. i.aim (leb-true _ _ e));
      word = rw some;
      fits = le-ltb (room s (length out)) (bytes_needed t s) (rw (due_is (pending_of t)) i.fits);
    };
  }

-- an open value takes any immediate that has room
pub item_taken : (k : ℕ) (c : Call) (t : Token) (target : ℕ) (s : State) (out table : List ℕ) → Pending (suc k) s out table
    → move_of c s.written ≡ puts t target → NextItem k t target s out table → TookItem k (length (emit t)) s table (step c s out table)
unfolding put_token write
item_taken k c t target s out table o e i =
    let r = write t s out table in
    let a = item_accepted k s out table o t target i in
    let left = due_is k s out table o (pending_of t) in
    let start = start_is k s out table o in
    rw (e, token_ok (opens t) t target s out table a) (record {
      answer = refl;
      written = refl;
      start = start;
      after = subst (λ n. Pending n r.writer r.out r.table) left (write_open _ t target s out table a);
      more = λ h. write_more _ t target s out table a (rw left h);
      last = λ z. subst (λ x. Finishes x s table r) start (write_last _ t target s out table a (left ∙ z));
    })

-- ---- items of one byte

pub scalar_one : (x : Scalar) → OneByte (scalar x)
unfolding emit put_if rule
scalar_one x = record {
  item = token 0 (scalar_of x) 0 [];
  always = λ w. refl;
  immediate = refl;
  text = λ e. absurd (omega arith);
  aim = omega arith;
  byte = one x;
}
  where
    one : (x : Scalar) → length (emit (token 0 (scalar_of x) 0 [])) ≡ 1
    one False = refl
    one True = refl
    one Null = refl

one_taken : (k : ℕ) (c : Call) (s : State) (out table : List ℕ) → Pending (suc k) s out table → OneByte c → TookItem k 1 s table (step c s out table)
one_taken k c s out table o b =
    subst (λ n. TookItem k n s table (step c s out table)) b.byte
    (item_taken k c b.item 0 s out table o (b.always s.written) (record {
      immediate = b.immediate;
      text = b.text;
      aim = λ h. absurd (omega (arith, b.aim));
      fits = omega (arith, b.byte, o.room);
    }))

-- an open value that stays open is finished later
finishes_then : (x : ℕ) (s : State) (table : List ℕ) (r q : Result) → FinishesNone s table r → r.writer.start ≡ x
    → Finishes r.writer.start r.writer r.table q → Finishes x s table q
finishes_then x s table r q n e f = record {
  none = f.none;
  count = rw n.count at f.count;
  words = rw (n.count, n.words, e) at f.words;
  listed = rw (n.count, e) at f.listed;
}

-- a value is finished by what a call leaves, and not by its answer
finishes_left : (x : ℕ) (s : State) (table : List ℕ) (r : Result) → Finishes x s table r → Finishes x s table (left [] r)
unfolding runs
finishes_left x s table r f = record { none = f.none; count = f.count; words = f.words; listed = f.listed }

-- an open value is finished by calls of one byte, as many as it has items pending
pub finishable : (cs : List Call) (r : Result) → 0 < length cs → Pending (length cs) r.writer r.out r.table → Each OneByte cs
    → FinishedBy cs r.writer.start (r.writer.written + length cs) r.writer r.table r
unfolding runs
finishable [] r h o b = absurd (omega arith)
finishable (c ∷ []) r h o b =
    let t = one_taken 0 c r.writer r.out r.table o b.0 in
    record { accepted = (t.answer, tt); finishes = finishes_left _ _ _ (step c r.writer r.out r.table) (t.last refl); written = t.written }
finishable (c ∷ d ∷ cs) r h o b =
    let t = one_taken (suc (length cs)) c r.writer r.out r.table o b.0 in
    let f = finishable (d ∷ cs) (step c r.writer r.out r.table) (omega arith) t.after b.1 in
    record {
      accepted = (t.answer, f.accepted);
      finishes = finishes_then _ _ _ _ _ (t.more (omega arith)) t.start f.finishes;
      written = omega (arith, f.written, t.written);
    }

opened : (t : Token) (target : ℕ) (s : State) (out table : List ℕ) → Accepted true t target s out table
    → (cs : List Call) → length cs ≡ (write t s out table).writer.pending → Each OneByte cs
    → FinishedBy cs s.written (s.written + length (emit t) + length cs) s table (write t s out table)
unfolding write runs
opened t target s out table a [] l b = record {
  accepted = tt;
  finishes = finishes_left _ s table (write t s out table)
      (subst (λ x. Finishes x s table (write t s out table)) (start_of_new s a.granted.alike) (write_last true t target s out table a (sym l)));
  written = omega arith;
}
opened t target s out table a (c ∷ cs) l b =
    let r = write t s out table in
    let o = subst (λ n. Pending n r.writer r.out r.table) (sym l) (write_open true t target s out table a) in
    let f = finishable (c ∷ cs) r (omega arith) o b in
    record {
      accepted = f.accepted;
      finishes = finishes_then _ _ _ _ _ (write_more true t target s out table a (omega arith)) (start_of_new s a.granted.alike) f.finishes;
      written = f.written;
    }

-- so is a value from its opening t on; its start, which is then listed, is where the opening was written
pub opening_finishable : (c : Call) (t : Token) (target : ℕ) (s : State) (out table : List ℕ) → move_of c s.written ≡ puts t target
    → opens t ≡ true → (step c s out table).answer ≡ ok tt
    → (cs : List Call) → length cs ≡ (step c s out table).writer.pending → Each OneByte cs
    → FinishedBy cs s.written (s.written + length (emit t) + length cs) s table (step c s out table)
opening_finishable c t target s out table e z =
    rw e (put_by s out table
    (λ r. (cs : List Call) → length cs ≡ r.writer.pending → Each OneByte cs
    → FinishedBy cs s.written (s.written + length (emit t) + length cs) s table r)
    t target (λ a. opened t target s out table (subst (λ b. Accepted b t target s out table) z a)))
