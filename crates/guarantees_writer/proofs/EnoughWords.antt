-- A table of one word less than the output has bytes is always enough: a new writer is refused with FULL only if there is no room either.
--
-- In order: the row of FULL (`full_row`); a writer lists no more starts than it has written bytes (`count_written`); so FULL comes only
-- without room (`enough_words`).
use mathlib.Core.Path.{◌≡◌, refl}
use mathlib.Core.List.{List, [], ◌++◌}
use Prim.Native.Nat.{ℕ, suc, ◌+◌, ◌-◌, ◌≤◌}
use native.Mathlib.Omega.{arith}
use lib.ListN.{length, length-append}
use borrow.Author.Tests.{lt-ltb}
use Rattle.prelude.specs.Answer.{error}
use Rattle.error.specs.Error.{FULL}
use Rattle.token.proofs.Laws.{emit_pos}
use Rattle.values.specs.Values.{region}
use Rattle.values.proofs.Laws.{region_append, length_starts, count_le}
use Rattle.writer_refusal.specs.declared.State.{State}
use Rattle.writer.specs.Call.{Call}
use Rattle.writer.specs.Step.{fresh, step}
use Rattle.writer.specs.Runs.{runs}
use Rattle.guarantees_writer.specs.Model.{part, form_of, Request, adds, ends, request_of, values_at, open_of, delta_of, Model, empty_model}
use Rattle.guarantees_writer.specs.Model.{model_bytes, model_starts}
use Rattle.guarantees_writer.specs.History.{model_run}
use Rattle.guarantees_writer.specs.RefusedCall.{Full, NoRoom, RefusedCall, in_bad_state, closed, owed, text, target, full, room}
use Rattle.guarantees_writer.proofs.Models.{values_append}
use Rattle.guarantees_writer.proofs.History.{runs_lengths, history}
use Rattle.guarantees_writer.proofs.RefusedCall.{refused_call_exactly}

full_row : (l : Request) (s : State) (out table : List ℕ) (f : ℕ) → f ≡ FULL → RefusedCall l s out table f → Full l s (length table)
full_row l s out table f e (in_bad_state _) = absurd (omega arith)
full_row l s out table f e (closed _ _) = absurd (omega arith)
full_row l s out table f e (owed _ _ _) = absurd (omega arith)
full_row l s out table f e (text _ _ _ _) = absurd (omega arith)
full_row l s out table f e (target _ _ _ _ _) = absurd (omega arith)
full_row l s out table f e (full _ _ _ _ _ h) = h
full_row l s out table f e (room _ _ _ _ _ _ _) = absurd (omega arith)

count_written : (b : Model) → length (model_starts b) ≤ length (model_bytes b)
unfolding model_starts model_bytes
count_written b =
    let vs = values_at 0 b.finished in
    let rest = region (values_at (0 + length (region vs)) (open_of b.stage)) in
    rw (values_append 0 b.finished (open_of b.stage), region_append vs (values_at (0 + length (region vs)) (open_of b.stage)))
    (omega (arith, length_starts 0 vs, count_le vs, length-append (region vs) rest, length-append (region vs ++ rest) (delta_of b.stage)))

needs_more : (l : Request) (s : State) (n m : ℕ) → n ≤ suc m → s.count ≤ s.written → Full l s m → NoRoom l s n
needs_more (adds p) s n m long few h = omega (arith, h, emit_pos (form_of s.written p))
needs_more (ends e) s n m long few h =
    rw (lt-ltb 255 (s.written - e - 1) h.0) (omega (arith, h, emit_pos (form_of s.written (part 15 e 0 []))))

pub enough_words : (cs : List Call) (c : Call) (out table : List ℕ) → length out ≤ suc (length table) → let r = runs cs fresh out table in
    (step c r.writer r.out r.table).answer ≡ error FULL → NoRoom (request_of c) r.writer (length out)
enough_words cs c out table long e =
    let r = runs cs fresh out table in
    let b = (model_run cs empty_model (length out) (length table)).model in
    let a = (history cs out table).1 in
    let same = runs_lengths cs fresh out table in
    let row = full_row (request_of c) r.writer r.out r.table FULL refl ((refused_call_exactly c r.writer r.out r.table FULL).0 e) in
    needs_more (request_of c) r.writer (length out) (length table) long (omega (arith, a.count, a.written, count_written b)) (rw same.1 at row)
