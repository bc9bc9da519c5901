-- The demands as theorems: each is one record of specs/Demands.antt, whose fields are the demand's sentences in their order, and each field is a citation.
-- docs/GUARANTEES.md quotes these statements and records, and reads them aloud.
--
-- After the three demands, what says more than they do: the answers of check and depths (in at most one way, and which refusal when); what a query
-- answers, and what it is refused for, on every file, lookup also by the other queries; text; one call of the writer in any state; lists of calls from any
-- writer that follows a model, in C and by their parts, and an open value finished; longer memory, and how many words are enough; paths; what all of this
-- rests on (code points, numbers and tokens there and back); the papers' samples.
use mathlib.Core.Path.{◌≡◌}
use mathlib.Core.Bool.{Bool, true, false}
use mathlib.Core.Logic.{◌⊎◌, ◌↔◌}
use mathlib.Core.Option.{some}
use mathlib.Core.List.{List, [], ◌∷◌, ◌++◌, map, Memᴰ}
use Prim.Native.Nat.{ℕ, suc, ◌+◌, ◌-◌, ◌*◌, ◌/◌, ◌^◌, ◌≤◌, ◌<◌}
use lib.Dec.{ltb}
use lib.ListN.{length, take, get_or}
use Rattle.prelude.specs.Answer.{ok, error, got}
use Rattle.prelude.specs.Bytes.{Bytes}
use Rattle.prelude.specs.Each.{Each}
use Rattle.error.specs.Error.{Fault, fault, LIMIT, EMPTY, TOO_LONG, BAD_TEXT, FULL, BAD_ENTRY, NO_ITEM}
use Rattle.leb128.specs.Leb.{top, put, pad, Spells, Begins, get}
use Rattle.leb128.proofs.Laws as leb128
use Rattle.leb128.proofs.Spellings as spellings
use Rattle.leb128.proofs.Padding as padding
use Rattle.leb128.specs.declared.Mode.{Mode}
use Rattle.leb128.specs.declared.Mode.TheVariants.{Strict, Tolerant}
use Rattle.little_endian.specs.LittleEndian.{from_little}
use Rattle.utf8_plain.specs.Plain.{Plain, plain_front, are_plain}
use Rattle.utf8_plain.proofs.Laws as plain
use Rattle.utf8.specs.Text.{Text, is_text}
use Rattle.utf8.specs.Utf8.{Encodable, Row, utf8_rows, octets, encode, utf8, FitsRow, Utf8, decode}
use Rattle.utf8.proofs.Laws as text-laws
use Rattle.utf8.proofs.Utf8 as utf8-laws
use Rattle.kind.specs.Kind.{rule, size, counted}
use Rattle.token.specs.Token.{Token, emit, Fits}
use Rattle.token.specs.Scan.{scan}
use Rattle.token.proofs.Laws.{Scanned}
use Rattle.token.proofs.Laws as token
use Rattle.scan.specs.Answers.{scan_at}
use Rattle.scan.specs.declared.Head.{Head}
use Rattle.values.specs.Values.{Value, bytes, starts, WellFormed}
use Rattle.values.specs.Paths.{Refers, Leads}
use Rattle.values.proofs.Unique as unique
use Rattle.values.proofs.Modes as modes
use Rattle.values.proofs.Leads as leads
use Rattle.reader_region.specs.Region.{peek_of}
use Rattle.reader_value.specs.Value.{value_on, read_of}
use Rattle.reader_value.specs.declared.Value.{Value as ReadValue}
use Rattle.reader_items.specs.Items.{skip_of, item_of}
use Rattle.reader_follow.specs.Follow.{follow_of}
use Rattle.reader_body.specs.Body.{body_place_of}
use Rattle.reader_lookup.specs.Lookup.{lookup_of}
use Rattle.checker_value.specs.Walk.{next_token}
use Rattle.checker.specs.Check.{check_of}
use Rattle.depths.specs.Depths.{depths_of}
use Rattle.writer_refusal.specs.declared.State.{State}
use Rattle.writer.specs.Call.{Call, text}
use Rattle.writer.specs.Step.{puts, move_of, fresh, opens, step}
use Rattle.writer.specs.Runs.{runs}
use Rattle.writer.proofs.Refused as writer
use Rattle.abi_writer.specs.Calls.{writer_of, words_of, number_c, runs_c}
use Rattle.guarantees_modes.specs.Modes.{IsOverlong, ModesAgree}
use Rattle.guarantees_modes.proofs.Theorems as both
use Rattle.guarantees_faults.specs.Faults.{Exceeds, Counted, RefusedHead, HasPlace, RefusedToken}
use Rattle.guarantees_faults.specs.Queries.{AnsweredQuery, Read, head_of, Skips, HasItem, Reaches, HasBody, Finds}
use Rattle.guarantees_faults.specs.Queries.{RefusedQuery, RefusedRead, RefusedSkip, RefusedItem, RefusedFollow, RefusedBody, RefusedLookup}
use Rattle.guarantees_faults.proofs.Shortages as shortages
use Rattle.guarantees_faults.proofs.Heads as heads
use Rattle.guarantees_faults.proofs.Refused as faults
use Rattle.guarantees_faults.proofs.Places as places
use Rattle.guarantees_faults.proofs.Queries as queries
use Rattle.guarantees_faults.proofs.Lookups as lookup-queries
use Rattle.guarantees.specs.Accepts.{Overfull}
use Rattle.guarantees.specs.Refused.{Unnamed, Faulty, RefusedCheck, RefusedDepths}
use Rattle.guarantees.specs.Texts.{NotUtf8, TextsUtf8}
use Rattle.guarantees.specs.Lookup.{Found, Missing}
use Rattle.guarantees.specs.Errors.{NeverOverlong}
use Rattle.guarantees.specs.Samples.{Answered, samples, end_samples, text_samples, padded_samples, overlong_samples, range_samples}
use Rattle.guarantees.specs.Samples.{TextCall, text_answer, text_calls}
use Rattle.guarantees_writer.specs.Model.{request_of, forms_of, delta_of, Model, empty_model}
use Rattle.guarantees_writer.specs.RefusedCall.{BadState, NoRoom, RefusedCall}
use Rattle.guarantees_writer.specs.History.{model_run, Agree, Follows, Alike}
use Rattle.guarantees_writer.specs.AcceptedParts.{accepted_parts}
use Rattle.guarantees_writer.specs.Longer.{MemoryAnswer, longer, Stretch, runs_growing, calls_in, bytes_in, words_in, accepted_of, Leaves, model_growing}
use Rattle.guarantees_writer.specs.Written.{writes, expects, written}
use Rattle.guarantees_writer.specs.OneCall.{Writes, Only, Finishing, OneByte, FinishedBy}
use Rattle.guarantees.specs.Demands.{Demand1, Demand2, Demand3}
use Rattle.guarantees.proofs.Accepted as accepted
use Rattle.guarantees.proofs.Padded as padded
use Rattle.guarantees.proofs.Full as full
use Rattle.guarantees.proofs.Refused as refused
use Rattle.guarantees.proofs.ReadErrors as errors
use Rattle.guarantees_writer.proofs.Errors as write-errors
use Rattle.guarantees.proofs.Items as items
use Rattle.guarantees.proofs.Lookups as lookups
use Rattle.guarantees.proofs.AcceptedPaths as path-facts
use Rattle.guarantees.proofs.Depths as depths
use Rattle.guarantees.proofs.Samples as sampled
use Rattle.guarantees_writer.proofs.Finish as finishes
use Rattle.guarantees_writer.proofs.Calls as single
use Rattle.guarantees_writer.proofs.RefusedCall as refusals
use Rattle.guarantees_writer.proofs.AcceptedCall as accepted-call
use Rattle.guarantees_writer.proofs.History as calls
use Rattle.guarantees_writer.proofs.AcceptedParts as parts
use Rattle.guarantees_writer.proofs.Longer as memory
use Rattle.guarantees_writer.proofs.EnoughWords as words
use Rattle.guarantees.proofs.CallValues as call-values
use Rattle.guarantees.proofs.Texts as texts
use Rattle.guarantees.proofs.Demands as demands
use Rattle.guarantees_writer.proofs.Written as lists

-- ---- the demands

pub demand_1 : Demand1
demand_1 = record {
  numbered = record {
    check = errors.errors_of_check;
    depths = errors.depths_errors_known;
    peek = errors.errors_of_peek;
    read = errors.errors_of_read;
    skip = errors.errors_of_skip;
    item = errors.errors_of_item;
    follow = errors.errors_of_follow;
    lookup = errors.errors_of_lookup;
    body = errors.errors_of_body;
    write = write-errors.error_known;
  };
  unchanged = writer.refused_same;
  check_zero = full.refused_zero;
  depths_zero = depths.zeros_of_depths;
  no_item = items.item_missing;
}

pub demand_2 : Demand2
demand_2 = record { accepts = accepted.accepts_exactly; reports = λ mode. demands.reports_values; rewrites = demands.rewrites }

pub demand_3 : Demand3
demand_3 = record { list = demands.after_calls; values = call-values.part_of_call; paths = λ mode. path-facts.accepted_paths }

-- ---- check's answers

pub one_reading : {mode : Mode} (file : List ℕ) (vs ws : List Value) (e f : ℕ) → WellFormed mode file vs e → WellFormed mode file ws f → (vs ≡ ws) × (e ≡ f)
one_reading = unique.one_reading

pub well_formed_of_strict : (mode : Mode) {file : List ℕ} {vs : List Value} {entry : ℕ} → WellFormed Strict file vs entry → WellFormed mode file vs entry
well_formed_of_strict = modes.well_formed_of_strict

pub strict_or_overlong : (file : List ℕ) (vs : List Value) (entry : ℕ) → Bytes file → WellFormed Tolerant file vs entry
    → WellFormed Strict file vs entry ⊎ IsOverlong (check_of Strict file (length vs)).answer
strict_or_overlong = padded.strict_or_overlong

pub never_overlong : NeverOverlong
never_overlong = errors.never_overlong

pub modes_agree : ModesAgree
modes_agree = both.modes_agree

pub tolerant_accepts : (file : List ℕ) (cap count entry : ℕ) → (check_of Strict file cap).answer ≡ ok (count, entry)
    → check_of Tolerant file cap ≡ check_of Strict file cap
tolerant_accepts = both.tolerant_accepts

pub tolerant_accepts_depths : (file : List ℕ) (cap room count entry : ℕ) → (depths_of Strict file cap room).answer ≡ ok (count, entry)
    → depths_of Tolerant file cap room ≡ depths_of Strict file cap room
tolerant_accepts_depths = both.tolerant_accepts_depths

pub fault_exactly : (mode : Mode) (file : List ℕ) (cap : ℕ) (f : Fault) → Bytes file → ((check_of mode file cap).answer ≡ error f) ↔ RefusedCheck mode file cap f
fault_exactly = refused.fault_exactly

pub fault_place : {mode : Mode} {file : List ℕ} {cap p : ℕ} {f : Fault} (x : Faulty mode file cap p f)
    → HasPlace mode (take (length file - 1) file) (ltb 0 x.missing) p f
fault_place = refused.fault_place

pub fault_once : {mode : Mode} (file : List ℕ) (cap p q : ℕ) (f g : Fault) → Faulty mode file cap p f → Faulty mode file cap q g → (p ≡ q) × (f ≡ g)
fault_once = refused.fault_once

pub depths_refused_exactly : (mode : Mode) (file : List ℕ) (cap room : ℕ) (f : Fault) → Bytes file
    → ((depths_of mode file cap room).answer ≡ error f) ↔ RefusedDepths mode file cap room f
depths_refused_exactly = depths.depths_refused_exactly

pub refused_exactly : (mode : Mode) (s : List ℕ) (cap : ℕ) (done : List ℕ) (pending q : ℕ) (f : Fault)
    → (next_token mode s cap done pending q ≡ error f) ↔ RefusedToken mode s cap done pending q f
refused_exactly = faults.refused_exactly

pub head_refused_exactly : (mode : Mode) (s : List ℕ) (inner : Bool) (q : ℕ) (f : Fault) → (scan_at mode inner s q ≡ error f) ↔ RefusedHead mode s inner q f
head_refused_exactly = heads.head_refused_exactly

pub head_place : {mode : Mode} {s : List ℕ} {inner : Bool} {q : ℕ} {f : Fault} → RefusedHead mode s inner q f → HasPlace mode s inner q f
head_place = places.head_place

pub shortage_exactly : {mode : Mode} {s : List ℕ} {inner : Bool} {q h n a : ℕ} {m : List ℕ} → Counted mode s inner q h n a m
    → (length m < size (rule (h / 16)) n + counted (rule (h / 16)) n a)
    ↔ (((h / 16 ≡ 3) × (length m < 4 + 4 * n)) ⊎ ((e : ℕ) × Exceeds (h / 16) n a (length m) e))
shortage_exactly = shortages.shortage_exactly

pub full_exactly : (mode : Mode) (file : List ℕ) (cap p : ℕ) → Bytes file → ((check_of mode file cap).answer ≡ error (fault FULL p)) ↔ Overfull mode file cap p
full_exactly = full.full_exactly

pub fewer_words : (mode : Mode) (file : List ℕ) (cap more : ℕ) → cap ≤ more
    → ((p : ℕ) × ((check_of mode file cap).answer ≡ error (fault FULL p))) ⊎ ((check_of mode file cap).answer ≡ (check_of mode file more).answer)
fewer_words = full.fewer_words

pub never_full : (mode : Mode) (file : List ℕ) (cap p : ℕ) → length file ≤ suc cap → (check_of mode file cap).answer ≡ error (fault FULL p) → ⊥
never_full = full.never_full

pub empty_exactly : (mode : Mode) (file : List ℕ) (cap p : ℕ) → ((check_of mode file cap).answer ≡ error (fault EMPTY p)) ↔ ((length file ≡ 0) × (p ≡ 0))
empty_exactly = refused.empty_exactly

pub too_long_exactly : (mode : Mode) (file : List ℕ) (cap p : ℕ) → ((check_of mode file cap).answer ≡ error (fault TOO_LONG p))
    ↔ ((LIMIT < length file) × (p ≡ 0))
too_long_exactly = refused.too_long_exactly

pub bad_entry_exactly : (mode : Mode) (file : List ℕ) (cap p : ℕ) → Bytes file → ((check_of mode file cap).answer ≡ error (fault BAD_ENTRY p))
    ↔ Unnamed mode file cap p
bad_entry_exactly = refused.bad_entry_exactly

-- ---- text

pub text_exactly : (s : List ℕ) → Text s ↔ Utf8 s
text_exactly = utf8-laws.text_exactly

pub is_text_exactly : (s : List ℕ) → (is_text s ≡ true) ↔ Utf8 s
is_text_exactly = utf8-laws.is_text_exactly

-- "by one test that says yes exactly when all eight are"
pub plain_exactly : (s : List ℕ) → Bytes s → length s ≡ 8 → (are_plain (from_little s) ≡ true) ↔ Plain s
plain_exactly = plain.plain_exactly

pub plain_alone : (b : ℕ) → (is_text (b ∷ []) ≡ true) ↔ Plain (b ∷ [])
plain_alone = text-laws.plain_alone

pub front_exactly : (s : List ℕ) (n : ℕ)
    → (n ≡ plain_front s) ↔ ((n ≤ length s) × Plain (take n s) × (n < length s → 0x80 ≤ get_or s n 0))
front_exactly = plain.front_exactly

-- "No answer .. changes"
pub is_text_plain : (p s : List ℕ) → Plain p → is_text (p ++ s) ≡ is_text s
is_text_plain = text-laws.is_text_plain

pub accepted_texts : (mode : Mode) (file : List ℕ) (cap count entry : ℕ) → Bytes file → (check_of mode file cap).answer ≡ ok (count, entry)
    → (vs : List Value) × WellFormed mode file vs entry × TextsUtf8 mode file vs
accepted_texts = texts.accepted_texts

pub bad_text_exactly : (mode : Mode) (file : List ℕ) (cap p : ℕ) → Bytes file → ((check_of mode file cap).answer ≡ error (fault BAD_TEXT p))
    ↔ ((x : Faulty mode file cap p (fault BAD_TEXT p)) × NotUtf8 mode (take (length file - 1) file) (ltb 0 x.missing) p)
bad_text_exactly = texts.bad_text_exactly

pub refused_text_exactly : (b : List ℕ) (s : State) (out table : List ℕ) → ((step (text b) s out table).answer ≡ error BAD_TEXT)
    ↔ ((BadState s (length out) (length table) → ⊥) × (s.closed ≡ false) × (Utf8 b → ⊥))
refused_text_exactly = texts.refused_text_exactly

pub accepted_text : (b : List ℕ) (s : State) (out table : List ℕ) → (step (text b) s out table).answer ≡ ok tt → Utf8 b
accepted_text = texts.accepted_text

-- ---- what a query answers, and what it is refused for, on every file

pub peek_answers_exactly : (mode : Mode) (file : List ℕ) (at : ℕ) (h : Head)
    → (peek_of mode file at ≡ ok h) ↔ AnsweredQuery file at (λ s. (r : Read mode s false at) × (head_of mode s r ≡ h))
peek_answers_exactly = queries.peek_answers_exactly

pub peek_refused_exactly : (mode : Mode) (file : List ℕ) (at : ℕ) (f : Fault) → (peek_of mode file at ≡ error f)
    ↔ RefusedQuery file at (λ s. RefusedRead mode s false at) f
peek_refused_exactly = queries.peek_refused_exactly

pub read_answers_exactly : (mode : Mode) (file : List ℕ) (at : ℕ) (v : ReadValue)
    → (read_of mode file at ≡ ok v) ↔ AnsweredQuery file at (λ s. (r : Read mode s false at) × (value_on s at (head_of mode s r) ≡ v))
read_answers_exactly = queries.read_answers_exactly

pub read_refused_exactly : (mode : Mode) (file : List ℕ) (at : ℕ) (f : Fault) → (read_of mode file at ≡ error f)
    ↔ RefusedQuery file at (λ s. RefusedRead mode s false at) f
read_refused_exactly = queries.read_refused_exactly

pub skip_answers_exactly : (mode : Mode) (file : List ℕ) (at e : ℕ) → (skip_of mode file at ≡ ok e) ↔ AnsweredQuery file at (λ s. Skips mode s at e)
skip_answers_exactly = queries.skip_answers_exactly

pub skip_refused_exactly : (mode : Mode) (file : List ℕ) (at : ℕ) (f : Fault) → (skip_of mode file at ≡ error f)
    ↔ RefusedQuery file at (λ s. RefusedSkip mode s at) f
skip_refused_exactly = queries.skip_refused_exactly

pub item_answers_exactly : (mode : Mode) (file : List ℕ) (at i p : ℕ) → (item_of mode file at i ≡ ok p) ↔ AnsweredQuery file at (λ s. HasItem mode s at i p)
item_answers_exactly = queries.item_answers_exactly

pub item_refused_exactly : (mode : Mode) (file : List ℕ) (at i : ℕ) (f : Fault) → (item_of mode file at i ≡ error f)
    ↔ RefusedQuery file at (λ s. RefusedItem mode s at i) f
item_refused_exactly = queries.item_refused_exactly

pub follow_answers_exactly : (mode : Mode) (file : List ℕ) (at p hops : ℕ)
    → (follow_of mode file at ≡ ok (p, hops)) ↔ AnsweredQuery file at (λ s. (v : Read mode s false p) × Reaches mode s at hops p v)
follow_answers_exactly = queries.follow_answers_exactly

pub follow_refused_exactly : (mode : Mode) (file : List ℕ) (at : ℕ) (f : Fault) → (follow_of mode file at ≡ error f)
    ↔ RefusedQuery file at (λ s. RefusedFollow mode s at) f
follow_refused_exactly = queries.follow_refused_exactly

pub body_answers_exactly : (mode : Mode) (file : List ℕ) (at first len : ℕ)
    → (body_place_of mode file at ≡ ok (first, len)) ↔ AnsweredQuery file at (λ s. HasBody mode s at first len)
body_answers_exactly = queries.body_answers_exactly

pub body_refused_exactly : (mode : Mode) (file : List ℕ) (at : ℕ) (f : Fault) → (body_place_of mode file at ≡ error f)
    ↔ RefusedQuery file at (λ s. RefusedBody mode s at) f
body_refused_exactly = queries.body_refused_exactly

pub lookup_answers_exactly : (mode : Mode) (file : List ℕ) (at : ℕ) (key : List ℕ) (x : ℕ)
    → (lookup_of mode file at key ≡ ok x) ↔ AnsweredQuery file at (λ s. Finds mode s at key x)
lookup_answers_exactly = lookup-queries.lookup_answers_exactly

pub lookup_refused_exactly : (mode : Mode) (file : List ℕ) (at : ℕ) (key : List ℕ) (f : Fault)
    → (lookup_of mode file at key ≡ error f) ↔ RefusedQuery file at (λ s. RefusedLookup mode s at key) f
lookup_refused_exactly = lookup-queries.lookup_refused_exactly

-- ---- lookup, on every file, by the other queries

pub lookup_found_exactly : (mode : Mode) (file : List ℕ) (at : ℕ) (key : List ℕ) (x : ℕ) → (lookup_of mode file at key ≡ ok x) ↔ Found mode file at key x
lookup_found_exactly = lookups.lookup_found_exactly

pub lookup_none_exactly : (mode : Mode) (file : List ℕ) (at : ℕ) (key : List ℕ) (p : ℕ)
    → (lookup_of mode file at key ≡ error (fault NO_ITEM p)) ↔ ((p ≡ at) × Missing mode file at key)
lookup_none_exactly = lookups.lookup_none_exactly

-- ---- one call of the writer, in any state, with any output and table

pub refused_call_exactly : (c : Call) (s : State) (out table : List ℕ) (f : ℕ)
    → ((step c s out table).answer ≡ error f) ↔ RefusedCall (request_of c) s out table f
refused_call_exactly = refusals.refused_call_exactly

pub accepted_writes : (c : Call) (s : State) (out table : List ℕ) → (step c s out table).answer ≡ ok tt → Writes (request_of c) s out (step c s out table)
accepted_writes = accepted-call.accepted_writes

pub accepted_only : (c : Call) (s : State) (out table : List ℕ) → (step c s out table).answer ≡ ok tt → Only s out table (step c s out table)
accepted_only = single.accepted_only

pub accepted_finishes : (c : Call) (s : State) (out table : List ℕ) → (step c s out table).answer ≡ ok tt
    → Finishing (request_of c) s table (step c s out table)
accepted_finishes = accepted-call.accepted_finishes

-- ---- lists of calls

-- from any writer that follows a model
pub history_from : (cs : List Call) (s : State) (out table : List ℕ) (b : Model) → Follows s out table b → Alike cs s out table b
history_from = calls.history_from

-- the calls of the library for C
pub history_c : (cs : List Call) (out table : List ℕ)
    → let q = runs_c cs (words_of fresh) out table in let k = model_run cs empty_model (length out) (length table) in
    (q.numbers ≡ map number_c k.answers) × Agree (writer_of q.state) q.out q.table k.model
history_c = demands.history_c

pub parts_written : (cs : List Call) (out table : List ℕ) → let r = runs cs fresh out table in let k = model_run cs empty_model (length out) (length table) in
    take r.writer.written r.out ≡ bytes (forms_of 0 (accepted_parts [] cs r.answers)) ++ delta_of k.model.stage
parts_written = parts.parts_written

-- "an open value can always be finished"
pub opening_finishable : (c : Call) (t : Token) (target : ℕ) (s : State) (out table : List ℕ) → move_of c s.written ≡ puts t target
    → opens t ≡ true → (step c s out table).answer ≡ ok tt
    → (cs : List Call) → length cs ≡ (step c s out table).writer.pending → Each OneByte cs
    → FinishedBy cs s.written (s.written + length (emit t) + length cs) s table (step c s out table)
opening_finishable = finishes.opening_finishable

-- ---- longer memory

pub step_longer : (c : Call) (s : State) (out x table y : List ℕ) → (MemoryAnswer (step c s out table).answer → ⊥)
    → step c s (out ++ x) (table ++ y) ≡ longer (step c s out table) x y
step_longer = memory.step_longer

pub follows_longer : (s : State) (out x table y : List ℕ) (b : Model) → Follows s out table b → Follows s (out ++ x) (table ++ y) b
follows_longer = memory.follows_longer

pub history_growing : (gs : List Stretch) (out table : List ℕ)
    → let r = runs_growing gs fresh out table in let k = model_growing gs empty_model (length out) (length table) in
    (r.answers ≡ k.answers) × Agree r.writer r.out r.table k.model
history_growing = memory.history_growing

-- memory that is added between calls, and memory that was there before the first
pub growing_ahead : (gs : List Stretch) (s : State) (out table : List ℕ) → let r = runs_growing gs s out table in
    Leaves (accepted_of (calls_in gs) r.answers) s (out ++ bytes_in gs) (table ++ words_in gs) r.writer r.out r.table
growing_ahead = memory.growing_ahead

-- how many words are always enough
pub enough_words : (cs : List Call) (c : Call) (out table : List ℕ) → length out ≤ suc (length table) → let r = runs cs fresh out table in
    (step c r.writer r.out r.table).answer ≡ error FULL → NoRoom (request_of c) r.writer (length out)
enough_words = words.enough_words

-- ---- paths

pub leads_exactly : (vs : List Value) (i j : ℕ) → Leads vs i j ↔ ((j < length vs) × Refers vs i (get_or (starts 0 vs) j 0))
leads_exactly = leads.leads_exactly

-- ---- what this rests on: code points, numbers and tokens, there and back

pub decode_utf8 : (cs : List ℕ) → Each Encodable cs → decode (utf8 cs) ≡ some cs
decode_utf8 = utf8-laws.decode_utf8

pub utf8_decode : (s cs : List ℕ) → decode s ≡ some cs → Each Encodable cs × (utf8 cs ≡ s)
utf8_decode = utf8-laws.utf8_decode

pub shortest : (c : ℕ) → Encodable c → {r : Row} → Memᴰ r utf8_rows → FitsRow r c → length (encode c) ≤ length (octets (some r) c)
shortest = utf8-laws.shortest

pub get_put : (mode : Mode) (k least n : ℕ) (rest : List ℕ) → least ≤ n → n < top k → get mode k least (put k n ++ rest) ≡ got n rest
get_put = leb128.get_put

pub get_spells : (mode : Mode) (n : ℕ) (p rest : List ℕ) → Spells mode n p → get mode 9 0 (p ++ rest) ≡ got n rest
get_spells = spellings.get_spells

pub spells_get : (mode : Mode) (n : ℕ) (s rest : List ℕ) → Bytes s → get mode 9 0 s ≡ got n rest → Begins mode n s rest
spells_get = spellings.spells_get

pub spells_shortest : (n : ℕ) (s t : List ℕ) → Spells Strict n s → Spells Tolerant n t → length s ≤ length t
spells_shortest = spellings.spells_shortest

pub padded_exactly : (n : ℕ) (s : List ℕ) → Bytes s → Spells Tolerant n s ↔ ((n < 2 ^ 64) × (length s ≤ 10) × ((k : ℕ) × (s ≡ pad k (put 9 n))))
padded_exactly = padding.padded_exactly

pub scan_emit : (mode : Mode) (inner : Bool) (at : ℕ) (t : Token) (s : List ℕ) → Fits mode inner t s → scan mode inner at (emit t ++ s) ≡ got t s
scan_emit = token.scan_emit

pub emit_scan : (mode : Mode) (inner : Bool) (at : ℕ) (s : List ℕ) (t : Token) (rest : List ℕ) → Bytes s → scan mode inner at s ≡ got t rest
    → Scanned mode inner s t rest
emit_scan = token.emit_scan

-- ---- document 01's samples

pub the_samples : Answered Strict samples
the_samples = sampled.the_samples

pub the_ends : (mode : Mode) → Answered mode end_samples
the_ends = sampled.the_ends

pub the_texts : (mode : Mode) → Answered mode text_samples
the_texts = sampled.the_texts

pub the_padded : Answered Tolerant padded_samples × Answered Strict overlong_samples
the_padded = sampled.the_padded

pub the_ranges : (mode : Mode) → Answered mode range_samples
the_ranges = sampled.the_ranges

pub the_text_calls : map text_answer text_calls ≡ map (λ (x : TextCall). x.1) text_calls
the_text_calls = sampled.the_text_calls

pub the_written : map writes written ≡ map expects written
the_written = lists.the_written
