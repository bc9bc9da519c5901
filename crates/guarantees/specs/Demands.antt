-- The three demands, each a record whose fields are the demand's sentences, in their order. proofs/Main.antt has them as the theorems `demand_1`,
-- `demand_2` and `demand_3`. By the contracts of the calls, the definitions that they cite are what the code answers and leaves.
--
--   Numbered       each call, on any input, gives no other errors than those of its list in Errors.antt
--   Demand1        any input gets an answer
--   ReportsValues mode file vs
--                  of a well-formed file with the values vs the queries return what the Twine pages say
--   Demand2        exactly the well-formed files, their values, and written again
--   AfterCalls cs out table
--                  what holds after the calls cs, made to a new writer with this output and table: the single claim about the list
--   Demand3        every list of calls; paths and depths
use Rattle.std.specs.Prelude.{ℕ, ◌+◌, ◌-◌, ◌≤◌, ◌<◌, ◌≡◌, true, false, ◌⊎◌, ◌↔◌, List, [], ◌∷◌, ◌++◌, map, length, take, drop, get_or, replicate}
use Rattle.std.proofs.Math.Option.{some}
use Rattle.prelude.specs.Answer.{ok, error}
use Rattle.prelude.specs.Bytes.{Bytes}
use Rattle.prelude.specs.Search.{among}
use Rattle.prelude.specs.Each.{Each}
use Rattle.error.specs.Error.{Fault, fault, NO_ITEM, WRONG_KIND, CLOSED}
use Rattle.leb128.specs.declared.Mode.{Mode}
use Rattle.leb128.specs.declared.Mode.TheVariants.{Strict}
use Rattle.kind.specs.Kind.{rule, immediate}
use Rattle.token.specs.Token.{Token}
use Rattle.values.specs.Values.{Value, tokens, bytes, region, starts, WellFormed}
use Rattle.reader_region.specs.Region.{peek_of}
use Rattle.reader_value.specs.Value.{read_of}
use Rattle.reader_value.specs.declared.Value.{Value as ReadValue}
use Rattle.reader_items.specs.Items.{skip_of, item_of}
use Rattle.reader_follow.specs.Follow.{follow_of}
use Rattle.reader_body.specs.Body.{body_place_of, body_of}
use Rattle.reader_lookup.specs.Lookup.{lookup_of}
use Rattle.checker.specs.Check.{checked, check_of}
use Rattle.depths.specs.Depths.{depths_of}
use Rattle.writer_refusal.specs.declared.State.{State}
use Rattle.writer.specs.Call.{Call, close}
use Rattle.writer.specs.Step.{fresh, result, step}
use Rattle.writer.specs.Runs.{runs}
use Rattle.writer.specs.Given.{Given}
use Rattle.abi_writer.specs.Calls.{words_of, number_c, ran_c, runs_c}
use Rattle.guarantees.specs.Accepts.{Accepted}
use Rattle.guarantees.specs.TokenValues.{token_end, value_of_token}
use Rattle.guarantees.specs.Places.{TokenAt, FollowsTo, further}
use Rattle.guarantees.specs.Items.{count_of}
use Rattle.guarantees.specs.Lookup.{FirstPair, NoPair}
use Rattle.guarantees.specs.Errors.{check_errors, read_errors, skip_errors, item_errors, body_errors}
use Rattle.guarantees_writer.specs.RefusedCall.{write_errors}
use Rattle.guarantees.specs.AcceptedPaths.{AcceptedPaths}
use Rattle.guarantees_writer.specs.Model.{Part, request_of, open_of, empty_model, values_at}
use Rattle.guarantees_writer.specs.History.{model_run, Agree}
use Rattle.guarantees_writer.specs.AcceptedParts.{parts_in, parts_added, accepted_parts}
use Rattle.guarantees.specs.SoFar.{Rest, Names, FormedSoFar}
use Rattle.guarantees.specs.ReadsBack.{Holds, value_of_part, ReadsBack}
use Rattle.guarantees.specs.CallValues.{value_of_call, body_of_call}
use Rattle.guarantees.specs.Rewrites.{Rewritten}

-- ---- demand 1

pub record Numbered : Type 0 where
  pub check : (mode : Mode) (file : List ℕ) (cap : ℕ) (f : Fault) → (check_of mode file cap).answer ≡ error f → among f.number (check_errors mode) ≡ true
  pub depths : (mode : Mode) (file : List ℕ) (cap room : ℕ) (f : Fault) → (depths_of mode file cap room).answer ≡ error f
      → among f.number (check_errors mode) ≡ true
  pub peek : (mode : Mode) (file : List ℕ) (at : ℕ) (f : Fault) → peek_of mode file at ≡ error f → among f.number (read_errors mode) ≡ true
  pub read : (mode : Mode) (file : List ℕ) (at : ℕ) (f : Fault) → read_of mode file at ≡ error f → among f.number (read_errors mode) ≡ true
  pub skip : (mode : Mode) (file : List ℕ) (at : ℕ) (f : Fault) → skip_of mode file at ≡ error f → among f.number (skip_errors mode) ≡ true
  pub item : (mode : Mode) (file : List ℕ) (at : ℕ) (f : Fault) (i : ℕ) → item_of mode file at i ≡ error f → among f.number (item_errors mode) ≡ true
  pub follow : (mode : Mode) (file : List ℕ) (at : ℕ) (f : Fault) → follow_of mode file at ≡ error f → among f.number (read_errors mode) ≡ true
  pub lookup : (mode : Mode) (file : List ℕ) (at : ℕ) (f : Fault) (key : List ℕ) → lookup_of mode file at key ≡ error f
      → among f.number (item_errors mode) ≡ true
  pub body : (mode : Mode) (file : List ℕ) (at : ℕ) (f : Fault) → body_place_of mode file at ≡ error f → among f.number (body_errors mode) ≡ true
  pub write : (c : Call) (s : State) (out table : List ℕ) (f : ℕ) → (step c s out table).answer ≡ error f → among f write_errors ≡ true

pub record Demand1 : Type 0 where
  -- "Any bytes, offsets, item numbers and writer states may be handed in. Every call ends with an answer or a numbered refusal."
  pub numbered : Numbered
  -- "A refused writer call changes nothing;"
  pub unchanged : (c : Call) (s : State) (out table : List ℕ) (f : ℕ) → (step c s out table).answer ≡ error f
      → step c s out table ≡ result (error f) s out table
  -- "a refused check leaves its tables all zero."
  pub check_zero : (mode : Mode) (file : List ℕ) (cap : ℕ) (f : Fault) → (check_of mode file cap).answer ≡ error f
      → (check_of mode file cap).starts ≡ replicate cap 0
  pub depths_zero : (mode : Mode) (file : List ℕ) (cap room : ℕ) (f : Fault) → (depths_of mode file cap room).answer ≡ error f
      → ((depths_of mode file cap room).starts ≡ replicate cap 0) × ((depths_of mode file cap room).depths ≡ replicate room 0)
  -- "An item number at or past the count of a value that reads without fault gets NO_ITEM."
  pub no_item : (mode : Mode) (file : List ℕ) (at : ℕ) (v : ReadValue) → read_of mode file at ≡ ok v → (n : ℕ) → count_of v ≡ some n
      → (i : ℕ) → n ≤ i → item_of mode file at i ≡ error (fault NO_ITEM at)

-- ---- demand 2

pub record ReportsValues (mode : Mode) (file : List ℕ) (vs : List Value) : Type 0 where
  -- each token t, of a value or an item, with its header at q
  pub read : (j q : ℕ) (t : Token) → TokenAt vs j q t → read_of mode file q ≡ ok (value_of_token q t)
  pub body : (j q : ℕ) (t : Token) → TokenAt vs j q t → (t.kind ≡ 4) ⊎ (t.kind ≡ 5)
      → (body_place_of mode file q ≡ ok (token_end q t - length t.body, length t.body)) × (body_of mode file q ≡ t.body)
  pub pointer_body : (j q : ℕ) (t : Token) → TokenAt vs j q t → t.kind ≡ 15
      → (body_place_of mode file q ≡ body_place_of mode file (q - t.n - 1)) × (body_of mode file q ≡ body_of mode file (q - t.n - 1))
  pub no_body : (j q : ℕ) (t : Token) → TokenAt vs j q t → (t.kind ≡ 4 → ⊥) → (t.kind ≡ 5 → ⊥) → (t.kind ≡ 15 → ⊥)
      → body_place_of mode file q ≡ error (fault WRONG_KIND q)
  pub stays : (j q : ℕ) (t : Token) → TokenAt vs j q t → (t.kind ≡ 15 → ⊥) → follow_of mode file q ≡ ok (q, 0)
  pub hop : (j q : ℕ) (t : Token) → TokenAt vs j q t → t.kind ≡ 15 → follow_of mode file q ≡ further (follow_of mode file (q - t.n - 1))
  pub no_map : (j q : ℕ) (t : Token) → TokenAt vs j q t → (key : List ℕ) → (t.kind ≡ 7 → ⊥) → lookup_of mode file q key ≡ error (fault WRONG_KIND q)
  pub end : (j q : ℕ) (t : Token) → TokenAt vs j q t → immediate (rule t.kind) ≡ true → skip_of mode file q ≡ ok (token_end q t)
  pub no_items : (j q : ℕ) (t : Token) → TokenAt vs j q t → immediate (rule t.kind) ≡ true
      → (i : ℕ) → item_of mode file q i ≡ error (fault WRONG_KIND q)
  -- each value v, after the values a
  pub skip : (a : List Value) (v : Value) (b : List Value) → vs ≡ a ++ (v ∷ b)
      → skip_of mode file (length (region a)) ≡ ok (length (region a) + length (bytes (tokens v)))
  pub item : (a : List Value) (v : Value) (b : List Value) → vs ≡ a ++ (v ∷ b)
      → (is : List Token) (t : Token) (js : List Token) → v.items ≡ is ++ (t ∷ js)
      → item_of mode file (length (region a)) (length is) ≡ ok (token_end (length (region a)) v.head + length (bytes is))
  pub no_item : (a : List Value) (v : Value) (b : List Value) → vs ≡ a ++ (v ∷ b) → immediate (rule v.head.kind) ≡ false
      → (i : ℕ) → length v.items ≤ i → item_of mode file (length (region a)) i ≡ error (fault NO_ITEM (length (region a)))
  pub lookup : (a : List Value) (v : Value) (b : List Value) → vs ≡ a ++ (v ∷ b) → v.head.kind ≡ 7
      → (key : List ℕ) (x : ℕ) → FirstPair vs (length (region a)) v key x → lookup_of mode file (length (region a)) key ≡ ok x
  pub no_lookup : (a : List Value) (v : Value) (b : List Value) → vs ≡ a ++ (v ∷ b) → v.head.kind ≡ 7
      → (key : List ℕ) → NoPair vs (length (region a)) v key → lookup_of mode file (length (region a)) key ≡ error (fault NO_ITEM (length (region a)))
  -- following from value number j ends
  pub follow : (j : ℕ) → j < length vs → FollowsTo mode file vs j (get_or (starts 0 vs) j 0)

pub record Demand2 : Type 0 where
  -- "Given a starts table with enough words, the reader accepts exactly the files that document 01 calls well formed by the Twine pages,"
  pub accepts : (mode : Mode) (file : List ℕ) (cap count entry : ℕ) (table : List ℕ) → Bytes file
      → (check_of mode file cap ≡ checked (ok (count, entry)) table) ↔ Accepted mode file cap count entry table
  -- "and tells their values as those pages do." In either mode, by that mode's notion of well formed
  pub reports : (mode : Mode) (file : List ℕ) (vs : List Value) (entry : ℕ) → WellFormed mode file vs entry → ReportsValues mode file vs
  -- "Writing an accepted file's values again in order with a fresh writer, its output at least as long as the file and its table with enough words,
  -- and closing at the file's entry, gives the same bytes." W-203: "Same-bytes rewriting holds for files that the strict manner accepts"
  pub rewrites : (file : List ℕ) (cap count entry : ℕ) → Bytes file → (check_of Strict file cap).answer ≡ ok (count, entry)
      → (out table : List ℕ) → length file ≤ length out → count ≤ length table → Rewritten file entry out table

-- ---- demand 3

pub record AfterCalls (cs : List Call) (out table : List ℕ) : Type 0 where
  -- "after it the bytes written and the starts listed, in order, are exactly those of the plain book in document 01,"
  pub agree : let r = runs cs fresh out table in
      Agree r.writer r.out r.table (model_run cs empty_model (length out) (length table)).model
  -- "and each call in it was refused just where the book refuses it, with the same number."
  pub answers : (runs cs fresh out table).answers ≡ (model_run cs empty_model (length out) (length table)).answers
  -- the book's parts are those of the accepted calls, in their order; `values` of Demand3 says how each is read
  pub parts : let k = (model_run cs empty_model (length out) (length table)).model in
      parts_in (k.finished ++ open_of k.stage) ≡ accepted_parts [] cs (runs cs fresh out table).answers
  -- "Buffer and table may hold anything at first;" what is after the bytes written and the starts listed stays as it was
  pub rest : let r = runs cs fresh out table in Rest fresh out table r.writer r.out r.table
  -- the calls of the library for C, from a new state's words on: the same answers, as numbers, and the same state, output and table
  pub in_c : let r = runs cs fresh out table in
      runs_c cs (words_of fresh) out table ≡ ran_c (map number_c r.answers) (words_of r.writer) r.out r.table
  -- "Every pointer or reference in a finished value names an earlier finished value."
  pub targets : let r = runs cs fresh out table in
      (j q : ℕ) (p : Part) → Holds (model_run cs empty_model (length out) (length table)).model.finished j q p → 14 ≤ p.kind
      → Names r.writer r.out r.table j q p
  -- the finished values so far are well formed, closed or not
  pub formed : let r = runs cs fresh out table in Each Given cs
      → FormedSoFar r.writer r.out r.table (values_at 0 (model_run cs empty_model (length out) (length table)).model.finished)
  -- "If a close was accepted, the reader, lent enough words, accepts the file and gives back exactly the book's finished values: starts, kinds,
  -- numbers, bodies, items, targets. The closing pointer comes last where one was needed and is the entry; else the entry is the value closed at."
  pub reads_back : (mode : Mode) → let r = runs cs fresh out table in
      (before more : List Call) (e : ℕ) → cs ≡ before ++ (close e ∷ more) → get_or r.answers (length before) (error 0) ≡ ok tt → Each Given before
      → ReadsBack mode (model_run before empty_model (length out) (length table)).model e (model_run cs empty_model (length out) (length table)).model
      (take r.writer.written r.out)
  -- each call after that is CLOSED
  pub closed : let r = runs cs fresh out table in
      (before more : List Call) (e : ℕ) → cs ≡ before ++ (close e ∷ more) → get_or r.answers (length before) (error 0) ≡ ok tt
      → Each (λ v. v ≡ error CLOSED) (drop (length before + 1) r.answers)

pub record Demand3 : Type 0 where
  -- "For every list of the writer's calls (each immediate, each opening, the close, refused ones too) from a fresh writer,"
  pub list : (cs : List Call) (out table : List ℕ) → AfterCalls cs out table
  -- "gives back exactly the book's finished values: .. kinds, numbers, bodies, .. targets", in terms of the calls: what reading returns for a part
  -- that c adds, and its body
  pub values : (c : Call) → Given c → (w q : ℕ)
      → Each (λ p. (value_of_part q p ≡ value_of_call q c) × (p.body ≡ body_of_call c)) (parts_added (request_of c) w)
  -- "In any accepted file, whoever wrote it, no descent meets a value twice, and depths, lent enough words, accepts it and tells each value's depth:
  -- one descent from it has that many values, none has more." W-203: "hold in both manners"
  pub paths : (mode : Mode) (file : List ℕ) (cap count entry : ℕ) → Bytes file → (check_of mode file cap).answer ≡ ok (count, entry)
      → AcceptedPaths mode file count entry
