-- What this crate's private functions return. No public contract cites this file.
--
--   or_stop a f          f applied to a's value, or a stop with a's error
--   match_key mode s key q h
--                       the rest of a pair whose key, followed, has the head h, and whose value starts at q: the key is
--                       compared with `key`; if it differs, the value is looked at
--   pair_at mode s key q
--                       one pair of a map, from q on: where the next one starts, or the answer; the key is looked at and followed
--   pair_answer r        what the answer of one pair means: go on at an offset, or stop with an answer
use Rattle.std.specs.Prelude.{ℕ, true, List, Result, Ok, Err, length}
use Rattle.std.specs.declared.ops.ControlFlow.{ControlFlow}
use Rattle.std.specs.declared.ops.ControlFlow.TheVariants.{Continue, Break}
use Rattle.prelude.specs.Pick.{pick}
use Rattle.prelude.specs.Answer.{Answer, ok, error}
use Rattle.prelude.specs.Loop.{Turn, go, stop}
use Rattle.error.specs.Error.{Fault, fault_of}
use Rattle.error.specs.declared.Error.{Error}
use Rattle.leb128.specs.declared.Mode.{Mode}
use Rattle.scan.specs.declared.Head.{Head}
use Rattle.reader_region.specs.Region.{peek_in}
use Rattle.reader_items.specs.Items.{starts_in}
use Rattle.reader_follow.specs.Follow.{position, follow_from}
use Rattle.reader_lookup.specs.Lookup.{is_key}

unfoldable pub or_stop : {A S R : Type 0} → Answer Fault A → (A → Turn S (Answer Fault R)) → Turn S (Answer Fault R)
or_stop (ok a) f = f a
or_stop (error e) f = stop (error e)

abbrev pub match_key : Mode → List ℕ → List ℕ → ℕ → Head → Turn ℕ (Answer Fault ℕ)
match_key mode s key q h = pick (is_key s key h) (stop (starts_in (length s) q)) (or_stop (peek_in mode true s q) (λ v. go v.end))

abbrev pub pair_at : Mode → List ℕ → List ℕ → ℕ → Turn ℕ (Answer Fault ℕ)
pair_at mode s key q = or_stop (peek_in mode true s q) (λ h. or_stop (follow_from mode s (position q 0)) (λ m. match_key mode s key h.end m.head))

abbrev pub pair_answer : Result (ControlFlow ℕ ℕ) Error → Turn ℕ (Answer Fault ℕ)
pair_answer (Ok (Continue q)) = go q
pair_answer (Ok (Break at)) = stop (ok at)
pair_answer (Err e) = stop (error (fault_of e))
