-- The parts of accepted calls, in the order of the calls, without a model.
--
--   parts_in vs         the parts of values, in order: each value's head, and then its items
--   parts_added l w     what an accepted request adds after w bytes: its part; for a close, the pointer if the delta byte does not reach the value closed at
--   accepted_parts done cs vs
--                      the parts `done`, and after them those that the calls cs add whose answers, of the list vs, are `ok`
use Rattle.std.specs.Prelude.{ℕ, ◌-◌, List, [], ◌∷◌, ◌++◌, ltb, length}
use Rattle.prelude.specs.Pick.{pick}
use Rattle.prelude.specs.Answer.{ok, error}
use Rattle.values.specs.Values.{bytes}
use Rattle.writer_refusal.specs.Refusal.{Verdict}
use Rattle.writer.specs.Call.{Call}
use Rattle.guarantees_writer.specs.Model.{Part, part, Request, adds, ends, request_of, ModelValue, forms_of}

unfoldable pub parts_in : List ModelValue → List Part
parts_in [] = []
parts_in (v ∷ vs) = v.head ∷ v.items ++ parts_in vs

abbrev pub parts_added : Request → ℕ → List Part
parts_added (adds p) w = p ∷ []
parts_added (ends e) w = pick (ltb 255 (w - e - 1)) (part 15 e 0 [] ∷ []) []

unfoldable pub accepted_parts : List Part → List Call → List Verdict → List Part
accepted_parts done [] vs = done
accepted_parts done (c ∷ cs) [] = done
accepted_parts done (c ∷ cs) (ok u ∷ vs) = accepted_parts (done ++ parts_added (request_of c) (length (bytes (forms_of 0 done)))) cs vs
accepted_parts done (c ∷ cs) (error f ∷ vs) = accepted_parts done cs vs
