-- What this crate's functions return, in terms of the walk.
--
--   in_value at start pending done
--                     the walk at `at`, in the value that begins at `start`, with that many items pending; after the
--                     value if none is
--   rest mode r s cap done start
--                     the result of the walk, if the result r reports the end of that value, or an error in it
--   Ends r at n       the end that r reports is at least `at` and at most n
--   ChecksItems mode r s done at items
--                     r reports what the walk finds in that many items of a value, from `at` on
--   ChecksValue mode r s done at
--                     the same for a whole value, if the table has a word for it
use Rattle.std.specs.Prelude.{◌≡◌, ℕ, ◌+◌, ◌≤◌, ◌<◌, List, [], ◌∷◌, ◌++◌, Result, Ok, Err, eqb, length}
use Rattle.prelude.specs.Pick.{pick}
use Rattle.prelude.specs.Answer.{Answer, error}
use Rattle.error.specs.Error as errors
use Rattle.error.specs.Error.{Fault}
use Rattle.leb128.specs.declared.Mode.{Mode}
use Rattle.error.specs.declared.Error.{Error}
use Rattle.checker_value.specs.Walk.{Walk, between, starts_from}

abbrev pub in_value : ℕ → ℕ → ℕ → List ℕ → Walk
in_value at start pending done = pick (eqb pending 0) (between at (done ++ (start ∷ []))) (record { at = at; start = start; pending = pending; done = done })

abbrev pub rest : Mode → Result ℕ Error → List ℕ → ℕ → List ℕ → ℕ → Answer Fault (List ℕ)
rest mode (Ok end) s cap done start = starts_from mode s cap (between end (done ++ (start ∷ [])))
rest mode (Err e) s cap done start = error (errors.fault_of e)

abbrev pub Ends : Result ℕ Error → ℕ → ℕ → Type 0
Ends (Ok end) at n = (at ≤ end) × (end ≤ n)
Ends (Err e) at n = Unit {0}

abbrev pub ChecksItems : Mode → Result ℕ Error → List ℕ → List ℕ → ℕ → ℕ → Type 0
ChecksItems mode r s done at items =
    ((cap start : ℕ) → rest mode r s cap done start ≡ starts_from mode s cap (in_value at start items done)) × (Ends r at (length s))

abbrev pub ChecksValue : Mode → Result ℕ Error → List ℕ → List ℕ → ℕ → Type 0
ChecksValue mode r s done at =
    ((cap : ℕ) → length done < cap → rest mode r s cap done at ≡ starts_from mode s cap (between at done)) × (Ends r (at + 1) (length s))
