-- The values that prune writes. No statement cites this file.
--
--   moved_tokens g q r ts   the tokens ts, the first at q, as they are written from r on: the target x of a reference or pointer is then at g x
--   moved_value g q r v     the same of a value
--   new_start ss ms done x  where the value that started at x starts now: the values started at ss, ms are their marks, and `done` are the new ones
--   kept_values ss ms i q done vs
--                          the values `done`, and after them those of vs that are marked; the first of vs is number i, and started at q
--   marks_of vs entry       which of the values vs the one that starts at `entry` reaches
--   pruned_values vs entry, pruned_start vs entry, pruned_file vs entry
--                          the values of the new file, the start of its entry, and its bytes, if the old one has the values vs and the entry `entry`
use Rattle.std.specs.Prelude.{ℕ, suc, ◌+◌, ◌-◌, Bool, false, List, [], ◌∷◌, ◌++◌, length, take, get_or}
use Rattle.prelude.specs.Pick.{pick}
use Rattle.prelude.specs.Search.{rank}
use Rattle.token.specs.Token.{Token, emit}
use Rattle.values.specs.Values.{Value, tokens, bytes, region, starts}
use Rattle.writer.specs.Step.{moved_to}
use Rattle.prune_marks.specs.Marks.{kept}
use Rattle.prune_reach.specs.Reach.{reached}

unfoldable pub moved_tokens : (ℕ → ℕ) → ℕ → ℕ → List Token → List Token
moved_tokens g q r [] = []
moved_tokens g q r (t ∷ ts) =
    let u = moved_to r (g (q - t.n - 1)) t in
    u ∷ moved_tokens g (q + length (emit t)) (r + length (emit u)) ts

unfoldable pub moved_value : (ℕ → ℕ) → ℕ → ℕ → Value → Value
moved_value g q r v =
    let t = v.head in
    let u = moved_to r (g (q - t.n - 1)) t in
    record { head = u; items = moved_tokens g (q + length (emit t)) (r + length (emit u)) v.items }

abbrev pub new_start : List ℕ → List Bool → List Value → ℕ → ℕ
new_start ss ms done x = get_or (starts 0 done) (kept (take (rank x ss) ms)) 0

unfoldable pub kept_values : List ℕ → List Bool → ℕ → ℕ → List Value → List Value → List Value
kept_values ss ms i q done [] = done
kept_values ss ms i q done (v ∷ vs) =
    let more = done ++ (moved_value (new_start ss ms done) q (length (region done)) v ∷ []) in
    kept_values ss ms (suc i) (q + length (bytes (tokens v))) (pick (get_or ms i false) more done) vs

abbrev pub marks_of : List Value → ℕ → List Bool
marks_of vs entry = let ss = starts 0 vs in reached (region vs) ss (rank entry ss)

unfoldable pub pruned_values : List Value → ℕ → List Value
pruned_values vs entry = kept_values (starts 0 vs) (marks_of vs entry) 0 0 [] vs

unfoldable pub pruned_start : List Value → ℕ → ℕ
pruned_start vs entry = get_or (starts 0 (pruned_values vs entry)) (kept (take (rank entry (starts 0 vs)) (marks_of vs entry))) 0

unfoldable pub pruned_file : List Value → ℕ → List ℕ
pruned_file vs entry = let s = region (pruned_values vs entry) in s ++ ((length s - pruned_start vs entry - 1) ∷ [])
