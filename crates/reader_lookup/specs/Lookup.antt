-- The value that a map has for a key (document 01, "Questions at an offset"), in unchecked files.
--
--   same a b             whether two lists of bytes are the same
--   is_key s key h        whether the value with head h is a text with the bytes of `key`
--   pairs mode s at key k q
--                        the lookup in k pairs from q on, of the map at `at`. For each pair, in this order: the faults of its
--                        key as an item, and of following it; if it is the key, TRUNC if its value would start at the
--                        region's end; else the faults of its value as an item. NO_ITEM if no pair has the key
--   lookup_on mode s at key h
--                        the lookup in the value at `at` with head h; WRONG_KIND if it is not a map
--   lookup_in, lookup_of   in the map at an offset of a region, and of a file: the offset of the value of the first pair
--                        whose key, followed, is a text with the bytes of `key`. In a file it begins with `in_region`:
--                        EMPTY, TOO_LONG, OUTSIDE
use Rattle.std.specs.Prelude.{ℕ, zero, suc, Bool, true, false, ◌&&◌, List, [], ◌∷◌, eqb, length}
use Rattle.prelude.specs.Pick.{pick}
use Rattle.prelude.specs.Answer.{Answer, error, bind}
use Rattle.error.specs.Error.{Fault, fault, NO_ITEM, WRONG_KIND}
use Rattle.leb128.specs.declared.Mode.{Mode}
use Rattle.scan.specs.Answers.{body_on}
use Rattle.scan.specs.declared.Head.{Head}
use Rattle.reader_region.specs.Region.{in_region, peek_in}
use Rattle.reader_items.specs.Items.{starts_in}
use Rattle.reader_follow.specs.Follow.{position, follow_from}

unfoldable pub same : List ℕ → List ℕ → Bool
same [] [] = true
same [] (b ∷ t) = false
same (a ∷ s) [] = false
same (a ∷ s) (b ∷ t) = eqb a b && same s t

abbrev pub is_key : List ℕ → List ℕ → Head → Bool
is_key s key h = eqb h.kind 4 && same (body_on s h) key

unfoldable pub pairs : Mode → List ℕ → ℕ → List ℕ → ℕ → ℕ → Answer Fault ℕ
pairs mode s at key zero q = error (fault NO_ITEM at)
pairs mode s at key (suc k) q =
    bind (peek_in mode true s q) (λ h.
    bind (follow_from mode s (position q 0)) (λ m.
    pick (is_key s key m.head) (starts_in (length s) h.end)
    (bind (peek_in mode true s h.end) (λ v. pairs mode s at key k v.end))))

abbrev pub lookup_on : Mode → List ℕ → ℕ → List ℕ → Head → Answer Fault ℕ
lookup_on mode s at key h = pick (eqb h.kind 7) (pairs mode s at key h.n h.end) (error (fault WRONG_KIND at))

unfoldable pub lookup_in : Mode → List ℕ → ℕ → List ℕ → Answer Fault ℕ
lookup_in mode s at key = bind (peek_in mode false s at) (lookup_on mode s at key)

abbrev pub lookup_of : Mode → List ℕ → ℕ → List ℕ → Answer Fault ℕ
lookup_of mode file at key = in_region file at (λ s. lookup_in mode s at key)
