-- Files, and what prune makes of them.
--
--   Sample             a file; how many bytes the output has, and how many words the old and the new table; and what prune answers and leaves, if every byte
--                      of the output is ff at first
--   prune_sample s      the same by the definition that prune's contract cites
--   samples            nothing is dead, with more memory than needed; a value before what is kept is dead, one between, one after the entry; a reference is the
--                      only way to a value; an entry that is a pointer, to a variant with a text; a distance that needs a byte less; two steps from the entry,
--                      to a value that is reached in two ways; a float, a map, a tag and a variant of one
--   refusals           check refuses: EMPTY, LONG_BODY, OVERLONG, BAD_ENTRY and FULL, with too little of all else too; a new table or an output that is too
--                      short: the first call that does not fit decides
use Rattle.std.specs.Prelude.{ℕ, ◌+◌, List, [], ◌∷◌, ◌++◌, length, replicate}
use Rattle.prelude.specs.Answer.{ok}
use Rattle.error.specs.Error.{fault, EMPTY, OVERLONG, FULL, BAD_ENTRY, NO_ROOM, LONG_BODY}
use Rattle.prune.specs.Prune.{Pruned, pruned, Refusal, bad_file, no_fit, refused, prune_of}

pub record Sample : Type 0 where
  pub file : List ℕ
  pub bytes : ℕ
  pub old : ℕ
  pub new : ℕ
  pub leaves : Pruned

unfoldable pub prune_sample : Sample → Pruned
prune_sample s = prune_of s.file (replicate s.bytes 0xff) s.old s.new

-- a file, the new file with its length, count and entry, and so many bytes of the output after it; and the tables
abbrev sample : List ℕ → List ℕ → ℕ → ℕ → ℕ → ℕ → List ℕ → List ℕ → Sample
sample file new long count entry rest old starts = record {
  file = file;
  bytes = long + rest;
  old = length old;
  new = length starts;
  leaves = pruned (ok (long, count, entry)) (new ++ replicate rest 0xff) old starts;
}

abbrev refusal : List ℕ → ℕ → ℕ → ℕ → Refusal → Sample
refusal file bytes old new f = record { file = file; bytes = bytes; old = old; new = new; leaves = refused (replicate bytes 0xff) old new f }

abbrev pub samples : List Sample
samples =
    sample (0x42 ∷ 0x61 ∷ 0x61 ∷ 0x61 ∷ 0xf3 ∷ 1 ∷ []) (0x42 ∷ 0x61 ∷ 0x61 ∷ 0x61 ∷ 0xf3 ∷ 1 ∷ []) 6 2 3 2 (0 ∷ 3 ∷ []) (0 ∷ 3 ∷ 0 ∷ [])
    ∷ sample (0x41 ∷ 0x61 ∷ 0x41 ∷ 0x62 ∷ 0x61 ∷ 0xf2 ∷ 1 ∷ []) (0x41 ∷ 0x62 ∷ 0x61 ∷ 0xf2 ∷ 1 ∷ []) 5 2 2 0 (0 ∷ 2 ∷ 4 ∷ 0 ∷ []) (0 ∷ 2 ∷ [])
    ∷ sample (0x41 ∷ 0x61 ∷ 0x41 ∷ 0x62 ∷ 0x61 ∷ 0xf4 ∷ 1 ∷ []) (0x41 ∷ 0x61 ∷ 0x61 ∷ 0xf2 ∷ 1 ∷ []) 5 2 2 1 (0 ∷ 2 ∷ 4 ∷ []) (0 ∷ 2 ∷ 0 ∷ [])
    ∷ sample (1 ∷ 0x41 ∷ 0x61 ∷ 2 ∷ []) (1 ∷ 0 ∷ []) 2 1 0 2 (0 ∷ 1 ∷ []) (0 ∷ [])
    ∷ sample (0x41 ∷ 0x61 ∷ 0x41 ∷ 0x62 ∷ 0xe1 ∷ 0 ∷ []) (0x41 ∷ 0x62 ∷ 0xe1 ∷ 0 ∷ []) 4 2 2 0 (0 ∷ 2 ∷ 4 ∷ []) (0 ∷ 2 ∷ [])
    ∷ sample (2 ∷ 0xc5 ∷ 2 ∷ 0x41 ∷ 0x61 ∷ 0x10 ∷ 1 ∷ 0xf5 ∷ 0 ∷ []) (0xc5 ∷ 2 ∷ 0x41 ∷ 0x61 ∷ 0x10 ∷ 0xf4 ∷ 0 ∷ []) 7 2 5 0 (0 ∷ 1 ∷ 6 ∷ 7 ∷ []) (0 ∷ 5 ∷ [])
    ∷ sample (0x10 ∷ 0x4e ∷ (replicate 14 0x61 ++ (0x62 ∷ 0xff ∷ 1 ∷ 0xef ∷ 3 ∷ 4 ∷ []))) (0x10 ∷ 0x62 ∷ 0xf1 ∷ 0xe2 ∷ 2 ∷ []) 5 2 1 0
    (0 ∷ 1 ∷ 16 ∷ []) (0 ∷ 1 ∷ [])
    ∷ sample (0x10 ∷ 0x11 ∷ 0xf1 ∷ 0x62 ∷ 0xf1 ∷ 0xe4 ∷ 2 ∷ []) (0x10 ∷ 0xf0 ∷ 0x62 ∷ 0xf1 ∷ 0xe3 ∷ 2 ∷ []) 6 3 2 1 (0 ∷ 1 ∷ 2 ∷ 3 ∷ []) (0 ∷ 1 ∷ 2 ∷ [])
    ∷ sample (0x30 ∷ 1 ∷ 2 ∷ 3 ∷ 4 ∷ 0x10 ∷ 0x71 ∷ 0x11 ∷ 0xf7 ∷ 0x83 ∷ 0xf3 ∷ 0xb5 ∷ 0xf2 ∷ 1 ∷ [])
    (0x30 ∷ 1 ∷ 2 ∷ 3 ∷ 4 ∷ 0x71 ∷ 0x11 ∷ 0xf6 ∷ 0x83 ∷ 0xf3 ∷ 0xb5 ∷ 0xf2 ∷ 1 ∷ []) 13 4 10 0 (0 ∷ 5 ∷ 6 ∷ 9 ∷ 11 ∷ []) (0 ∷ 5 ∷ 8 ∷ 10 ∷ [])
    ∷ []

abbrev pub refusals : List Sample
refusals =
    refusal [] 3 2 2 (bad_file (fault EMPTY 0))
    ∷ refusal (0x41 ∷ 0 ∷ []) 3 2 2 (bad_file (fault LONG_BODY 1))
    ∷ refusal (0x1f ∷ 0x80 ∷ 0 ∷ 2 ∷ []) 4 1 1 (bad_file (fault OVERLONG 0))
    ∷ refusal (1 ∷ 7 ∷ []) 3 1 1 (bad_file (fault BAD_ENTRY 1))
    ∷ refusal (1 ∷ 0 ∷ []) 2 0 1 (bad_file (fault FULL 0))
    ∷ refusal (1 ∷ 0 ∷ []) 0 0 0 (bad_file (fault FULL 0))
    ∷ refusal (1 ∷ 0 ∷ []) 2 1 0 (no_fit FULL)
    ∷ refusal (1 ∷ 0 ∷ []) 0 1 0 (no_fit FULL)
    ∷ refusal (1 ∷ 0 ∷ []) 1 1 1 (no_fit NO_ROOM)
    ∷ refusal (0x42 ∷ 0x61 ∷ 0x61 ∷ 0x61 ∷ 0xf3 ∷ 1 ∷ []) 3 2 1 (no_fit NO_ROOM)
    ∷ refusal (0x42 ∷ 0x61 ∷ 0x61 ∷ 0x61 ∷ 0xf3 ∷ 1 ∷ []) 4 2 1 (no_fit FULL)
    ∷ refusal (0x42 ∷ 0x61 ∷ 0x61 ∷ 0x61 ∷ 0xf3 ∷ 1 ∷ []) 5 2 2 (no_fit NO_ROOM)
    ∷ []
