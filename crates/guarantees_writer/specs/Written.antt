-- Lists of calls with the bytes that they write by the papers' rules: a part of each kind; document 001's file; and document 01's two samples of a
-- close.
--
--   Sample, sample cs n m b ss
--                 the calls cs, with an output of n bytes and a table of m words, are all accepted; then the bytes b
--                 are written and the starts ss listed
--   writes s      the bytes written, the starts listed and the answers, by the definition that the writer's contracts
--                 cite; output and table hold ones at first
--   expects s     the same, as the sample says
--   written       the samples
use Rattle.std.specs.Prelude.{ℕ, List, [], ◌∷◌, ◌++◌, map, pos, negsuc, take, replicate}
use Rattle.prelude.specs.Answer.{ok}
use Rattle.writer_refusal.specs.Refusal.{Verdict}
use Rattle.writer.specs.Call.{Call, scalar, integer, float32, float64, text, bytes, variant, reference, pointer, open_array, open_map, open_tag, open_variant1}
use Rattle.writer.specs.Call.{open_variant_n, close}
use Rattle.writer.specs.Step.{fresh}
use Rattle.writer.specs.Runs.{runs}
use Rattle.writer.specs.declared.Scalar.TheVariants.{False, True, Null}

pub record Sample : Type 0 where
  pub calls : List Call
  pub room : ℕ
  pub words : ℕ
  pub bytes : List ℕ
  pub starts : List ℕ

abbrev sample : List Call → ℕ → ℕ → List ℕ → List ℕ → Sample
sample cs n m b ss = record { calls = cs; room = n; words = m; bytes = b; starts = ss }

unfoldable pub writes : Sample → (List ℕ) × (List ℕ) × (List Verdict)
writes s =
    let r = runs s.calls fresh (replicate s.room 1) (replicate s.words 1) in
    (take r.writer.written r.out, take r.writer.count r.table, r.answers)

abbrev pub expects : Sample → (List ℕ) × (List ℕ) × (List Verdict)
expects s = (s.bytes, s.starts, map (λ c. ok tt) s.calls)

abbrev pub written : List Sample
written =
    sample
    (scalar Null ∷ integer (pos 15) ∷ integer (negsuc 143) ∷ float32 0x3f800000 ∷ float64 1 ∷ text (0x61 ∷ []) ∷ bytes (0xff ∷ [])
    ∷ open_array 1 ∷ reference 0 ∷ open_map 1 ∷ scalar False ∷ scalar True ∷ open_tag 143 ∷ integer (pos 0) ∷ variant 3 ∷ open_variant1 4 ∷ pointer 1
    ∷ open_variant_n 15 2 ∷ integer (pos 1) ∷ integer (pos 2) ∷ open_variant_n 0 0 ∷ pointer 6 ∷ close 1 ∷ [])
    99 99
    (0x02 ∷ 0x1f ∷ 0x00 ∷ 0x2f ∷ 0x80 ∷ 0x01 ∷ 0x30 ∷ 0x00 ∷ 0x00 ∷ 0x80 ∷ 0x3f
    ∷ 0x31 ∷ 0x01 ∷ 0x00 ∷ 0x00 ∷ 0x00 ∷ 0x00 ∷ 0x00 ∷ 0x00 ∷ 0x00 ∷ 0x41 ∷ 0x61 ∷ 0x51 ∷ 0xff
    ∷ 0x61 ∷ 0xef ∷ 0x09 ∷ 0x71 ∷ 0x00 ∷ 0x01 ∷ 0x8f ∷ 0x80 ∷ 0x01 ∷ 0x10 ∷ 0xa3 ∷ 0xb4 ∷ 0xff ∷ 0x13
    ∷ 0xcf ∷ 0x00 ∷ 0x02 ∷ 0x11 ∷ 0x12 ∷ 0xc0 ∷ 0x00 ∷ 0xff ∷ 0x17 ∷ 0x2d ∷ [])
    (0 ∷ 1 ∷ 3 ∷ 6 ∷ 11 ∷ 20 ∷ 22 ∷ 24 ∷ 27 ∷ 30 ∷ 34 ∷ 35 ∷ 38 ∷ 43 ∷ 45 ∷ [])
    ∷ sample
    (text (0x68 ∷ 0x65 ∷ 0x6c ∷ 0x6c ∷ 0x6f ∷ []) ∷ open_array 1 ∷ pointer 0 ∷ open_array 2 ∷ pointer 0 ∷ pointer 6
    ∷ open_map 2 ∷ text (0x61 ∷ []) ∷ pointer 8 ∷ text (0x78 ∷ []) ∷ scalar True ∷ close 11 ∷ [])
    19 4
    (0x45 ∷ 0x68 ∷ 0x65 ∷ 0x6c ∷ 0x6c ∷ 0x6f ∷ 0x61 ∷ 0xf6 ∷ 0x62 ∷ 0xf8 ∷ 0xf3 ∷ 0x72 ∷ 0x41 ∷ 0x61 ∷ 0xf5 ∷ 0x41 ∷ 0x78 ∷ 0x01 ∷ 0x06 ∷ [])
    (0 ∷ 6 ∷ 8 ∷ 11 ∷ [])
    ∷ sample (bytes (replicate 253 0) ∷ close 0 ∷ []) 257 1 (0x5f ∷ 0xee ∷ 0x01 ∷ (replicate 253 0 ++ (0xff ∷ []))) (0 ∷ [])
    ∷ sample (bytes (replicate 254 0) ∷ close 0 ∷ []) 261 2 (0x5f ∷ 0xef ∷ 0x01 ∷ (replicate 254 0 ++ (0xff ∷ 0xf1 ∷ 0x01 ∷ 0x02 ∷ []))) (0 ∷ 257 ∷ [])
    ∷ []
