-- The twelve marked samples of document 01, as one list: a file, a query, and what document 01 answers; the map of 2^63 pairs as document 02 (W-201)
-- has it, LONG_LIST, 10. Two of the samples ask more than one thing, and have an entry for each.
--
--   Query            check and depths, each with tables of four words; an item of the value at an offset; the value at an offset; where it ends; the
--                    end of the chain from an offset; the value of a key in the map at an offset; the body at an offset
--   SampleAnswer     check's answer and table, and the depths; an offset; a value; a first offset and a length, or an offset and hops
--   sample_answer mode file q
--                    the answer by the definitions that the contracts cite
--   refused f place  check's error f at `place`, which leaves zeros
--   Answered mode xs the definitions give each sample of the list xs its answer
--   samples          the list
--   end_samples       W-201: what goes past the region's end, or just reaches it, by the readings of docs/READINGS.md. In order: lengths, the item's among
--                    them, and before BAD_TEXT (D1, D3, A10); counts of items, pairs and arguments, and one pair that fits (A8, A9, D1); a number, a float
--                    and the one item of a tag (A10, D2, A5); the greatest n of each kind with a length or count, and one more (A3); queries (B3)
--   text_samples      W-202: its surrogate; both sides of each border: 7FF in three bytes and 800; D7FF, DFFF and E000; FFFF in four bytes and 10000; 10FFFF
--                    and 110000; the ends of the other ranges; bytes that begin no character, and document 01's `42 c3 28 02`; a character that is cut by
--                    the body's end (E2); a surrogate as an item, at its own header; queries, which do not look at a text's bytes (E1)
--   both_samples      W-203: files with numbers in more bytes than they need, a query, and what the tolerant mode and the strict one answer. In order:
--                    `1f 80 00 02`; five and ten bytes, the tenth 0 (A2); both numbers of a variant of many, and the second alone; a number of ten bytes
--                    over 2 ^ 35, and one that is out of range; a length and counts past the region's end; a map of 15 pairs; an item after a padded one;
--                    a text with its length in five bytes, and a pointer to it with its distance in five; a lookup that follows such a pointer. The
--                    strict answer is OVERLONG, at the header with the number, unless the query stops before that header
--   padded_samples    the tolerant answers
--   overlong_samples  the strict answers
--   range_samples     W-203, "ten bytes and RANGE stay": the tenth byte 1, 2 and 80, a number without a last byte, and eleven bytes, in both modes
--   TextCall         bytes, and the answer to them as a text
--   text_answer c     what a new writer answers, with an output of eight bytes and a table of one word
--   text_calls        W-202: the same borders
use Rattle.std.specs.Prelude.{ℕ, ◌+◌, ◌-◌, ◌^◌, ◌≡◌, List, [], ◌∷◌, ◌++◌, map, pos, negsuc, replicate}
use Rattle.prelude.specs.Answer.{Answer, ok, error}
use Rattle.error.specs.Error.{Fault, fault, EMPTY, TRUNC, OVERLONG, RANGE, NESTED, BAD_TEXT, BAD_TARGET, BAD_ENTRY, NO_ITEM, LONG_BODY, LONG_LIST}
use Rattle.leb128.specs.declared.Mode.{Mode}
use Rattle.reader_value.specs.Value.{read_of}
use Rattle.reader_value.specs.declared.Value.{Value}
use Rattle.reader_value.specs.declared.Value.TheVariants.{Integer, Text, Tag, VariantN}
use Rattle.reader_items.specs.Items.{skip_of, item_of}
use Rattle.reader_follow.specs.Follow.{follow_of}
use Rattle.reader_body.specs.Body.{body_place_of}
use Rattle.reader_lookup.specs.Lookup.{lookup_of}
use Rattle.checker.specs.Check.{Checked, checked, check_of}
use Rattle.depths.specs.Depths.{depths_of}
use Rattle.writer.specs.Call.{text}
use Rattle.writer.specs.Step.{fresh, step}

pub data Query : Type 0 where
  check : Query
  item : ℕ → ℕ → Query
  read : ℕ → Query
  skip : ℕ → Query
  follow : ℕ → Query
  lookup : ℕ → List ℕ → Query
  body : ℕ → Query

pub data SampleAnswer : Type 0 where
  table : Checked → List ℕ → SampleAnswer
  offset : Answer Fault ℕ → SampleAnswer
  value : Answer Fault Value → SampleAnswer
  part : Answer Fault (ℕ × ℕ) → SampleAnswer

unfoldable pub sample_answer : Mode → List ℕ → Query → SampleAnswer
sample_answer mode file check = table (check_of mode file 4) (depths_of mode file 4 4).depths
sample_answer mode file (item at i) = offset (item_of mode file at i)
sample_answer mode file (read at) = value (read_of mode file at)
sample_answer mode file (skip at) = offset (skip_of mode file at)
sample_answer mode file (follow at) = part (follow_of mode file at)
sample_answer mode file (lookup at key) = offset (lookup_of mode file at key)
sample_answer mode file (body at) = part (body_place_of mode file at)

abbrev refused : ℕ → ℕ → SampleAnswer
refused f place = table (checked (error (fault f place)) (replicate 4 0)) (replicate 4 0)

abbrev Sample : Type 0
Sample = (List ℕ) × Query × SampleAnswer

abbrev pub Answered : Mode → List Sample → Type 0
Answered mode xs = map (λ (x : Sample). sample_answer mode x.0 x.1) xs ≡ map (λ (x : Sample). x.2) xs

abbrev pub samples : List Sample
samples =
    ([], check, refused EMPTY 0)
    ∷ (0x00 ∷ [], check, refused BAD_ENTRY 0)
    ∷ (0x00 ∷ 0x00 ∷ [], check, table (checked (ok (1, 0)) (0 ∷ 0 ∷ 0 ∷ 0 ∷ [])) (1 ∷ 0 ∷ 0 ∷ 0 ∷ []))
    ∷ (
      0x45 ∷ 0x68 ∷ 0x65 ∷ 0x6c ∷ 0x6c ∷ 0x6f ∷ 0x61 ∷ 0xf6 ∷ 0x62 ∷ 0xf8 ∷ 0xf3 ∷ 0x72 ∷ 0x41 ∷ 0x61 ∷ 0xf5 ∷ 0x41 ∷ 0x78 ∷ 0x01 ∷ 0x06 ∷ [],
      check,
      table (checked (ok (4, 11)) (0 ∷ 6 ∷ 8 ∷ 11 ∷ [])) (1 ∷ 2 ∷ 3 ∷ 4 ∷ []),
    )
    ∷ (0x61 ∷ 0x1f ∷ 0x1b ∷ 0x64 ∷ 0xf3 ∷ 0x11 ∷ 0x12 ∷ 0x13 ∷ 0x04 ∷ [], check, table (checked (ok (2, 3)) (0 ∷ 3 ∷ 0 ∷ 0 ∷ [])) (1 ∷ 2 ∷ 0 ∷ 0 ∷ []))
    ∷ (0x61 ∷ 0x1f ∷ 0x1b ∷ 0x64 ∷ 0xf3 ∷ 0x11 ∷ 0x12 ∷ 0x13 ∷ 0x04 ∷ [], item 3 3, offset (ok 7))
    ∷ (0x61 ∷ 0x1f ∷ 0x1b ∷ 0x64 ∷ 0xf3 ∷ 0x11 ∷ 0x12 ∷ 0x13 ∷ 0x04 ∷ [], item 3 4, offset (error (fault NO_ITEM 3)))
    ∷ (0x61 ∷ 0xf0 ∷ 0x01 ∷ [], check, refused BAD_TARGET 1)
    ∷ (0x1f ∷ 0x1b ∷ 0xe1 ∷ 0x00 ∷ [], check, table (checked (ok (2, 2)) (0 ∷ 2 ∷ 0 ∷ 0 ∷ [])) (1 ∷ 2 ∷ 0 ∷ 0 ∷ []))
    ∷ (0x1f ∷ 0x80 ∷ 0x00 ∷ 0x02 ∷ [], check, refused OVERLONG 0)
    ∷ (0x61 ∷ 0x61 ∷ 0x00 ∷ 0x02 ∷ [], check, refused NESTED 1)
    ∷ (0x7f ∷ 0xf1 ∷ (replicate 7 0xff ++ (0x7f ∷ 0x00 ∷ [])), check, refused LONG_LIST 10)
    ∷ (0x2f ∷ 0xf0 ∷ (replicate 7 0xff ++ (0x7f ∷ 0x09 ∷ [])), check, table (checked (ok (1, 0)) (0 ∷ 0 ∷ 0 ∷ 0 ∷ [])) (1 ∷ 0 ∷ 0 ∷ 0 ∷ []))
    ∷ (0x2f ∷ 0xf0 ∷ (replicate 7 0xff ++ (0x7f ∷ 0x09 ∷ [])), read 0, value (ok (Integer (negsuc (2 ^ 63 - 1)))))
    ∷ (0x1f ∷ 0xf1 ∷ (replicate 7 0xff ++ (0x7f ∷ 0x09 ∷ [])), check, refused RANGE 0)
    ∷ []

-- the number 2 ^ 64 - 16 after a header h, if `last` is 0xf0, and then nothing: n is 2 ^ 64 - 1; one more for 0xf1
abbrev greatest : ℕ → ℕ → List ℕ
greatest h last = h ∷ last ∷ (replicate 8 0xff ++ (0x01 ∷ 0x00 ∷ []))

abbrev pub end_samples : List Sample
end_samples =
    (0x55 ∷ 0x61 ∷ 0x00 ∷ [], check, refused LONG_BODY 1)
    ∷ (0x61 ∷ 0x45 ∷ 0x61 ∷ 0x00 ∷ [], check, refused LONG_BODY 2)
    ∷ (0x43 ∷ 0xc3 ∷ 0x28 ∷ 0x00 ∷ [], check, refused LONG_BODY 1)
    ∷ (0x5f ∷ 0x01 ∷ 0x61 ∷ 0x00 ∷ [], check, refused LONG_BODY 2)
    ∷ (0x63 ∷ 0x90 ∷ 0x90 ∷ 0x00 ∷ [], check, refused LONG_LIST 1)
    ∷ (0x72 ∷ 0x10 ∷ 0x10 ∷ 0x10 ∷ 0x00 ∷ [], check, refused LONG_LIST 1)
    ∷ (0x71 ∷ 0x10 ∷ 0x10 ∷ 0x10 ∷ 0x00 ∷ [], check, table (checked (ok (2, 3)) (0 ∷ 3 ∷ 0 ∷ 0 ∷ [])) (1 ∷ 1 ∷ 0 ∷ 0 ∷ []))
    ∷ (0xc0 ∷ 0x05 ∷ 0x10 ∷ 0x00 ∷ [], check, refused LONG_LIST 2)
    ∷ (0xcf ∷ 0x00 ∷ 0x85 ∷ 0x01 ∷ 0x10 ∷ 0x00 ∷ [], check, refused LONG_LIST 4)
    ∷ (0x61 ∷ 0x1f ∷ 0x00 ∷ [], check, refused TRUNC 1)
    ∷ (0x30 ∷ 0x10 ∷ 0x10 ∷ 0x10 ∷ 0x00 ∷ [], check, refused TRUNC 0)
    ∷ (0x80 ∷ 0x00 ∷ [], check, refused TRUNC 1)
    ∷ (greatest 0x4f 0xf0, check, refused LONG_BODY 11)
    ∷ (greatest 0x4f 0xf1, check, refused RANGE 0)
    ∷ (greatest 0x5f 0xf0, check, refused LONG_BODY 11)
    ∷ (greatest 0x5f 0xf1, check, refused RANGE 0)
    ∷ (greatest 0x6f 0xf0, check, refused LONG_LIST 11)
    ∷ (greatest 0x6f 0xf1, check, refused RANGE 0)
    ∷ (greatest 0x7f 0xf0, check, refused LONG_LIST 11)
    ∷ (greatest 0x7f 0xf1, check, refused RANGE 0)
    ∷ (0xcf ∷ 0xf0 ∷ 0xff ∷ 0xff ∷ 0xff ∷ 0x0f ∷ 0x05 ∷ 0x00 ∷ [], check, refused LONG_LIST 7)
    ∷ (0xcf ∷ 0xf1 ∷ 0xff ∷ 0xff ∷ 0xff ∷ 0x0f ∷ 0x05 ∷ 0x00 ∷ [], check, refused RANGE 0)
    ∷ (0x63 ∷ 0x10 ∷ 0x00 ∷ [], read 0, value (error (fault LONG_LIST 1)))
    ∷ (0x62 ∷ 0x45 ∷ 0x61 ∷ 0x00 ∷ [], item 0 1, offset (error (fault LONG_BODY 2)))
    ∷ []

-- one value, at 0
abbrev one : SampleAnswer
one = table (checked (ok (1, 0)) (0 ∷ 0 ∷ 0 ∷ 0 ∷ [])) (1 ∷ 0 ∷ 0 ∷ 0 ∷ [])

-- the first and the last character of the other ranges: 0, 7F; 80, 7FF; 1000, CFFF; D000; FFFF; 40000, FFFFF; 100000
abbrev ends : List ℕ
ends =
    0x00 ∷ 0x7f ∷ 0xc2 ∷ 0x80 ∷ 0xdf ∷ 0xbf ∷ 0xe1 ∷ 0x80 ∷ 0x80 ∷ 0xec ∷ 0xbf ∷ 0xbf ∷ 0xed ∷ 0x80 ∷ 0x80 ∷ 0xef ∷ 0xbf ∷ 0xbf
    ∷ 0xf1 ∷ 0x80 ∷ 0x80 ∷ 0x80 ∷ 0xf3 ∷ 0xbf ∷ 0xbf ∷ 0xbf ∷ 0xf4 ∷ 0x80 ∷ 0x80 ∷ 0x80 ∷ []

abbrev pub text_samples : List Sample
text_samples =
    (0x43 ∷ 0xed ∷ 0xa0 ∷ 0x80 ∷ 0x03 ∷ [], check, refused BAD_TEXT 0)
    ∷ (0x43 ∷ 0xe0 ∷ 0x9f ∷ 0xbf ∷ 0x03 ∷ [], check, refused BAD_TEXT 0)
    ∷ (0x43 ∷ 0xe0 ∷ 0xa0 ∷ 0x80 ∷ 0x03 ∷ [], check, one)
    ∷ (0x43 ∷ 0xed ∷ 0x9f ∷ 0xbf ∷ 0x03 ∷ [], check, one)
    ∷ (0x43 ∷ 0xed ∷ 0xbf ∷ 0xbf ∷ 0x03 ∷ [], check, refused BAD_TEXT 0)
    ∷ (0x43 ∷ 0xee ∷ 0x80 ∷ 0x80 ∷ 0x03 ∷ [], check, one)
    ∷ (0x44 ∷ 0xf0 ∷ 0x8f ∷ 0xbf ∷ 0xbf ∷ 0x04 ∷ [], check, refused BAD_TEXT 0)
    ∷ (0x44 ∷ 0xf0 ∷ 0x90 ∷ 0x80 ∷ 0x80 ∷ 0x04 ∷ [], check, one)
    ∷ (0x44 ∷ 0xf4 ∷ 0x8f ∷ 0xbf ∷ 0xbf ∷ 0x04 ∷ [], check, one)
    ∷ (0x44 ∷ 0xf4 ∷ 0x90 ∷ 0x80 ∷ 0x80 ∷ 0x04 ∷ [], check, refused BAD_TEXT 0)
    ∷ (0x4f ∷ 0x0f ∷ (ends ++ (0x1f ∷ [])), check, one)
    ∷ (0x41 ∷ 0x80 ∷ 0x01 ∷ [], check, refused BAD_TEXT 0)
    ∷ (0x42 ∷ 0xc1 ∷ 0xbf ∷ 0x02 ∷ [], check, refused BAD_TEXT 0)
    ∷ (0x44 ∷ 0xf5 ∷ 0x80 ∷ 0x80 ∷ 0x80 ∷ 0x04 ∷ [], check, refused BAD_TEXT 0)
    ∷ (0x42 ∷ 0xc3 ∷ 0x28 ∷ 0x02 ∷ [], check, refused BAD_TEXT 0)
    ∷ (0x42 ∷ 0xe2 ∷ 0x82 ∷ 0x02 ∷ [], check, refused BAD_TEXT 0)
    ∷ (0x61 ∷ 0x43 ∷ 0xed ∷ 0xa0 ∷ 0x80 ∷ 0x04 ∷ [], check, refused BAD_TEXT 1)
    ∷ (0x43 ∷ 0xed ∷ 0xa0 ∷ 0x80 ∷ 0x03 ∷ [], read 0, value (ok (Text 1 3)))
    ∷ (0x43 ∷ 0xed ∷ 0xa0 ∷ 0x80 ∷ 0x03 ∷ [], skip 0, offset (ok 4))
    ∷ (0x43 ∷ 0xed ∷ 0xa0 ∷ 0x80 ∷ 0x03 ∷ [], body 0, part (ok (1, 3)))
    ∷ (0x71 ∷ 0x43 ∷ 0xed ∷ 0xa0 ∷ 0x80 ∷ 0x10 ∷ 0x00 ∷ [], lookup 0 (0xed ∷ 0xa0 ∷ 0x80 ∷ []), offset (ok 5))
    ∷ []

-- the number v, below 128, in five bytes
abbrev five : ℕ → List ℕ
five v = (v + 128) ∷ (replicate 3 0x80 ++ (0x00 ∷ []))

-- a text of 15 bytes with its length in five, 21 bytes in all
abbrev label : List ℕ
label = 0x4f ∷ (five 0 ++ replicate 15 0x61)

-- nine continuation bytes and a tenth
abbrev ten : ℕ → List ℕ
ten last = replicate 9 0x80 ++ (last ∷ [])

-- a text "a"; a label; a map at 23 whose key, at 24, is a pointer to the text with its distance in five bytes, and whose value, at 30, is 0
abbrev keyed : List ℕ
keyed = 0x41 ∷ 0x61 ∷ (label ++ (0x71 ∷ 0xff ∷ (five 8 ++ (0x10 ∷ 0x07 ∷ []))))

-- a file, a query, and the answers of the tolerant mode and of the strict one
abbrev Both : Type 0
Both = Sample × SampleAnswer

abbrev both_samples : List Both
both_samples =
    ((0x1f ∷ 0x80 ∷ 0x00 ∷ 0x02 ∷ [], check, one), refused OVERLONG 0)
    ∷ ((0x1f ∷ 0x80 ∷ 0x00 ∷ 0x02 ∷ [], read 0, value (ok (Integer (pos 15)))), value (error (fault OVERLONG 0)))
    ∷ ((0x1f ∷ 0xff ∷ 0x81 ∷ 0x80 ∷ 0x80 ∷ 0x00 ∷ 0x05 ∷ [], read 0, value (ok (Integer (pos 270)))), value (error (fault OVERLONG 0)))
    ∷ ((0x1f ∷ (ten 0x00 ++ (0x0a ∷ [])), check, one), refused OVERLONG 0)
    ∷ ((0x1f ∷ (ten 0x00 ++ (0x0a ∷ [])), read 0, value (ok (Integer (pos 15)))), value (error (fault OVERLONG 0)))
    ∷ ((0xcf ∷ 0x80 ∷ 0x00 ∷ 0x81 ∷ 0x00 ∷ 0x10 ∷ 0x05 ∷ [], check, one), refused OVERLONG 0)
    ∷ ((0xcf ∷ 0x80 ∷ 0x00 ∷ 0x81 ∷ 0x00 ∷ 0x10 ∷ 0x05 ∷ [], read 0, value (ok (VariantN 15 1 5))), value (error (fault OVERLONG 0)))
    ∷ ((0xc0 ∷ 0x81 ∷ 0x00 ∷ 0x10 ∷ 0x03 ∷ [], check, one), refused OVERLONG 0)
    ∷ ((0xc0 ∷ 0x81 ∷ 0x00 ∷ 0x10 ∷ 0x03 ∷ [], item 0 0, offset (ok 3)), offset (error (fault OVERLONG 0)))
    ∷ (
      (0x8f ∷ (replicate 5 0x80 ++ (0x81 ∷ 0x80 ∷ 0x80 ∷ 0x80 ∷ 0x00 ∷ 0x10 ∷ 0x0b ∷ [])), read 0, value (ok (Tag (2 ^ 35 + 15) 11))),
      value (error (fault OVERLONG 0)),
    )
    ∷ ((0xaf ∷ 0xf1 ∷ 0xff ∷ 0xff ∷ 0xff ∷ 0x8f ∷ 0x00 ∷ 0x06 ∷ [], check, refused RANGE 0), refused OVERLONG 0)
    ∷ ((0x4f ∷ 0xf1 ∷ 0x80 ∷ 0x00 ∷ 0x61 ∷ 0x00 ∷ [], check, refused LONG_BODY 4), refused OVERLONG 0)
    ∷ ((0x6f ∷ 0x81 ∷ 0x80 ∷ 0x00 ∷ 0x10 ∷ 0x00 ∷ [], check, refused LONG_LIST 4), refused OVERLONG 0)
    ∷ ((0x7f ∷ (five 0 ++ (replicate 30 0x10 ++ (0x23 ∷ []))), check, one), refused OVERLONG 0)
    ∷ ((0x62 ∷ 0x1f ∷ 0x80 ∷ 0x00 ∷ 0x10 ∷ 0x04 ∷ [], item 0 0, offset (ok 1)), offset (ok 1))
    ∷ ((0x62 ∷ 0x1f ∷ 0x80 ∷ 0x00 ∷ 0x10 ∷ 0x04 ∷ [], item 0 1, offset (ok 4)), offset (error (fault OVERLONG 1)))
    ∷ ((0x62 ∷ 0x1f ∷ 0x80 ∷ 0x00 ∷ 0x10 ∷ 0x04 ∷ [], skip 0, offset (ok 5)), offset (error (fault OVERLONG 1)))
    ∷ ((label ++ (0x14 ∷ []), check, one), refused OVERLONG 0)
    ∷ ((label ++ (0x14 ∷ []), skip 0, offset (ok 21)), offset (error (fault OVERLONG 0)))
    ∷ ((label ++ (0x14 ∷ []), body 0, part (ok (6, 15))), part (error (fault OVERLONG 0)))
    ∷ ((label ++ (0xff ∷ (five 5 ++ (0x05 ∷ []))), check, table (checked (ok (2, 21)) (0 ∷ 21 ∷ 0 ∷ 0 ∷ [])) (1 ∷ 2 ∷ 0 ∷ 0 ∷ [])), refused OVERLONG 0)
    ∷ ((label ++ (0xff ∷ (five 5 ++ (0x05 ∷ []))), follow 21, part (ok (0, 1))), part (error (fault OVERLONG 21)))
    ∷ ((label ++ (0xff ∷ (five 5 ++ (0x05 ∷ []))), body 21, part (ok (6, 15))), part (error (fault OVERLONG 21)))
    ∷ ((label ++ (0xff ∷ (five 6 ++ (0x05 ∷ []))), check, refused BAD_TARGET 21), refused OVERLONG 0)
    ∷ ((label ++ (0xff ∷ 0x05 ∷ 0x01 ∷ []), follow 21, part (ok (0, 1))), part (error (fault OVERLONG 0)))
    ∷ ((keyed, check, table (checked (ok (3, 23)) (0 ∷ 2 ∷ 23 ∷ 0 ∷ [])) (1 ∷ 1 ∷ 2 ∷ 0 ∷ [])), refused OVERLONG 2)
    ∷ ((keyed, lookup 23 (0x61 ∷ []), offset (ok 30)), offset (error (fault OVERLONG 24)))
    ∷ []

abbrev pub padded_samples : List Sample
padded_samples = map (λ (x : Both). x.0) both_samples

abbrev pub overlong_samples : List Sample
overlong_samples = map (λ (x : Both). (x.0.0, x.0.1, x.1)) both_samples

abbrev pub range_samples : List Sample
range_samples =
    (0x1f ∷ (ten 0x01 ++ (0x0a ∷ [])), check, refused RANGE 0)
    ∷ (0x8f ∷ (ten 0x01 ++ (0x10 ∷ 0x0b ∷ [])), check, one)
    ∷ (0x8f ∷ (ten 0x01 ++ (0x10 ∷ 0x0b ∷ [])), read 0, value (ok (Tag (2 ^ 63 + 15) 11)))
    ∷ (0x8f ∷ (ten 0x02 ++ (0x10 ∷ 0x0b ∷ [])), check, refused RANGE 0)
    ∷ (0x8f ∷ (ten 0x80 ++ (0x00 ∷ 0x10 ∷ 0x0c ∷ [])), check, refused RANGE 0)
    ∷ (0xc0 ∷ (ten 0x02 ++ (0x10 ∷ 0x0b ∷ [])), check, refused RANGE 0)
    ∷ (0xc0 ∷ (replicate 9 0xff ++ (0x01 ∷ 0x00 ∷ [])), check, refused LONG_LIST 11)
    ∷ (0x1f ∷ (replicate 9 0x80 ++ (0x00 ∷ [])), check, refused TRUNC 0)
    ∷ (0x1f ∷ (ten 0x80 ++ (0x00 ∷ [])), check, refused RANGE 0)
    ∷ []

abbrev pub TextCall : Type 0
TextCall = (List ℕ) × Answer ℕ (Unit {0})

unfoldable pub text_answer : TextCall → Answer ℕ (Unit {0})
text_answer c = (step (text c.0) fresh (replicate 8 0) (0 ∷ [])).answer

abbrev pub text_calls : List TextCall
text_calls =
    (0xed ∷ 0xa0 ∷ 0x80 ∷ [], error BAD_TEXT)
    ∷ (0xe0 ∷ 0x9f ∷ 0xbf ∷ [], error BAD_TEXT)
    ∷ (0xe0 ∷ 0xa0 ∷ 0x80 ∷ [], ok tt)
    ∷ (0xed ∷ 0x9f ∷ 0xbf ∷ [], ok tt)
    ∷ (0xee ∷ 0x80 ∷ 0x80 ∷ [], ok tt)
    ∷ (0xf0 ∷ 0x8f ∷ 0xbf ∷ 0xbf ∷ [], error BAD_TEXT)
    ∷ (0xf0 ∷ 0x90 ∷ 0x80 ∷ 0x80 ∷ [], ok tt)
    ∷ (0xf4 ∷ 0x8f ∷ 0xbf ∷ 0xbf ∷ [], ok tt)
    ∷ (0xf4 ∷ 0x90 ∷ 0x80 ∷ 0x80 ∷ [], error BAD_TEXT)
    ∷ []
