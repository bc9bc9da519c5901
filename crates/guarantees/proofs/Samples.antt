-- The twelve marked samples of document 01, and samples of W-201, W-202 and W-203, by computation of the definitions that the contracts cite.
use mathlib.Core.Path.{◌≡◌, refl}
use mathlib.Core.List.{map}
use Rattle.prelude.specs.Answer.{bind, guard, then, or_error, ◌>>◌, ◌>>=◌}
use Rattle.prelude.specs.Loop.{run, from}
use Rattle.prelude.specs.Search.{among, rank}
use Rattle.leb128.specs.Leb.{get, put}
use Rattle.leb128.specs.declared.Mode.{Mode}
use Rattle.leb128.specs.declared.Mode.TheVariants.{Strict, Tolerant}
use Rattle.kind.specs.Kind.{rule}
use Rattle.token.specs.Token.{put_if, emit}
use Rattle.token.specs.Scan.{get_if, number, body, scan_kind, scan}
use Rattle.scan.specs.Answers.{head_of, scan_at}
use Rattle.utf8.specs.Text.{lead, next, text_from}
use Rattle.reader_region.specs.Region.{region_len, in_region, peek_in}
use Rattle.reader_value.specs.Value.{value_on, read_in}
use Rattle.reader_items.specs.Items.{skip_items, skip_in, starts_in, item_on, item_in}
use Rattle.reader_follow.specs.Follow.{follow_turn, follow_from, follow_in}
use Rattle.reader_body.specs.Body.{body_place_in}
use Rattle.reader_lookup.specs.Lookup as lookups
use Rattle.checker_value.specs.Walk as walks
use Rattle.checker.specs.Check as check
use Rattle.depths_value.specs.Depth as deep
use Rattle.depths.specs.Depths.{depths_of}
use Rattle.writer_refusal.specs.Refusal.{refusal_of}
use Rattle.writer.specs.Step.{token_refusal, write, put_token}
use Rattle.guarantees.specs.Samples.{sample_answer, Answered, samples, end_samples, text_samples, padded_samples, overlong_samples, range_samples}
use Rattle.guarantees.specs.Samples.{TextCall, text_answer, text_calls}

-- what the strict mode answers, and what the tolerant one answers
both : (Answered Strict samples × Answered Strict end_samples × Answered Strict text_samples × Answered Strict overlong_samples × Answered Strict range_samples)
    × (Answered Tolerant end_samples × Answered Tolerant text_samples × Answered Tolerant padded_samples × Answered Tolerant range_samples)
unfolding sample_answer bind guard then or_error ◌>>◌ ◌>>=◌ run from among rank get rule get_if number body scan_kind scan
    head_of scan_at lead next text_from region_len in_region peek_in skip_items skip_in value_on read_in starts_in item_on item_in
    follow_turn follow_from follow_in body_place_in lookups.same lookups.pairs lookups.lookup_in
    walks.has_target walks.token_fault walks.next_token walks.walk_after walks.walk_turn walks.starts_from check.entry_at
    check.check_in check.check_of deep.depth_turn deep.deepest_from deep.depth_at deep.depths_to depths_of
both = ((refl, refl, refl, refl, refl), (refl, refl, refl, refl))

pub the_samples : Answered Strict samples
the_samples = both.0.0

pub the_ends : (mode : Mode) → Answered mode end_samples
the_ends Strict = both.0.1
the_ends Tolerant = both.1.0

pub the_texts : (mode : Mode) → Answered mode text_samples
the_texts Strict = both.0.2
the_texts Tolerant = both.1.1

pub the_padded : Answered Tolerant padded_samples × Answered Strict overlong_samples
the_padded = (both.1.2, both.0.3)

pub the_ranges : (mode : Mode) → Answered mode range_samples
the_ranges Strict = both.0.4
the_ranges Tolerant = both.1.3

pub the_text_calls : map text_answer text_calls ≡ map (λ (x : TextCall). x.1) text_calls
unfolding text_answer among put rule lead next text_from put_if emit refusal_of token_refusal write put_token
the_text_calls = refl
