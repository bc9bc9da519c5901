-- Samples of prune, by computation of the definition that its contract cites.
use mathlib.Core.Path.{◌≡◌, refl}
use mathlib.Core.List.{map}
use Rattle.prelude.specs.Answer.{bind, guard, then, or_error, ◌>>◌, ◌>>=◌}
use Rattle.prelude.specs.Loop.{run, from}
use Rattle.prelude.specs.Search.{among, rank}
use Rattle.leb128.specs.Leb.{get, put}
use Rattle.kind.specs.Kind.{rule}
use Rattle.token.specs.Token.{put_if, emit}
use Rattle.token.specs.Scan.{get_if, number, body, scan_kind, scan}
use Rattle.scan.specs.Answers.{head_of, scan_at}
use Rattle.utf8.specs.Text.{lead, next, text_from}
use Rattle.checker_value.specs.Walk as walks
use Rattle.checker.specs.Check as check
use Rattle.writer_refusal.specs.Refusal.{refusal_of}
use Rattle.writer.specs.Step.{token_refusal, delta_refusal, write, write_delta, write_pointer_delta, put_token, moved_to, put_moved, close_at}
use Rattle.prune_tokens.specs.Tokens.{heads_in, heads, heads_of}
use Rattle.prune_marks.specs.Marks.{kept}
use Rattle.prune_reach.specs.Reach.{aims, marked, sweep, reached}
use Rattle.prune_copy.specs.Copy.{copy_tokens, copy_values}
use Rattle.prune.specs.Prune.{new_file, prune_of}
use Rattle.guarantees_prune.specs.Samples.{Sample, prune_sample, samples, refusals}

pub the_prunings : (map prune_sample samples ≡ map (λ (s : Sample). s.leaves) samples) × (map prune_sample refusals ≡ map (λ (s : Sample). s.leaves) refusals)
unfolding prune_sample bind guard then or_error ◌>>◌ ◌>>=◌ run from among rank get put rule put_if emit get_if number body scan_kind scan head_of scan_at
    lead next text_from walks.has_target walks.token_fault walks.next_token walks.walk_after walks.walk_turn walks.starts_from check.entry_at check.check_in
    check.check_of refusal_of token_refusal delta_refusal write write_delta write_pointer_delta put_token moved_to put_moved close_at heads_in heads heads_of kept
    aims marked sweep reached copy_tokens copy_values new_file prune_of
the_prunings = (refl, refl)
