-- The lists of calls write the bytes that document 01 has for them, by computation of the definition that the writer's
-- contracts cite.
use mathlib.Core.Path.{◌≡◌, refl}
use mathlib.Core.List.{map}
use Rattle.prelude.specs.Search.{among}
use Rattle.leb128.specs.Leb.{put}
use Rattle.utf8.specs.Text.{lead, next, text_from}
use Rattle.little_endian.specs.LittleEndian.{little}
use Rattle.kind.specs.Kind.{rule}
use Rattle.token.specs.Token.{put_if, emit}
use Rattle.writer_refusal.specs.Refusal.{refusal_of}
use Rattle.writer.specs.Step.{token_refusal, delta_refusal, write, write_delta, write_pointer_delta, put_token as puts, close_at}
use Rattle.writer.specs.Runs.{runs}
use Rattle.guarantees_writer.specs.Written.{writes, expects, written}

pub the_written : map writes written ≡ map expects written
unfolding writes runs among put lead next text_from little rule put_if emit refusal_of token_refusal delta_refusal write write_delta write_pointer_delta puts close_at
the_written = refl
