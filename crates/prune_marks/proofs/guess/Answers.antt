-- `prune_marks::guess` is safe.
use Rattle.prune_marks.proofs.Words.{guess_fits}
use Rattle.prune_marks.proofs.guess.Goals as goal

pub overflow_mul-result : goal.overflow_mul-result
overflow_mul-result c = search guess_fits
