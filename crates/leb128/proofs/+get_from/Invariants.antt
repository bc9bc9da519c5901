-- `leb128::get_from` meets its contract: each call reads one byte, and the bytes allowed after it fall.
use Rattle.leb128.proofs.+get_from.Given as goal

abbrev pub decreases-get_from : goal.decreases-get_from
decreases-get_from l = l.k
