-- one pass down marks exactly what is reached
pub mod Sweep
-- what paths from a value meet
pub mod Reached
-- the values that are kept are all reached again
pub mod Live
-- the values that are kept are settled
pub mod Unique
-- the tokens of a value, as scans find them
pub mod Heads
-- values that are written elsewhere: no distance grows
pub mod Shorter
-- the numbers of the marks that are set
mod Numbers
-- the marked values, written again
pub mod Kept
-- calls up to the first refused one
pub mod Runs
-- the calls of a file, with enough memory and with too little
pub mod Memory
-- the marked values are written by the calls of the new values
pub mod Calls
-- and are bytes
pub mod Bytes
-- what prune leaves
pub mod Prunes
-- the new file is settled, and pruning it changes nothing
pub mod Again
-- prune's refusals, and all of its answers
pub mod Answers
-- samples, by computation
mod Samples
-- the theorems, restated in their order
pub mod Main
