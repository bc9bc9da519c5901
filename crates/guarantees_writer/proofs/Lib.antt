-- the writer's calls: what a refused one and an accepted one change
pub mod Calls
-- what an accepted call leaves
pub mod Results
-- an open value can always be finished
pub mod Finish
-- the errors of the writer's calls
pub mod Errors
-- the laws of the reference model's values
pub mod Models
-- the writer does what the reference model says
pub mod History
-- what a call is refused for, in any state
pub mod RefusedCall
-- what an accepted call writes, in any state
pub mod AcceptedCall
-- the model's parts, and the bytes written, are those of the accepted calls
pub mod AcceptedParts
-- output and table may get longer between two calls
pub mod Longer
-- how many words are always enough
pub mod EnoughWords
-- lists of calls joined, and what comes after a close
pub mod Lists
-- lists of calls write their bytes
pub mod Written
