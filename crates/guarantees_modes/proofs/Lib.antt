-- two answers that are the same unless the first is an exception
mod Either
-- a token in both modes
mod Tokens
-- the queries
mod Queries
-- check
mod Checks
-- the tokens of a region that check accepted
mod Walks
-- depths
mod Depths
-- the modes agree
pub mod Theorems
-- a file for which they differ
mod Samples
