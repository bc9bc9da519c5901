-- readers taken apart, for a property of their answer
mod Readers
-- `get` answers as the bytes say
mod Numbers
-- the kinds that announce a body or items
pub mod Shortages
-- `scan` refuses a token exactly so
pub mod Heads
-- the walk refuses a token exactly so
pub mod Refused
-- its place and its number
pub mod Places
-- the queries answer, and refuse, exactly so
pub mod Queries
-- .. and lookup
pub mod Lookups
-- a token's rows on examples
mod Samples
-- the queries' relations on examples
mod QuerySamples
