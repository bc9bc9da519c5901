-- members of lists: `among` and `Each`
pub mod Members
-- bytes, starts and targets of values, and what each value and item has
pub mod Laws
-- a file has at most one reading
pub mod Unique
-- what is well formed in the strict mode is so in either
pub mod Modes
-- paths go back, and the depths are those of the longest paths
pub mod Depths
-- where a value leads, by its tokens
pub mod Leads
-- the definitions on examples
mod Samples
