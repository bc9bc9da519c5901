-- `put` and `get`, one after the other, both ways
pub mod Laws
-- how many bytes `put` yields
pub mod Sizes
-- the bytes of a number in each mode
pub mod Spellings
-- the bytes of a number in the tolerant mode: the shortest, padded
pub mod Padding
-- the steps of `get`, as the code takes them
mod Steps
-- the definitions on examples
mod Samples
