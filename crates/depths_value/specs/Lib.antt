-- the depth of a value: one more than the greatest depth of its targets
pub mod Depth
-- what the functions require
pub mod Internal
