-- what prune leaves
pub mod Pruned
-- the values that it writes
pub mod Internal
-- files, and what prune makes of them
pub mod Samples
