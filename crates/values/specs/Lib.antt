-- values, where they start, and the well-formed file
pub mod Values
-- paths and depth
pub mod Paths
