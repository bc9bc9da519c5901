-- words counted by blocks
pub mod Blocks
