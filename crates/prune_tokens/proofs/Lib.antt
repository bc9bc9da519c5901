-- the tokens of a value, one after the other
pub mod Heads
