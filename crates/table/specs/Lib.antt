-- how many words of a table come before each block
pub mod Blocks
