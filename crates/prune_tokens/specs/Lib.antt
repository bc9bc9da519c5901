-- the tokens of a value
pub mod Tokens
