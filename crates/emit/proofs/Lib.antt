-- a token's two numbers, as the code has them
pub mod Numbers
