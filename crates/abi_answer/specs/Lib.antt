-- what the mode and the answers are in C
pub mod Answers
-- what `twine_read` returns: a row for each kind
pub mod Read
