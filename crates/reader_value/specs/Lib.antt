-- what `read` returns
pub mod Value
-- the same in document 01's numbers
pub mod Row
-- what the code's answers mean
pub mod Answers
