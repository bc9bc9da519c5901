-- the body that a value is or leads to
pub mod Body
-- what the code's answers mean
pub mod Answers
