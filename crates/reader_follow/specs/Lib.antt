-- from pointer to pointer
pub mod Follow
-- what the code's answers mean
pub mod Answers
