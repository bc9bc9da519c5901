-- what the answer means
pub mod Answers
