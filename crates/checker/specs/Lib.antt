-- check: the walk, the entry, the table
pub mod Check
-- what the code's answers mean
pub mod Answers
-- what the private functions return
pub mod Internal
