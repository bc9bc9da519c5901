-- a number and words; the errors' names
pub mod Reply
