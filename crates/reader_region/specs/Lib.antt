-- a file and its region; the token at an offset, as a query looks at it
pub mod Region
-- what the code's answers mean
pub mod Answers
-- what holds for a head that was looked at
pub mod Internal
