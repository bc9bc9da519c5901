-- the mode's numbers in the C interface
pub mod Modes
-- they are what `read` answers
pub mod ReadRow
