-- the marked values, written again
pub mod Copy
-- what the functions require
pub mod Internal
