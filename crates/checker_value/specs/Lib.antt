-- the walk over a region's tokens
pub mod Walk
-- what the functions return, in terms of the walk
pub mod Internal
