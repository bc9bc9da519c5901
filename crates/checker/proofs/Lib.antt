-- the ways through check
pub mod Checks
-- what check found
pub mod Found
