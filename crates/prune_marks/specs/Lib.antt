-- starts with a mark and a digit each
pub mod Marks
-- what private functions ensure
pub mod Internal
