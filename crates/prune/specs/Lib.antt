-- prune
pub mod Prune
-- what its answer means
pub mod Answers
-- what the functions inside require
pub mod Internal
