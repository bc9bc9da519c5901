-- the writer's calls
pub mod Calls
-- what holds for C's calls besides their contracts
pub mod Theorems
