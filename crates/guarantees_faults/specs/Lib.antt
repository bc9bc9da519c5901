-- what a token is refused for
pub mod Faults
-- what a query answers, and what it is refused for
pub mod Queries
