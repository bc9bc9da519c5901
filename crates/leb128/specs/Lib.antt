-- the numbers: `put`, `get`
pub mod Leb
-- what the answer of `get` means
pub mod Answers
-- what the private functions return
pub mod Internal
