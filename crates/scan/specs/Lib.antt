-- what the answer of `scan` means: `scan_at`
pub mod Answers
-- what remains to be read of a token
pub mod Internal
