-- tokens, and their bytes: `emit`
pub mod Token
-- the reader of one token: `scan`
pub mod Scan
