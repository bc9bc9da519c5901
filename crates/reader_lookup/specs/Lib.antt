-- the value that a map has for a key
pub mod Lookup
-- what the private functions return
pub mod Internal
