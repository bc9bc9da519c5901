-- `little` and `from_little`, one after the other; `load` from the front of bytes
pub mod Laws
-- the definitions on examples
mod Samples
