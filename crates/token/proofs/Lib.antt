-- `scan` and `emit`, one after the other, both ways
pub mod Laws
-- what `scan` leaves of the bytes
pub mod Ends
-- the definitions on examples
mod Samples
