-- laws of the table
pub mod Laws
-- its columns
mod Samples
