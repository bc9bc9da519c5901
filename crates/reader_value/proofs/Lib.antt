-- laws of the value on a head
pub mod Laws
-- the value in document 01's numbers
pub mod Rows
