-- the ways through prune
mod Laws
-- a list whose first elements are zeros
pub mod Fills
