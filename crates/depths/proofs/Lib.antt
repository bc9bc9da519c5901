-- the ways through depths
pub mod Laws
