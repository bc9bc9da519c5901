-- the depth of a value
pub mod Laws
