-- laws of the names
pub mod Laws
