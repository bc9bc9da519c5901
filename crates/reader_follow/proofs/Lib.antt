-- laws of following
pub mod Laws
