-- laws of items one after the other
pub mod Laws
