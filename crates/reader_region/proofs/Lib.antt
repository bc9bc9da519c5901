-- laws of a file's region, and of a head that was looked at
pub mod Laws
