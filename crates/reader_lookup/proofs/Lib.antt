-- laws of pairs, and of bytes held against each other
pub mod Laws
-- two lists compared from an index on
pub mod Same
