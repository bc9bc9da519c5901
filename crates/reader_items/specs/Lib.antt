-- items one after the other; skip and item
pub mod Items
