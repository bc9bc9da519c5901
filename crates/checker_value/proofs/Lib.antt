-- the walk: what holds at each turn, and the ways through a value
pub mod Walks
