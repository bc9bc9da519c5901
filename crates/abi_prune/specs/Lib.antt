-- what prune answers and leaves
pub mod Prune
