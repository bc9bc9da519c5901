-- what the entry reaches
pub mod Reach
