-- the writer's state as five words, and its calls
pub mod Calls
