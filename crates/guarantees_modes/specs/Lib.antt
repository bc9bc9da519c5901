-- what the two modes have in common
pub mod Modes
