-- depths: the answer and the tables
pub mod Depths
