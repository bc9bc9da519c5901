-- words with a start, a digit and a mark
pub mod Words
-- marks counted and numbered
mod Numbering
