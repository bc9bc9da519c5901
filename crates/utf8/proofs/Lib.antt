-- `is_text` decides the grammar
pub mod Laws
-- the texts are exactly the UTF-8 forms of code points
pub mod Utf8
-- the steps of the test, as the code takes them
mod Steps
-- `is_text` and UTF-8 on examples
mod Samples
