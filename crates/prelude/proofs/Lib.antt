-- `pick`, tests as equations, and the rulesets
pub mod Tests
-- tables: what all rows pass, and rows that stand for others
pub mod Tables
-- readers that answered: what their parts answered
pub mod Readers
-- parts of slices, and stores into them
pub mod Parts
-- loops
pub mod Turns
-- signed numbers
pub mod Signs
-- words in a list
pub mod Searches
-- lists
pub mod Lists
