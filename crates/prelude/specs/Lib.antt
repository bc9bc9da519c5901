-- choice by a test
pub mod Pick
-- what a call answers, and what a reader of bytes answers
pub mod Answer
-- bytes, and bytes stored in a buffer
pub mod Bytes
-- what holds for each element of a list
pub mod Each
-- a loop as a definition
pub mod Loop
-- words in a list
pub mod Search
