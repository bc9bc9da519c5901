-- the rule of text: the table of forms, the grammar, the test
pub mod Text
-- what the states of the private functions mean; no public contract cites it
pub mod Internal
-- UTF-8 by RFC 3629, over code points
pub mod Utf8
