-- items, counted up to LIMIT
mod Count
-- what is known of a call that is not refused, and of one that is
pub mod Refusals
