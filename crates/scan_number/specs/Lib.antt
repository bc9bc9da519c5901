-- the number n of a header
pub mod Internal
