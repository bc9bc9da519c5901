-- why a call is refused
pub mod Refusal
