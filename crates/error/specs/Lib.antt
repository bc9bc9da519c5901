-- the errors: numbers, names, and what the code's error means
pub mod Error
