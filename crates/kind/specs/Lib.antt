-- the kind table
pub mod Kind
-- the code's packed form of a rule
pub mod Internal
