-- what check and depths answer, and leave in the tables
pub mod Tables
