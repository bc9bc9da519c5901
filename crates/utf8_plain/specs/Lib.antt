-- plain bytes, and the test of eight
pub mod Plain
