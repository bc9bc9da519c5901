-- numbers as little-endian bytes
pub mod LittleEndian
