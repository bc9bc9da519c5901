-- the test of eight bytes says yes exactly if all are plain
pub mod Laws
