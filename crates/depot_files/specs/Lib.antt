pub mod Files
pub mod Reads
