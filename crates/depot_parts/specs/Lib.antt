pub mod Parts
pub mod Seek
