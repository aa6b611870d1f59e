pub mod Sections
pub mod Body
