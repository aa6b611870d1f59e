pub mod Errors
pub mod Help
pub mod Messages
