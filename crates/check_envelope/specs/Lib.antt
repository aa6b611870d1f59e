pub mod Outer
pub mod Report
