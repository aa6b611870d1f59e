pub mod Op
pub mod Machine
pub mod Performed
