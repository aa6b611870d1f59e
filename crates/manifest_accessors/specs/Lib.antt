pub mod Heads
pub mod Arguments
pub mod Places
pub mod Accepted
