pub mod Manifest
pub mod Shown
