pub mod Events
pub mod Values
pub mod Images
pub mod Matches
