pub mod Notes
pub mod Events
