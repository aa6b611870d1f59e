pub mod Items
pub mod Line
