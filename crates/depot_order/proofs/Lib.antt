pub mod Examples
pub mod OrderLaws
