pub mod EndLaws
pub mod PerformLaws
pub mod LentLaws
