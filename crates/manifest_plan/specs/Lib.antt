pub mod Plan
pub mod Standing
