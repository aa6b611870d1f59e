pub mod ShownLaws
pub mod WalkLaws
