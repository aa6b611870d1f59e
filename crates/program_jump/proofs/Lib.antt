pub mod FirstRecord
pub mod JumpLaws
