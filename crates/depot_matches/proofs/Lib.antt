pub mod FindLaws
pub mod TurnLaws
