pub mod Start
pub mod Names
