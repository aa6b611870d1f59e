pub mod ScenarioLaws
pub mod Examples
pub mod WordLaws
