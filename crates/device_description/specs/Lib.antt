pub mod Scenario
pub mod Values
