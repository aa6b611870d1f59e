pub mod Examples
pub mod FaultLaws
