pub mod Keeping
pub mod SequenceRuns
pub mod TryRuns
