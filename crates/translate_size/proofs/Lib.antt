pub mod ArgumentSizes
pub mod SequenceSizes
pub mod CommandSizes
