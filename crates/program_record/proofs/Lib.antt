pub mod RecordLaws
pub mod ReadRecord
