pub mod OnwardLaws
pub mod ExecuteLaws
pub mod StepLaws
pub mod RunRecords
