pub mod ReadingLaws
pub mod ShortLaws
