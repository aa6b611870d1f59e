pub mod ArgumentLaws
pub mod FillLaws
