pub mod FormLaws
pub mod ArgumentLaws
