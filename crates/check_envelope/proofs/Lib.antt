pub mod OuterLaws
pub mod EnvelopeLaws
