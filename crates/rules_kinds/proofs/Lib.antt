pub mod KindTests
pub mod KindLaws
