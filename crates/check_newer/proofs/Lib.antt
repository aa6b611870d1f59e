pub mod NewerLaws
