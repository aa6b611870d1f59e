pub mod LookUpLaws
