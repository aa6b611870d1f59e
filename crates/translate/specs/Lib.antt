pub mod Translate
