pub mod Subject
