pub mod Known
pub mod Program
