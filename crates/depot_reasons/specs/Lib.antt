pub mod First
pub mod BadSlots
pub mod Reasons
