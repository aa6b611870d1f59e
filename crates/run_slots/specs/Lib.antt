pub mod Slot
pub mod Params
