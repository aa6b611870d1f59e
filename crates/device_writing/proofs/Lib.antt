pub mod LineLaws
pub mod DigitLaws
pub mod SettingLaws
pub mod SlotLaws
pub mod GoodSlots
pub mod DeviceLaws
pub mod Examples
