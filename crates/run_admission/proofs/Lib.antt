pub mod AdmitLaws
pub mod FrameLaws
