pub mod RepeatLaws
pub mod ProgramLaws
