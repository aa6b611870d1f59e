pub mod SubjectLaws
