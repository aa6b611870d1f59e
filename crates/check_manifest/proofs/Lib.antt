pub mod InBytesLaws
pub mod SectionLaws
pub mod ListLaws
pub mod CommonLaws
pub mod ManifestLaws
