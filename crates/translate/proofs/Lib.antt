pub mod TranslateLaws
pub mod TranslatedLaws
