pub mod ImageLaws
pub mod NumbersLaws
pub mod ParamsLaws
