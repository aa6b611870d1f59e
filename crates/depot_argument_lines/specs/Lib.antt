pub mod Items
pub mod Arguments
