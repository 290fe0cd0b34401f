pub mod Puts
pub mod Items
pub mod Whole
