pub mod Digit
pub mod Unique
pub mod Turn
pub mod Same
